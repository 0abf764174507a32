-- What the notes of functions say of the entries whose notes they are.
use Rattle.std.proofs.Common.{◌≡◌, ℕ, List, [], ◌∷◌, ◌++◌, map, flat_map, Bool, true, false, not, cond, Option, Some, None, option_map, refl, sym, ap, ◌∙◌}
use Rattle.std.specs.List.{find}
use Rattle.std.specs.Prelude.{slice_get}
use Rattle.std.proofs.lemmas.List.{map-append}
use Rattle.std.proofs.lemmas.Option.{slice_get-map}
use Rattle.expression_typing.specs.Progress.{Call as CallRecord}
use Rattle.file_typing.specs.CallCycles.{has_body, calls_in, first_without_body, call_graph}
use Rattle.file_typing.specs.FileScope.{FunctionEntry}
use Rattle.typing_base.specs.declared.notes.Call.{Call}
use Rattle.call_cycles.specs.declared.notes.FunctionNotes.{FunctionNotes}
use Rattle.typing_base.specs.NoteViews.{call_view}
use Rattle.call_cycles.specs.Noted.{Noted, noted, notes_view, AreNotesOf, calls_between, is_defined, defined_there}
use Rattle.call_cycles.proofs.Elements.{map-map}
use Rattle.call_cycles.proofs.MissingCalls.{lacks_body, all_calls}

-- ---- which functions have a body

abbrev defined_in : Option Noted → Bool
defined_in None = false
defined_in (Some one) = one.defined

by_entries : (entries : List FunctionEntry) (number : ℕ) (o : Option FunctionEntry) → slice_get entries number ≡ o → has_body entries number ≡ defined_in (option_map noted o)
by_entries entries number None e = rw e
by_entries entries number (Some entry) e = rw e

by_notes : (o : Option FunctionNotes) → defined_there o ≡ defined_in (option_map notes_view o)
by_notes None = refl
by_notes (Some notes) = refl

same_bodies : (functions : List FunctionNotes) (entries : List FunctionEntry) → AreNotesOf functions entries → (number : ℕ) → is_defined functions number ≡ has_body entries number
same_bodies functions entries same number =
    let there : option_map notes_view (slice_get functions number) ≡ option_map noted (slice_get entries number) =
    sym (slice_get-map notes_view functions number) ∙ (ap (λ list. slice_get list number) same ∙ slice_get-map noted entries number)
    in
    by_notes (slice_get functions number) ∙ (ap defined_in there ∙ sym (by_entries entries number (slice_get entries number) refl))

-- ---- all calls, in order

abbrev calls_of : List Noted → List CallRecord
calls_of all = flat_map (λ one. one.calls) all

calls_of_entries : (entries : List FunctionEntry) → calls_of (map noted entries) ≡ flat_map (λ entry. calls_in entry.body) entries
calls_of_entries [] = refl
calls_of_entries (entry ∷ entries) = ap (λ rest. calls_in entry.body ++ rest) (calls_of_entries entries)

calls_of_notes : (functions : List FunctionNotes) → calls_of (map notes_view functions) ≡ map call_view (all_calls functions)
calls_of_notes [] = refl
calls_of_notes (notes ∷ functions) = ap (λ rest. map call_view notes.calls.now ++ rest) (calls_of_notes functions) ∙ sym (map-append call_view notes.calls.now (all_calls functions))

same_calls : (functions : List FunctionNotes) (entries : List FunctionEntry) → AreNotesOf functions entries → map call_view (all_calls functions) ≡ flat_map (λ entry. calls_in entry.body) entries
same_calls functions entries same = sym (calls_of_notes functions) ∙ (ap calls_of same ∙ calls_of_entries entries)

-- ---- the first call of a function without a body

found_alike : (call : Call) (a b : Bool) → a ≡ b → (rest : Option Call) (others : Option CallRecord) → option_map call_view rest ≡ others → option_map call_view (cond a (Some call) rest) ≡ cond b (Some (call_view call)) others
found_alike call true true e rest others r = refl
found_alike call false false e rest others r = r
found_alike call true false e rest others r = absurd (cc)
found_alike call false true e rest others r = absurd (cc)

find-map : (p : CallRecord → Bool) (q : Call → Bool) → ((call : Call) → q call ≡ p (call_view call)) → (calls : List Call) → option_map call_view (find q calls) ≡ find p (map call_view calls)
find-map p q same [] = refl
find-map p q same (call ∷ calls) = found_alike call (q call) (p (call_view call)) (same call) (find q calls) (find p (map call_view calls)) (find-map p q same calls)

pub missing_call_is : (functions : List FunctionNotes) (entries : List FunctionEntry) → AreNotesOf functions entries → option_map call_view (find (lacks_body functions) (all_calls functions)) ≡ first_without_body entries
missing_call_is functions entries same =
    let p : CallRecord → Bool = λ (call : CallRecord). not (has_body entries call.function) in
    let each : (call : Call) → lacks_body functions call ≡ p (call_view call) = λ (call : Call). ap not (same_bodies functions entries same call.function) in
    find-map p (lacks_body functions) each (all_calls functions) ∙ ap (find p) (same_calls functions entries same)

-- ---- the graph of calls

abbrev graph_of_all : List Noted → List (List ℕ)
graph_of_all all = map (λ one. map (λ call. call.function) one.calls) all

graph_of_notes : (functions : List FunctionNotes) → graph_of_all (map notes_view functions) ≡ calls_between functions
graph_of_notes [] = refl
graph_of_notes (notes ∷ functions) = let row = map-map (λ (call : CallRecord). call.function) call_view notes.calls.now in let rest = graph_of_notes functions in cc

pub same_graph : (functions : List FunctionNotes) (entries : List FunctionEntry) → AreNotesOf functions entries → calls_between functions ≡ call_graph entries
same_graph functions entries same =
    sym (graph_of_notes functions) ∙ (ap graph_of_all same ∙ map-map (λ (one : Noted). map (λ (call : CallRecord). call.function) one.calls) noted entries)
