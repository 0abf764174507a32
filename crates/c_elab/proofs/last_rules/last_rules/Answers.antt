use Rattle.std.proofs.Common.{◌≡◌, List, Err, map, Option, Some, None, MatchOption, sym, ap, ◌∙◌, subst}
use Rattle.std.proofs.lemmas.Option.{MatchOption-at_none}
use Rattle.rvt_tree.specs.declared.places.Place.{Place}
use Rattle.file_typing.specs.CallCycles.{HasNoAddressOnCycle, IsFirstAddressOnCycle, first_without_body}
use Rattle.file_state.specs.Views.{function_entry_view}
use Rattle.call_cycles.specs.Noted.{AreNotesOf}
use Rattle.call_cycles.specs.declared.notes.FunctionNotes.{FunctionNotes}
use Rattle.typing_base.specs.NoteViews.{call_view}
use Rattle.typing_base.specs.declared.faults.Cause.{Cause}
use Rattle.typing_base.specs.declared.faults.Cause.TheVariants as C
use Rattle.typing_base.specs.declared.faults.Fault.{Fault}
use Rattle.typing_base.specs.declared.faults.Fault.TheVariants as F
use Rattle.c_elab.specs.LastRules.{IsSought}
use Rattle.c_elab.specs.LastRules as l
use Rattle.c_elab.proofs.last_rules.last_rules.Goals as goal

pub returns-in-Some : goal.returns-in-Some
returns-in-Some c =
    let entries = map function_entry_view c.args.functions.now in
    let same : AreNotesOf c.as_slice-notes.result.now entries = subst (λ (notes : List FunctionNotes). AreNotesOf notes entries) (sym c.as_slice-notes.ensures.value) c.in_ok-list.ensures in
    let call = c.in-Some.call.now in
    let first : Some (call_view call) ≡ first_without_body entries = c.in-Some.ensures.first entries same in
    let told : c.broken.result ≡ F.Broken (record { cause = C.NoBody call.name; place = call.place }) = c.broken.ensures ∙ ap (λ (cause : Cause). F.Broken (record { cause = cause; place = call.place })) c.in_ok-cause-in-Some.ensures in
    subst (λ (fault : Fault). IsSought entries (Err fault)) (sym told) (l.calls_no_body (call_view call) (sym first))

pub returns-in-Ok-Some : goal.returns-in-Ok-Some
returns-in-Ok-Some c =
    let entries = map function_entry_view c.args.functions.now in
    let same : AreNotesOf c.as_slice-notes.result.now entries = subst (λ (notes : List FunctionNotes). AreNotesOf notes entries) (sym c.as_slice-notes.ensures.value) c.in_ok-list.ensures in
    let none : None ≡ first_without_body entries = c.in-None.ensures.first entries same in
    let found : IsFirstAddressOnCycle entries c.in-Ok-Some.place =
    subst (λ (place : Option Place). MatchOption place (HasNoAddressOnCycle entries) (IsFirstAddressOnCycle entries)) c.in-Ok-Some.field-0-is (c.in-Ok-Some.ensures entries same) in
    subst (λ (fault : Fault). IsSought entries (Err fault)) (sym c.broken-in-Ok-Some.ensures) (l.takes_address_on_cycle c.in-Ok-Some.place (sym none) found)

pub returns-in-Ok-None : goal.returns-in-Ok-None
returns-in-Ok-None c =
    let entries = map function_entry_view c.args.functions.now in
    let same : AreNotesOf c.as_slice-notes.result.now entries = subst (λ (notes : List FunctionNotes). AreNotesOf notes entries) (sym c.as_slice-notes.ensures.value) c.in_ok-list.ensures in
    (sym (c.in-None.ensures.first entries same), MatchOption-at_none (HasNoAddressOnCycle entries) (IsFirstAddressOnCycle entries) c.in-Ok-None.field-0-is (c.in-Ok-None.ensures entries same))
