-- What is sought at the end of a file: addresses of locals in functions on a call cycle.
use Rattle.std.proofs.Common.{◌≡◌, ℕ, zero, suc, List, [], ◌∷◌, slice_get, Option, Some, None, Ok, Err, inr, refl, sym, ap, ◌∙◌, codes, arith}
use Rattle.rvt_tree.specs.declared.places.Place.{Place}
use Rattle.rvt_tree.specs.declared.expressions.Variable.TheVariants as V
use Rattle.c_syntax.specs.Syntax as s
use Rattle.c_syntax.specs.declared.bases.Specifier.TheVariants as B
use Rattle.c_syntax.specs.declared.bases.TypeWord.TheVariants as T
use Rattle.c_syntax.specs.declared.operators.Prefix.TheVariants as P
use Rattle.call_graph.specs.Graphs.{At, here}
use Rattle.expression_typing.specs.Outcomes.{address_on_a_call_cycle, Outcome, Made, Broken}
use Rattle.expression_typing.specs.Progress.{Notes, Taken, nothing_noted}
use Rattle.file_typing.specs.CallCycles.{TakesLocal, IsNotBehind, IsAddressOnCycle, IsFirstAddressOnCycle, HasNoAddressOnCycle}
use Rattle.file_typing.specs.Elaboration.{Elaborated, takes_address_on_cycle, is_program, whole_file}
use Rattle.file_typing.specs.FileScope.{FileScope, FunctionEntry, Body}
use Rattle.file_typing.specs.Items.{beginning}
use Rattle.file_typing.proofs.Written.{at, word, int, base, star, plain, set_to, parameter_of, local, alone}

-- ---- a file of one function

moved : {X : Type 0} {xs ys : List X} {y : X} (k : ℕ) → xs ≡ ys → At ys k y → At xs k y
moved k same h = ap (λ list. slice_get list k) same ∙ h

abbrev some_or : {X : Type 0} → X → Option X → X
some_or other None = other
some_or other (Some x) = x

only_one : {X : Type 0} {x y : X} (k : ℕ) → At (x ∷ []) k y → x ≡ y
only_one {x = x} zero h = ap (some_or x) h
only_one {y = y} (suc k) h = absurd (let q : None ≡ Some y = h in cc)

the_body : {a b : Body} → ◌≡◌ {A = Option Body} (Some a) (Some b) → a ≡ b
the_body {a = a} h = ap (some_or a) h

-- the one address that is taken stands at its place
only_taken : (entry : FunctionEntry) (body : Body) (taken : Taken) → entry.body ≡ Some body → body.taken ≡ taken ∷ []
    → (number : ℕ) (place : Place) → TakesLocal (entry ∷ []) number place → taken.place ≡ place
only_taken entry body taken its_body one number place takes = ap (λ taken. taken.place) same_taken where
  same_entry : entry ≡ takes.entry
  same_entry = only_one number takes.is_there

  same_body : body ≡ takes.body
  same_body = the_body (sym its_body ∙ ap (λ entry. entry.body) same_entry ∙ takes.its_body)

  same_taken : taken ≡ record { variable = V.Local takes.local; place = place }
  same_taken = only_one takes.k (moved takes.k (sym one ∙ ap (λ body. body.taken) same_body) takes.taken)

not_behind_itself : {a b : Place} → a ≡ b → IsNotBehind a b
not_behind_itself {a = a} {b = b} e = inr (ap (λ place. place.line) e, (let c : a.column ≡ b.column = ap (λ place. place.column) e in omega (arith, c)))

-- ---- files

abbrev file_of : Outcome FileScope → FileScope
file_of (Made file notes) = file
file_of (Broken cause place) = beginning []

abbrev notes_of : Outcome FileScope → Notes
notes_of (Made file notes) = notes
notes_of (Broken cause place) = nothing_noted

-- a file without items
nothing : Elaborated [] (Ok (record { structs = []; functions = []; objects = [] }))
nothing = is_program {file = beginning []} {notes = nothing_noted} refl refl none where
  none : HasNoAddressOnCycle []
  none place (number, takes, cycle) = absurd (let q : None ≡ Some takes.entry = takes.is_there in cc)

-- int f(int *p) { int x = 0; return f(&x); }
abbrev calls_itself : List s.ExternalItem
calls_itself =
    s.function_definition (alone (base 1 (B.Words (T.Int ∷ [])))) (word (codes "f") 5)
    (s.parameters (parameter_of (base 7 (B.Words (T.Int ∷ []))) (Some (star 11)) (Some (word (codes "p") 12)) s.no_dimensions ∷ []))
    (s.compound (at 15)
    (s.block_of
    ((s.local_declaration
    (local (base 17 (B.Words (T.Int ∷ []))) (set_to (plain (word (codes "x") 21)) (s.initial_value (int 0 25)) ∷ []))) ∷
    (s.inner_statement
    (s.return_value (at 28)
    (s.call (word (codes "f") 35) (s.arguments_of ((s.unary P.Address (at 37) (s.identifier (word (codes "x") 38))) ∷ []))))) ∷
    []))) ∷
    []

address_taken : IsAddressOnCycle (file_of (whole_file calls_itself)).functions (at 37)
address_taken = (
  0,
  record { entry = _; is_there = refl; body = _; its_body = refl; local = 1; k = 0; taken = refl },
  (0, record { successors = 0 ∷ []; is_there = refl; place = 0; leads = refl }, here),
)

first_address : IsFirstAddressOnCycle (file_of (whole_file calls_itself)).functions (at 37)
first_address =
    record {
      there = address_taken;
      first = λ other h. not_behind_itself (only_taken _ _ _ refl refl h.0 other h.1);
    }

on_cycle : Elaborated calls_itself (Err (record { cause = address_on_a_call_cycle; place = at 37 }))
on_cycle =
    takes_address_on_cycle {file = file_of (whole_file calls_itself)} {notes = notes_of (whole_file calls_itself)} refl refl first_address
