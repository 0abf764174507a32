-- One step after another.
use Rattle.std.proofs.Common.{◌≡◌, ◌∙◌, Result, Ok, Err, ap, subst, sym}
use Rattle.std.specs.Result.{IsErrAnd}
use Rattle.expression_typing.specs.Progress as p
use Rattle.expression_typing.specs.Outcomes.{Outcome, Made, Checking, go_on}
use Rattle.typing_base.specs.declared.faults.Fault.{Fault}
use Rattle.typing_base.specs.declared.faults.Fault.TheVariants as F
use Rattle.typing_base.specs.declared.notes.Notes.{Notes}
use Rattle.typing_base.specs.Views.{notes_view}
use Rattle.typing_base.specs.Follows.{Becomes, Gives}

pub becomes_same : {A B : Type 0} (view : B → A) (outcome other : Outcome A) (result : Result B Fault) (notes : Notes)
    → outcome ≡ other → Becomes view other result notes → Becomes view outcome result notes
becomes_same view outcome other result notes e is = subst (λ o. Becomes view o result notes) (sym e) is

-- a rule that notes nothing, applied
pub gives_becomes : {A B : Type 0} (view : B → A) (rule : Checking A) (result : Result B Fault) (notes : Notes)
    → Gives view rule result → Becomes view (rule (notes_view notes)) result notes
gives_becomes view rule (Ok made) notes e = ap (λ r. r (notes_view notes)) e
gives_becomes view rule (Err (F.Broken b)) notes e = ap (λ r. r (notes_view notes)) e
gives_becomes view rule (Err F.Memory) notes e = tt

-- a rule that notes nothing, behind a step
pub then_rule : {A B C : Type 0} (view : C → B) (first : Outcome A) (whole : Outcome B) (next : A → Checking B) (x : A) (result : Result C Fault) (notes : Notes)
    → whole ≡ go_on next first → first ≡ Made x (notes_view notes) → Gives view (next x) result → Becomes view whole result notes
then_rule view first whole next x result notes w e is =
    becomes_same view whole (next x (notes_view notes)) result notes (w ∙ ap (go_on next) e) (gives_becomes view (next x) result notes is)

-- a rule that is broken, and so is what it is a part of
pub gives_fail : {A B C D : Type 0} (view : B → A) (other : D → C) (rule : Checking A) (next : A → Checking C) (fault : Fault) (m : p.Notes) (notes : Notes)
    → Gives view rule (Err fault) → Becomes other (go_on next (rule m)) (Err fault) notes
gives_fail view other rule next (F.Broken b) m notes is = ap (λ r. go_on next (r m)) is
gives_fail view other rule next F.Memory m notes is = tt

pub err_of : {A : Type 0} (fault : Fault) (result : Result A Fault) → IsErrAnd result (λ e. e ≡ fault) → result ≡ Err fault
err_of fault (Ok x) h = absurd h
err_of fault (Err e) h = ap Err h
