-- From one result to another.
use Rattle.std.proofs.Common.{◌≡◌, ◌∙◌, Result, Ok, Err, ap, subst, sym}
use Rattle.std.specs.Result.{IsErrAnd}
use Rattle.expression_typing.specs.Outcomes.{Outcome, Checking, go_on}
use Rattle.typing_base.specs.declared.faults.Fault.{Fault}
use Rattle.typing_base.specs.declared.faults.Fault.TheVariants as F
use Rattle.typing_base.specs.declared.notes.Notes.{Notes}
use Rattle.typing_base.specs.Views.{notes_view}
use Rattle.typing_base.specs.Follows.{Becomes, Gives}

-- a rule that notes nothing, applied
pub gives_becomes : {A B : Type 0} (view : B → A) (rule : Checking A) (result : Result B Fault) (notes : Notes)
    → Gives view rule result → Becomes view (rule (notes_view notes)) result notes
gives_becomes view rule (Ok made) notes e = ap (λ r. r (notes_view notes)) e
gives_becomes view rule (Err (F.Broken b)) notes e = ap (λ r. r (notes_view notes)) e
gives_becomes view rule (Err F.Memory) notes e = tt

pub becomes_same : {A B : Type 0} (view : B → A) (outcome other : Outcome A) (result : Result B Fault) (notes : Notes)
    → outcome ≡ other → Becomes view other result notes → Becomes view outcome result notes
becomes_same view outcome other result notes e is = subst (λ o. Becomes view o result notes) (sym e) is

-- a rule applied to what has this outcome
pub gives_at : {A B : Type 0} (view : B → A) (outcome : Outcome A) (rule : Checking A) (result : Result B Fault) (notes : Notes)
    → outcome ≡ rule (notes_view notes) → Gives view rule result → Becomes view outcome result notes
gives_at view outcome rule result notes e is = becomes_same view outcome (rule (notes_view notes)) result notes e (gives_becomes view rule result notes is)

-- a step that fails, and so does what it is a part of
pub fails : {A B C D : Type 0} (view : B → A) (other : D → C) (first : Outcome A) (whole : Outcome C) (next : A → Checking C) (fault : Fault) (notes : Notes)
    → whole ≡ go_on next first → Becomes view first (Err fault) notes → Becomes other whole (Err fault) notes
fails view other first whole next (F.Broken b) notes e is = e ∙ ap (go_on next) is
fails view other first whole next F.Memory notes e is = tt

-- a `?` that leaves with a fault
pub residual : {A B : Type 0} (view : B → A) (outcome : Outcome A) (result : Result B Fault) (fault : Fault) (notes : Notes)
    → IsErrAnd result (λ e. e ≡ fault) → Becomes view outcome (Err fault) notes → Becomes view outcome result notes
residual view outcome (Ok made) fault notes impossible is = absurd impossible
residual view outcome (Err e) fault notes same is = subst (λ f. Becomes view outcome (Err f) notes) (sym same) is
