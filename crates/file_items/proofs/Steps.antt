-- A rule whose step is broken, and one that says more of what another makes.
use Rattle.std.proofs.Common.{◌≡◌, Result, Ok, Err, ap, subst, sym}
use Rattle.std.specs.Result.{IsErrAnd}
use Rattle.expression_typing.specs.Progress as p
use Rattle.expression_typing.specs.Outcomes.{Outcome, Checking, go_on, and_then, give}
use Rattle.typing_base.specs.declared.faults.Fault.{Fault}
use Rattle.typing_base.specs.declared.faults.Fault.TheVariants as F
use Rattle.typing_base.specs.declared.notes.Notes.{Notes}
use Rattle.typing_base.specs.Views.{notes_view}
use Rattle.typing_base.specs.Follows.{Becomes, Gives}

err_of : {A : Type 0} (fault : Fault) (result : Result A Fault) → IsErrAnd result (λ e. e ≡ fault) → result ≡ Err fault
err_of fault (Ok x) h = absurd h
err_of fault (Err e) h = ap Err h

-- a step is broken, and so is what it is the first part of
within : {A B C D : Type 0} (view : B → A) (other : D → C) (first : Outcome A) (next : A → Checking C) (fault : Fault) (m m' : Notes)
    → Becomes view first (Err fault) m → Becomes other (go_on next first) (Err fault) m'
within view other first next (F.Broken b) m m' is = ap (go_on next) is
within view other first next F.Memory m m' is = tt

pub fails_within : {A B C D : Type 0} (view : B → A) (other : D → C) (first : Outcome A) (next : A → Checking C) (whole : Outcome C) (fault : Fault) (result : Result D Fault) (m m' : Notes)
    → IsErrAnd result (λ e. e ≡ fault) → whole ≡ go_on next first → Becomes view first (Err fault) m → Becomes other whole result m'
fails_within view other first next whole fault result m m' h e is =
    subst (λ r. Becomes other whole r m') (sym (err_of fault result h))
    (subst (λ o. Becomes other o (Err fault) m') (sym e) (within view other first next fault m m' is))

-- the same of a step that notes nothing
broken_rule : {A B : Type 0} (view : B → A) (rule : Checking A) (fault : Fault) (n : p.Notes) (m : Notes) → Gives view rule (Err fault) → Becomes view (rule n) (Err fault) m
broken_rule view rule (F.Broken b) n m is = ap (λ r. r n) is
broken_rule view rule F.Memory n m is = tt

pub rule_fails_within : {A B C D : Type 0} (view : B → A) (other : D → C) (rule : Checking A) (n : p.Notes) (next : A → Checking C) (whole : Outcome C) (fault : Fault) (result : Result D Fault) (m : Notes)
    → IsErrAnd result (λ e. e ≡ fault) → whole ≡ go_on next (rule n) → Gives view rule (Err fault) → Becomes other whole result m
rule_fails_within view other rule n next whole fault result m h e is =
    fails_within view other (rule n) next whole fault result m m h e (broken_rule view rule fault n m is)

-- the same outcome, of which something else is made where it is none
other_view : {A B C : Type 0} (view : B → A) (other : C → A) (outcome : Outcome A) (fault : Fault) (m m' : Notes)
    → Becomes view outcome (Err fault) m → Becomes other outcome (Err fault) m'
other_view view other outcome (F.Broken b) m m' is = is
other_view view other outcome F.Memory m m' is = tt

pub fails_as : {A B C : Type 0} (view : B → A) (other : C → A) (outcome whole : Outcome A) (fault : Fault) (result : Result C Fault) (m m' : Notes)
    → IsErrAnd result (λ e. e ≡ fault) → whole ≡ outcome → Becomes view outcome (Err fault) m → Becomes other whole result m'
fails_as view other outcome whole fault result m m' h e is =
    subst (λ r. Becomes other whole r m') (sym (err_of fault result h))
    (subst (λ o. Becomes other o (Err fault) m') (sym e) (other_view view other outcome fault m m' is))

-- what a rule makes, as a part of something else
pub gives_more : {A B C : Type 0} (view : B → A) (make : A → C) (rule : Checking A) (result : Result B Fault)
    → Gives view rule result → Gives (λ b. make (view b)) (and_then rule (λ a. give (make a))) result
gives_more view make rule (Ok b) is = ap (λ r. and_then r (λ a. give (make a))) is
gives_more view make rule (Err (F.Broken b)) is = ap (λ r. and_then r (λ a. give (make a))) is
gives_more view make rule (Err F.Memory) is = tt

-- a rule that notes nothing, applied
gives_becomes : {A B : Type 0} (view : B → A) (rule : Checking A) (result : Result B Fault) (notes : Notes)
    → Gives view rule result → Becomes view (rule (notes_view notes)) result notes
gives_becomes view rule (Ok made) notes e = ap (λ r. r (notes_view notes)) e
gives_becomes view rule (Err (F.Broken b)) notes e = ap (λ r. r (notes_view notes)) e
gives_becomes view rule (Err F.Memory) notes e = tt

pub becomes_by_rule : {A B : Type 0} (view : B → A) (whole rule : Checking A) (result : Result B Fault) (notes : Notes)
    → whole ≡ rule → Gives view rule result → Becomes view (whole (notes_view notes)) result notes
becomes_by_rule view whole rule result notes e is = subst (λ r. Becomes view (r (notes_view notes)) result notes) (sym e) (gives_becomes view rule result notes is)

pub becomes_same : {A B : Type 0} (view : B → A) (outcome other : Outcome A) (result : Result B Fault) (notes : Notes)
    → outcome ≡ other → Becomes view other result notes → Becomes view outcome result notes
becomes_same view outcome other result notes e is = subst (λ o. Becomes view o result notes) (sym e) is
