-- A rule that notes nothing, and then another.
use Rattle.std.proofs.Common.{◌≡◌, Result, Ok, Err, ap, subst, sym}
use Rattle.std.specs.Result.{IsErrAnd}
use Rattle.expression_typing.specs.Progress as p
use Rattle.expression_typing.specs.Outcomes.{Checking, go_on, give}
use Rattle.typing_base.specs.declared.faults.Fault.{Fault}
use Rattle.typing_base.specs.declared.faults.Fault.TheVariants as F
use Rattle.typing_base.specs.declared.notes.Notes.{Notes}
use Rattle.typing_base.specs.Follows.{Becomes, Gives}

pub err_of : {A : Type 0} (fault : Fault) (result : Result A Fault) → IsErrAnd result (λ e. e ≡ fault) → result ≡ Err fault
err_of fault (Ok x) h = absurd h
err_of fault (Err e) h = ap Err h

pub rule_fails : {A B C D : Type 0} (view : B → A) (other : D → C) (rule : Checking A) (next : A → Checking C) (fault : Fault) (n : p.Notes) (notes : Notes)
    → Gives view rule (Err fault) → Becomes other (go_on next (rule n)) (Err fault) notes
rule_fails view other rule next (F.Broken b) n notes is = ap (λ r. go_on next (r n)) is
rule_fails view other rule next F.Memory n notes is = tt

pub after_rule : {A C D : Type 0} (view : D → C) (rule : Checking A) (next : A → Checking C) (a : A) (n : p.Notes) (result : Result D Fault) (notes : Notes)
    → rule ≡ give a → Becomes view (next a n) result notes → Becomes view (go_on next (rule n)) result notes
after_rule view rule next a n result notes given is = subst (λ r. Becomes view (go_on next (r n)) result notes) (sym given) is
