-- Parts that are done one after another, and then the rest.
use Rattle.std.proofs.Common.{◌≡◌, ℕ, Bool, ap, ◌∙◌}
use Rattle.rvt_tree.specs.declared.programs.Program.{Program}
use Rattle.rvt_tree.specs.Syntax.{Expression}
use Rattle.rvt_num.specs.declared.values.Value.{Value}
use Rattle.c_meaning.specs.Outcomes.{State, Doing, Manner, give, go_on, and_then}
use Rattle.c_meaning.specs.Stores.{holds}
use Rattle.c_meaning.specs.Expressions.{value_of, condition}
use Rattle.c_meaning.specs.Runs.{stepping}
use Rattle.c_tasks.specs.Operands.{Operands, with_manner}
use Rattle.c_tasks.specs.Tasks.{Rest, ending}
use Rattle.c_tasks.proofs.Sequences.{one_part}

-- three parts
pub in_turn : {A B C D : Type 0} (first : Doing ℕ A) (f : A → Doing ℕ B) (g : B → Doing ℕ C) (next : C → Doing ℕ D) (s : State ℕ) →
    and_then first (λ a. and_then (f a) (λ b. and_then (g b) next)) s ≡ and_then (and_then (and_then first f) g) next s
in_turn first f g next s = one_part first f (λ b. and_then (g b) next) s ∙ one_part (and_then first f) g next s

-- what is done by the value of a test
pub on_value : (program : Program) (d : ℕ) (e : Expression) (f : Bool → Doing ℕ Manner) (next : Manner → Doing ℕ Value) (s : State ℕ) →
    and_then (value_of program (stepping program d) e) (λ v. and_then (f (holds v)) next) s ≡ and_then (and_then (condition program (stepping program d) e) f) next s
on_value program d e f next s = in_turn (value_of program (stepping program d) e) (λ v. give (holds v)) f next s

-- two parts that end alike
pub ends_alike : (program : Program) (d : ℕ) (first second : Doing ℕ Manner) (next : Rest) (on : Operands) (s : State ℕ) → first s ≡ second s → ending program d first next on s ≡ ending program d second next on s
ends_alike program d first second next on s e = ap (go_on (λ manner. next (with_manner manner on))) e
