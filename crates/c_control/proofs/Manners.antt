-- How the last statement ended.
use Rattle.std.proofs.Common.{◌≡◌, ℕ, sym, ap}
use Rattle.rvt_tree.specs.declared.programs.Program.{Program}
use Rattle.c_meaning.specs.Outcomes.{State, Doing, Manner}
use Rattle.c_tasks.specs.Operands.{Operands, with_manner}
use Rattle.c_tasks.specs.Tasks.{Rest, ending}

-- a manner that stays as it is
pub same_manner : (next : Rest) (on : Operands) (manner : Manner) (s : State ℕ) → on.manner ≡ manner → next on s ≡ next (with_manner manner on) s
same_manner next on manner s e = ap (λ m. next (with_manner m on) s) e

-- what is done by the manner, where the manner is known
pub by_manner : (program : Program) (d : ℕ) (part : Manner → Doing ℕ Manner) (manner : Manner) (next : Rest) (on : Operands) (s : State ℕ) → on.manner ≡ manner →
    ending program d (part manner) next on s ≡ ending program d (part on.manner) next on s
by_manner program d part manner next on s e = sym (ap (λ m. ending program d (part m) next on s) e)
