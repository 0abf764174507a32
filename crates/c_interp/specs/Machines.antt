-- What a contract sees of a machine.
use Rattle.std.specs.Prelude.{ℕ, List}
use Rattle.rvt_num.specs.declared.values.Value.{Value}
use Rattle.rvt_tree.specs.declared.programs.Program.{Program}

-- a program, how many calls there may be in one another, and the store that the last run left
pub record Setup : Type 0 where
  pub program : Program
  pub calls : ℕ
  pub store : List Value
