-- What is to come of an `if` whose test is known, and of the rest of a block.
use Rattle.std.specs.Prelude.{ℕ, Bool, if◌then◌else◌, Option, Some, None}
use Rattle.rvt_tree.specs.declared.programs.Program.{Program}
use Rattle.rvt_tree.specs.Syntax.{Statement, Statements}
use Rattle.c_meaning.specs.Outcomes.{Doing, Manner, Normally, give}
use Rattle.c_meaning.specs.Statements.{normally_then, meaning, block}
use Rattle.c_meaning.specs.Runs.{stepping}
use Rattle.c_tasks.specs.Tasks.{Rest, ending}

module _ (program : Program) (d : ℕ) where
  abbrev pub otherwise : Option Statement → Doing ℕ Manner
  otherwise None = give Normally
  otherwise (Some second) = meaning program (stepping program d) second

  abbrev pub branching_by : Bool → Statement → Option Statement → Rest → Rest
  branching_by holds first second = ending program d (if holds then meaning program (stepping program d) first else otherwise second)

  -- only where what came before ended normally
  abbrev pub resting : Statements → Rest → Rest
  resting body next on = ending program d (normally_then (block program (stepping program d) body) on.manner) next on
