-- What the loop over the bits of a count keeps.
use Rattle.std.specs.Prelude.{◌≡◌, ℕ, ◌^◌, Bool, true, false, List, drop, length}
use Rattle.rvt_num.specs.declared.operations.BinOp.{BinOp}
use Rattle.rvt_num.specs.declared.operations.BinOp.TheVariants.{Shl, Shr}
use Rattle.aig_build.specs.declared.lits.Lit.{Lit}
use Rattle.aig_build.specs.Circuits.{Node, Grows}
use Rattle.bit_ops.specs.Built.{shift_built}
use Rattle.bit_words.specs.Words.{AreThere}

abbrev pub shift_op : Bool → BinOp
shift_op true = Shl
shift_op false = Shr

-- what a shift by the bits of the count that are left gives, of the bits so far, is what a shift by all of them gives
pub record IsShifting (first now : List Node) (up : Bool) (fill : Lit) (xs cs bits : List Lit) (step at : ℕ) : Type 0 where
  pub resumes : shift_built now up fill bits (drop at cs) step ≡ shift_built first up fill xs cs 1
  pub grows : Grows first now
  pub there : AreThere now bits
  pub wide : length bits ≡ length xs
  pub step_is : step ≡ 2 ^ at
