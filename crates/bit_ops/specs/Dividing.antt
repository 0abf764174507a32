-- What the loop over the bits of a dividend keeps.
use Rattle.std.specs.Prelude.{◌≡◌, ℕ, ◌-◌, List, drop, length}
use Rattle.aig_build.specs.declared.lits.Lit.{Lit}
use Rattle.aig_build.specs.Circuits.{Node, Grows}
use Rattle.bit_ops.specs.Built.{quotient_built}
use Rattle.bit_words.specs.Words.{AreThere}

-- the division of the highest bits
pub record IsDividing (first now : List Node) (xs ds quotient rest : List Lit) (done : ℕ) : Type 0 where
  pub divides : quotient_built first (drop (length xs - done) xs) ds ≡ record { nodes = now; quotient = quotient; remainder = rest }
  pub grows : Grows first now
  pub quotient_there : AreThere now quotient
  pub rest_there : AreThere now rest
  pub wide : length rest ≡ length ds
  pub long : length quotient ≡ done
