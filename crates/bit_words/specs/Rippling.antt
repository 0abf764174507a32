-- What the loop over the places of two words keeps.
use Rattle.std.specs.Prelude.{◌≡◌, ℕ, ◌<◌, List, drop, length}
use Rattle.aig_build.specs.declared.lits.Lit.{Lit}
use Rattle.aig_build.specs.Circuits.{Node, Grows}
use Rattle.bit_words.specs.declared.cells.Cell.{Cell}
use Rattle.bit_words.specs.Built.{after_bits, ripple_built}

-- what is built at the places that are left, after the bits that are there, is what is built at all places
pub record IsRippling (first now : List Node) (cell : Cell) (xs ys bits : List Lit) (begin carry : Lit) (at : ℕ) : Type 0 where
  pub resumes : after_bits bits (ripple_built now cell carry (drop at xs) (drop at ys)) ≡ ripple_built first cell begin xs ys
  pub grows : Grows first now
  pub there : carry.node < length now

-- the same where the bits aren't kept
pub record IsCarrying (first now : List Node) (cell : Cell) (xs ys : List Lit) (begin carry : Lit) (at : ℕ) : Type 0 where
  pub bits : List Lit
  pub rippling : IsRippling first now cell xs ys bits begin carry at
