-- Tests of a number against a constant.
use Rattle.std.specs.Prelude.{◌≡◌, ◌<◌, ℕ, ◌^◌, ◌/◌, ◌%◌, ◌==◌, ◌&&◌, false, List, [], ◌∷◌, length, drop, map, if◌then◌else◌}
use Rattle.aig_build.specs.Built.{Made, and_built}
use Rattle.aig_build.specs.Circuits.{Node, Grows, constant, opposite}
use Rattle.aig_build.specs.declared.lits.Lit.{Lit}
use Rattle.bit_words.specs.Words.{number_of_bits}
use Rattle.sym_values.specs.Valuations.{Valuation, Gives}

-- the bit where the number is odd, else its opposite
abbrev pub as_lowest : ℕ → Lit → Lit
as_lowest n bit = if n % 2 == 1 then bit else opposite bit

-- whether a literal is true and the number with these bits is n. It is made from the highest bit on, so that tests against numbers with
-- the same highest bits share their gates
unfoldable pub test_built : List Node → Lit → List Lit → ℕ → Made
test_built ns also [] n = record { nodes = ns; lit = if n == 0 then also else constant false }
test_built ns also (bit ∷ bits) n =
    let high = test_built ns also bits (n / 2) in
    and_built high.nodes high.lit (as_lowest n bit)

abbrev pub TestLaw : Type 0
TestLaw = (v : Valuation) (ns : List Node) (also : Lit) (bits : List Lit) (n : ℕ) → Gives v ns (test_built ns also bits n).nodes (test_built ns also bits n).lit (v also && number_of_bits (map v bits) == n)

-- the bits from the place `left` on are tested
pub record IsTesting (first now : List Node) (also lit : Lit) (bits : List Lit) (n left : ℕ) : Type 0 where
  pub is : test_built first also (drop left bits) (n / 2 ^ left) ≡ record { nodes = now; lit = lit }
  pub grows : Grows first now
  pub there : lit.node < length now
