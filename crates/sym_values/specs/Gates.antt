-- What the tests and choices that are built between lists of literals are worth.
use Rattle.std.specs.Prelude.{◌≡◌, Bool, true, cond, List, length, map}
use Rattle.aig_build.specs.Circuits.{Node, constant}
use Rattle.aig_build.specs.declared.lits.Lit.{Lit}
use Rattle.bit_words.specs.Built.{carried_built, ripple_built}
use Rattle.bit_words.specs.declared.cells.Cell.TheVariants.{Equal, Choice}
use Rattle.sym_values.specs.Valuations.{Valuation, IsValuation}

-- from one circuit comes another, in which a literal is true exactly where this holds
pub record Tells (v : Valuation) (old new : List Node) (lit : Lit) (fact : Type 0) : Type 0 where
  pub back : IsValuation new v → IsValuation old v
  pub holds : IsValuation new v → v lit ≡ true → fact
  pub is_true : IsValuation new v → fact → v lit ≡ true

-- the test of two lists of literals is true where their values are equal
abbrev pub EqualityLaw : Type 0
EqualityLaw = (v : Valuation) (ns : List Node) (xs ys : List Lit) → length xs ≡ length ys
    → Tells v ns (carried_built ns Equal (constant true) xs ys).nodes (carried_built ns Equal (constant true) xs ys).lit (map v xs ≡ map v ys)

-- from one circuit comes another, in which literals have these values
pub record GiveAll (v : Valuation) (old new : List Node) (lits : List Lit) (values : List Bool) : Type 0 where
  pub back : IsValuation new v → IsValuation old v
  pub are : IsValuation new v → map v lits ≡ values

-- a choice between two lists of literals has the values of the chosen one
abbrev pub ChoiceLaw : Type 0
ChoiceLaw = (v : Valuation) (ns : List Node) (which : Lit) (xs ys : List Lit) → length xs ≡ length ys
    → GiveAll v ns (ripple_built ns Choice which xs ys).nodes (ripple_built ns Choice which xs ys).bits (cond (v which) (map v xs) (map v ys))
