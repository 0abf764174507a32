-- What is known of the applications of the examples.
use Rattle.std.specs.Prelude.{true, false, List, [], ◌∷◌, replicate}
use Rattle.std.specs.List.{AllByRecursion}
use Rattle.aig_build.specs.Circuits.{Node}
use Rattle.aig_build.specs.declared.lits.Lit.{Lit}
use Rattle.bit_ops.specs.declared.values.SymValue.{SymValue}
use Rattle.bit_ops.specs.declared.values.SymValue.TheVariants.{Word as LitNumber}
use Rattle.core_ir.specs.declared.units.Shape.TheVariants.{Word, Pointer}
use Rattle.rvt_num.specs.declared.kinds.Kind.TheVariants.{U8}
use Rattle.rvt_num.specs.declared.values.Trap.TheVariants.{Divide, Shift}
use Rattle.uf_abstraction.specs.Applications.{LitShape, Application}
use Rattle.uf_abstraction.specs.Applying.{IsThere}
use Rattle.uf_abstraction.specs.Congruence.{IsLaidOut}

-- two kinds of trap, a pointer to what isn't constant, and a cell; a target of three cells, and a constant one
abbrev pub one_shape : LitShape
one_shape = record {
  traps = Divide ∷ Shift ∷ [];
  results = Pointer 0 false ∷ [];
  cells = U8 ∷ [];
  targets = (2, 3, false) ∷ (4, 1, true) ∷ [];
}

-- a number of which each bit is this literal
abbrev pub key_of : Lit → List SymValue
key_of lit = LitNumber (record { kind = U8; bits = replicate 8 lit }) ∷ []

-- each name has this shape and a key of one number
abbrev pub AreCalls : List Node → List Application → Type 0
AreCalls nodes applied = AllByRecursion (IsLaidOut (λ _. one_shape) (λ _. Word U8 ∷ [])) applied × AllByRecursion (IsThere nodes) applied
