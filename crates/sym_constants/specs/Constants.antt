-- Values that are the same under every assignment.
use Rattle.std.specs.Prelude.{◌≡◌, ◌<◌, ◌^◌, ℕ, zero, suc, ◌+◌, ◌/◌, ◌%◌, ◌==◌, List, [], ◌∷◌, Some}
use Rattle.aig_build.specs.Circuits.{Node, constant}
use Rattle.aig_build.specs.declared.lits.Lit.{Lit}
use Rattle.bit_ops.specs.declared.values.SymValue.{SymValue}
use Rattle.bit_ops.specs.declared.values.SymValue.TheVariants.{Word, Pointer}
use Rattle.bit_words.specs.Words.{LitWord}
use Rattle.core_ir.specs.Cells.{zero_of}
use Rattle.core_ir.specs.declared.units.Shape.{Shape}
use Rattle.core_ir.specs.declared.units.Shape.TheVariants as shape
use Rattle.rvt_num.specs.Kinds.{width, IsOf}
use Rattle.rvt_num.specs.Wrapping.{bits_of}
use Rattle.rvt_num.specs.declared.kinds.Kind.{Kind}
use Rattle.rvt_num.specs.declared.kinds.Kind.TheVariants.{U32}
use Rattle.rvt_num.specs.declared.values.Value.{Value}
use Rattle.rvt_num.specs.declared.values.Value.TheVariants.{Num, Null, At}
use Rattle.sym_values.specs.Valuations.{Valuation, IsValuation}
use Rattle.sym_values.specs.Values.{value_under, IsLaid}

-- the lowest w bits of a number, the lowest first
abbrev pub number_lits : ℕ → ℕ → List Lit
number_lits zero n = []
number_lits (suc w) n = constant (n % 2 == 1) ∷ number_lits w (n / 2)

abbrev pub number_word : Kind → ℕ → LitWord
number_word k n = record { kind = k; bits = number_lits (width k) n }

-- a number, null, or a pointer
abbrev pub constant_value : Value → SymValue
constant_value (Num n) = Word (number_word n.kind (bits_of n))
constant_value Null = Pointer (number_word U32 0) (number_word U32 0)
constant_value (At o c) = Pointer (number_word U32 (o + 1)) (number_word U32 c)

-- zero, or null
abbrev pub zero_value : Shape → SymValue
zero_value s = constant_value (zero_of s)

-- a number of its kind, or a pointer whose two numbers have a word's width
abbrev pub IsConstant : Value → Type 0
IsConstant (Num n) = IsOf n.kind n.value
IsConstant Null = Prim.Unit {0}
IsConstant (At o c) = (o + 1 < 2 ^ 32) × (c < 2 ^ 32)

-- a constant stands for its value
abbrev pub ConstantLaw : Type 0
ConstantLaw = (v : Valuation) (ns : List Node) (x : Value) → IsValuation ns v → IsConstant x → value_under v (constant_value x) ≡ Some x

-- the value is a number of the shape's kind, or null or a pointer where the shape is one of pointers
abbrev pub IsOfShape : Shape → Value → Type 0
IsOfShape (shape.Word k) (Num n) = n.kind ≡ k
IsOfShape (shape.Word k) _ = ⊥
IsOfShape (shape.Pointer type to_const) (Num n) = ⊥
IsOfShape (shape.Pointer type to_const) _ = Prim.Unit {0}

-- a constant has the layout of its shape
abbrev pub ConstantLaidLaw : Type 0
ConstantLaidLaw = (s : Shape) (x : Value) → IsOfShape s x → IsLaid s (constant_value x)

-- the zero of a shape stands for zero or null, and has the layout of the shape
pub record ZeroLaw : Type 0 where
  pub stands : (v : Valuation) (ns : List Node) (s : Shape) → IsValuation ns v → value_under v (zero_value s) ≡ Some (zero_of s)
  pub laid : (s : Shape) → IsLaid s (zero_value s)
