-- The values that words and pointers made of literals stand for.
use Rattle.std.specs.Prelude.{◌≡◌, length, ℕ, zero, suc, Bool, List, [], ◌∷◌, ◌++◌, map, Option, Some, None}
use Rattle.aig_build.specs.declared.lits.Lit.{Lit}
use Rattle.bit_ops.specs.declared.values.SymValue.{SymValue}
use Rattle.bit_ops.specs.declared.values.SymValue.TheVariants.{Word, Pointer}
use Rattle.bit_words.specs.Words.{LitWord, number_of_bits}
use Rattle.core_ir.specs.declared.units.Shape.{Shape}
use Rattle.core_ir.specs.declared.units.Shape.TheVariants as shape
use Rattle.rvt_num.specs.Kinds.{width}
use Rattle.rvt_num.specs.Wrapping.{reading}
use Rattle.rvt_num.specs.declared.kinds.Kind.{Kind}
use Rattle.rvt_num.specs.declared.kinds.Kind.TheVariants.{U32}
use Rattle.rvt_num.specs.declared.values.Value.{Value}
use Rattle.rvt_num.specs.declared.values.Value.TheVariants.{Num, Null, At}
use Rattle.sym_values.specs.Valuations.{Valuation}

-- the number whose bits are those of the word
abbrev pub pattern_under : Valuation → LitWord → ℕ
pattern_under v w = number_of_bits (map v w.bits)

-- object 0 with cell 0 is null, and k + 1 is the object k; object 0 with another cell stands for no value
abbrev pub pointer_of : ℕ → ℕ → Option Value
pointer_of zero zero = Some Null
pointer_of zero (suc c) = None
pointer_of (suc o) c = Some (At o c)

abbrev pub value_under : Valuation → SymValue → Option Value
value_under v (Word w) = Some (Num (record { kind = w.kind; value = reading w.kind (pattern_under v w) }))
value_under v (Pointer o c) = pointer_of (pattern_under v o) (pattern_under v c)

abbrev pub both_stand : Option Value → Option (List Value) → Option (List Value)
both_stand None rest = None
both_stand (Some x) None = None
both_stand (Some x) (Some xs) = Some (x ∷ xs)

-- none where one of them stands for no value
abbrev pub values_under : Valuation → List SymValue → Option (List Value)
values_under v [] = Some []
values_under v (x ∷ xs) = both_stand (value_under v x) (values_under v xs)

-- the literals of which values are made
abbrev pub lits_of : SymValue → List Lit
lits_of (Word w) = w.bits
lits_of (Pointer o c) = o.bits ++ c.bits

abbrev pub all_lits : List SymValue → List Lit
all_lits [] = []
all_lits (x ∷ xs) = lits_of x ++ all_lits xs

-- ---- layout, whatever the assignment

-- a word of the kind, of its width
pub record IsWordOf (kind : Kind) (w : LitWord) : Type 0 where
  pub of_kind : w.kind ≡ kind
  pub of_width : length w.bits ≡ width kind

abbrev pub IsLaid : Shape → SymValue → Type 0
IsLaid (shape.Word k) (Word w) = IsWordOf k w
IsLaid (shape.Pointer type to_const) (Pointer o c) = IsWordOf U32 o × IsWordOf U32 c
IsLaid _ _ = ⊥

-- one for each shape
abbrev pub AreLaid : List Shape → List SymValue → Type 0
AreLaid [] [] = Prim.Unit {0}
AreLaid [] (x ∷ xs) = ⊥
AreLaid (s ∷ ss) [] = ⊥
AreLaid (s ∷ ss) (x ∷ xs) = IsLaid s x × AreLaid ss xs

-- equal values of one layout are equal bits, and equal bits are equal values
pub record BitsTell (v : Valuation) (xs ys : List SymValue) : Type 0 where
  pub to_bits : (values : List Value) → values_under v xs ≡ Some values → values_under v ys ≡ Some values → map v (all_lits xs) ≡ map v (all_lits ys)
  pub long : length (map v (all_lits xs)) ≡ length (map v (all_lits ys))
  pub to_values : map v (all_lits xs) ≡ map v (all_lits ys) → values_under v xs ≡ values_under v ys

abbrev pub BitsLaw : Type 0
BitsLaw = (v : Valuation) (shapes : List Shape) (xs ys : List SymValue) → AreLaid shapes xs → AreLaid shapes ys → BitsTell v xs ys
