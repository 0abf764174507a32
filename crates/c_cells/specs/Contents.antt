-- What a cell of 16 bytes holds, and which value that is.
use Rattle.std.specs.Prelude.{◌≡◌, Bool, true, false, ℤ, pos, unsigned_abs, refl}
use Rattle.rvt_num.specs.Kinds.{IsOf}
use Rattle.rvt_num.specs.declared.kinds.Kind.{Kind}
use Rattle.rvt_num.specs.declared.kinds.Kind.TheVariants.{Bool as BoolKind, I8, U8, I16, U16, I32, U32, I64, U64}
use Rattle.rvt_num.specs.declared.values.Value.{Value}
use Rattle.rvt_num.specs.declared.values.Value.TheVariants as V
use Rattle.c_cells.specs.declared.cells.Content.{Content}
use Rattle.c_cells.specs.declared.cells.Content.TheVariants.{Short, Long, Null, At}

-- a kind all of whose numbers fit 64 bits with a sign
abbrev pub is_short : Kind → Bool
is_short BoolKind = true
is_short I8 = true
is_short U8 = true
is_short I16 = true
is_short U16 = true
is_short I32 = true
is_short U32 = true
is_short I64 = true
is_short U64 = false

-- a whole number of a kind, as a value
abbrev pub numeral : Kind → ℤ → Value
numeral k z = V.Num (record { kind = k; value = z })

abbrev pub value_in : Content → Value
value_in (Short kind z) = numeral kind z
value_in (Long n) = numeral U64 (pos n)
value_in Null = V.Null
value_in (At object cell) = V.At object cell

-- a number is one of its kind
abbrev pub IsWithin : Content → Type 0
IsWithin (Short kind z) = (is_short kind ≡ true) × IsOf kind z
IsWithin (Long n) = Unit {0}
IsWithin Null = Unit {0}
IsWithin (At object cell) = Unit {0}

-- the content that stands for a value
abbrev pub content_for : Kind → ℤ → Content
content_for BoolKind z = Short BoolKind z
content_for I8 z = Short I8 z
content_for U8 z = Short U8 z
content_for I16 z = Short I16 z
content_for U16 z = Short U16 z
content_for I32 z = Short I32 z
content_for U32 z = Short U32 z
content_for I64 z = Short I64 z
content_for U64 z = Long (unsigned_abs z)

abbrev pub content_of : Value → Content
content_of (V.Num n) = content_for n.kind n.value
content_of V.Null = Null
content_of (V.At object cell) = At object cell

content_for-short : (kind : Kind) (z : ℤ) → is_short kind ≡ true → content_for kind z ≡ Short kind z
content_for-short BoolKind z s = refl
content_for-short I8 z s = refl
content_for-short U8 z s = refl
content_for-short I16 z s = refl
content_for-short U16 z s = refl
content_for-short I32 z s = refl
content_for-short U32 z s = refl
content_for-short I64 z s = refl
content_for-short U64 z s = cc

-- no content is lost
pub content_of-value_in : (content : Content) → IsWithin content → content_of (value_in content) ≡ content
content_of-value_in (Short kind z) within = content_for-short kind z within.0
content_of-value_in (Long n) within = refl
content_of-value_in Null within = refl
content_of-value_in (At object cell) within = refl
