-- How numbers and pointers are written on the command line.
use Rattle.std.specs.Prelude.{◌≡◌, ◌≢◌, ℕ, ◌^◌, ◌≤ℤ◌, List, [], ◌∷◌, ◌++◌, codes, ℤ, pos, neg_ℤ, EachIndex, slice_index}
use Rattle.std.specs.Str.Parse.{IsNumeral, digits_value}

-- decimal digits that write this number
pub record AreDigitsOf (digits : List ℕ) (n : ℕ) : Type 0 where
  pub numeral : IsNumeral 10 digits
  pub value : digits_value 10 digits ≡ n

-- digits, or `-` and digits
pub data IsWhole (text : List ℕ) : ℤ → Type 0 where
  unsigned : (n : ℕ) → AreDigitsOf text n → IsWhole text (pos n)
  negated : (digits : List ℕ) (n : ℕ) → text ≡ codes "-" ++ digits → AreDigitsOf digits n → IsWhole text (neg_ℤ (pos n))

-- from -2^64 to 2^64
abbrev pub IsNear : ℤ → Type 0
IsNear whole = (neg_ℤ (pos (2 ^ 64)) ≤ℤ whole) × (whole ≤ℤ pos (2 ^ 64))

-- `&NAME[K]`, where no `[` stands in NAME
pub record IsAddress (text name digits : List ℕ) : Type 0 where
  pub written : text ≡ codes "&" ++ (name ++ (codes "[" ++ (digits ++ codes "]")))
  pub plain : EachIndex name (λ i. slice_index name i ≢ 91)
