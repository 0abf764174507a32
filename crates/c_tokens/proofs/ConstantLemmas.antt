-- Integer constants: their numbers, and how their texts are written.
use Rattle.std.proofs.Common.{◌||◌, codes, ⊎_elim, ◌≡◌, ℕ, zero, suc, ◌+◌, ◌<◌, ◌≤◌, ◌^◌, ◌-◌, ◌%◌, Bool, true, false, cond, List, [], ◌∷◌, length, take, drop, Option, Some, None, refl, sym, ap, subst, ◌∙◌, arith, pos}
use Rattle.std.specs.Prelude.{option_map}
use Rattle.std.specs.List.{list_all, prefix_len}
use Rattle.std.specs.Str.{bytes_eq}
use Rattle.std.proofs.lemmas.Bool.{ltb-true, and_from, or_cases}
use Rattle.std.proofs.lemmas.Bool.Decides.{nat_tests}
use Rattle.std.proofs.lemmas.Slice.Eq.{bytes_eq-Decides}
use Rattle.std.proofs.lemmas.List.{length-take-le, length-drop, take_all, take-append-drop}
use Rattle.std.proofs.lemmas.List.Folds.{list_all-append}
use Rattle.std.proofs.Math.Nat.{mod-eq_of_lt}
use Rattle.rvt_num.specs.declared.kinds.Kind.{Kind}
use Rattle.rvt_num.specs.declared.kinds.Kind.TheVariants.{Bool as BoolKind, I8, U8, I16, U16, I32, U32, I64, U64}
use Rattle.rvt_num.specs.Number.{Number}
use Rattle.rvt_num.specs.Wrapping.{wrap, wrapped, signed_reading}
use Rattle.rvt_num.proofs.Readings.{signed_reading_low}
use Rattle.c_tokens.specs.declared.constants.Suffix.{Suffix}
use Rattle.c_tokens.specs.declared.digits.Base.{Base}
use Rattle.c_tokens.specs.declared.digits.Base.TheVariants.{Octal, Decimal, Hexadecimal}
use Rattle.c_tokens.specs.Bytes.{is_digit, is_name_byte}
use Rattle.c_tokens.specs.Constants.{holds, first_holding, kinds_for, number_of, written_in, base_of, after_prefix, constant_of}
use Rattle.c_tokens.specs.Digits.{is_digit_of, digits_value, value_in_64_bits}
use Rattle.c_tokens.specs.Tables.{suffix_of, suffixes}
use Rattle.c_tokens.proofs.Runs.{all-run, all-weaker}
use Rattle.c_tokens.proofs.TableLemmas.{texts_pass, text_passes}

-- ---- a number that a kind holds is wrapped to itself

small_kept : (w n : ℕ) → n < 2 ^ w → n % 2 ^ w ≡ n
small_kept w n low = mod-eq_of_lt low

signed_kept : (w n : ℕ) → n < 2 ^ (w - 1) → 2 ^ (w - 1) ≤ 2 ^ w → signed_reading w (n % 2 ^ w) ≡ pos n
signed_kept w n low larger = ap (signed_reading w) (small_kept w n (omega (arith, low, larger))) ∙ signed_reading_low w n low

unsigned_kept : (w n : ℕ) → n < 2 ^ w → pos (n % 2 ^ w) ≡ pos n
unsigned_kept w n low = ap pos (mod-eq_of_lt low)

no_bit : (n : ℕ) → holds BoolKind (suc (suc n)) ≡ true → ⊥
no_bit n h = let low = ltb-true (suc (suc n)) 2 h in absurd (omega (arith, low))

holds_kept : (kind : Kind) (n : ℕ) → holds kind n ≡ true → wrap kind (pos n) ≡ pos n
holds_kept BoolKind zero h = refl
holds_kept BoolKind (suc zero) h = refl
holds_kept BoolKind (suc (suc n)) h = absurd (no_bit n h)
holds_kept I8 n h = signed_kept 8 n (ltb-true n (2 ^ 7) h) (omega arith)
holds_kept U8 n h = unsigned_kept 8 n (ltb-true n (2 ^ 8) h)
holds_kept I16 n h = signed_kept 16 n (ltb-true n (2 ^ 15) h) (omega arith)
holds_kept U16 n h = unsigned_kept 16 n (ltb-true n (2 ^ 16) h)
holds_kept I32 n h = signed_kept 32 n (ltb-true n (2 ^ 31) h) (omega arith)
holds_kept U32 n h = unsigned_kept 32 n (ltb-true n (2 ^ 32) h)
holds_kept I64 n h = signed_kept 64 n (ltb-true n (2 ^ 63) h) (omega arith)
holds_kept U64 n h = unsigned_kept 64 n (ltb-true n (2 ^ 64) h)

some_is : {X : Type 0} {x y : X} → Some x ≡ Some y → x ≡ y
some_is h = cc

first_by : (k : Kind) (ks : List Kind) (n : ℕ) (kind : Kind) → (first_holding ks n ≡ Some kind → holds kind n ≡ true) → (b : Bool) → holds k n ≡ b
    → cond b (Some k) (first_holding ks n) ≡ Some kind → holds kind n ≡ true
first_by k ks n kind rest true is h = subst (λ j. holds j n ≡ true) (some_is h) is
first_by k ks n kind rest false is h = rest h

first_holds : (kinds : List Kind) (n : ℕ) (kind : Kind) → first_holding kinds n ≡ Some kind → holds kind n ≡ true
first_holds [] n kind h = cc
first_holds (k ∷ ks) n kind h = first_by k ks n kind (first_holds ks n kind) (holds k n) refl h

-- ---- what digits and a suffix say

pub value_by : (b : Bool) (v n : ℕ) → cond b (Some v) None ≡ Some n → v ≡ n
value_by true v n h = some_is h
value_by false v n h = cc

number_written : (base : Base) (digits : List ℕ) (suffix : Suffix) (n : ℕ) (kind : Kind) → 0 < length digits → value_in_64_bits base digits ≡ Some n
    → first_holding (kinds_for base suffix) n ≡ Some kind → number_of base digits (Some suffix) ≡ Some (record { kind = kind; value = pos n })
number_written base [] suffix n kind some value first = absurd (omega (arith, some))
number_written base (d ∷ ds) suffix n kind some value first =
    let is = value_by _ (digits_value base (d ∷ ds)) n value in
    subst (λ m. option_map {T = Kind} {U = Number} (λ k. record { kind = k; value = pos m }) (first_holding (kinds_for base suffix) m) ≡ Some (record { kind = kind; value = pos n })) (sym is) (rw first refl)

pub written : (base : Base) (digits : List ℕ) (suffix : Suffix) (n : ℕ) (kind : Kind) → 0 < length digits → value_in_64_bits base digits ≡ Some n
    → first_holding (kinds_for base suffix) n ≡ Some kind → number_of base digits (Some suffix) ≡ Some (wrapped kind (pos n))
written base digits suffix n kind some value first =
    number_written base digits suffix n kind some value first
    ∙ ap (λ z. Some (record { kind = kind; value = z })) (sym (holds_kept kind n (first_holds (kinds_for base suffix) n kind first)))

pub written_front : (base : Base) (text : List ℕ) (count : ℕ) (suffix : Suffix) (n : ℕ) (kind : Kind) → count ≡ prefix_len (is_digit_of base) text → 0 < count → count ≤ length text
    → suffix_of (take (length text - count) (drop count text)) ≡ Some suffix → value_in_64_bits base (take count text) ≡ Some n → first_holding (kinds_for base suffix) n ≡ Some kind
    → written_in base text ≡ Some (wrapped kind (pos n))
written_front base text count suffix n kind e some within after value first =
    let long : length (take count text) ≡ count = length-take-le count text within in
    let left : length (drop count text) ≡ length text - count = length-drop count text in
    let behind : suffix_of (drop count text) ≡ Some suffix = ap suffix_of (sym (take_all (length text - count) (drop count text) (omega (arith, left)))) ∙ after in
    subst (λ p. number_of base (take p text) (suffix_of (drop p text)) ≡ Some (wrapped kind (pos n))) e
    (rw behind (written base (take count text) suffix n kind (omega (arith, some, long)) value first))

-- ---- how constants are written

digit_name : (base : Base) (byte : ℕ) → is_digit_of base byte ≡ true → is_name_byte byte ≡ true
digit_name Octal byte h = grind (arith, nat_tests)
digit_name Decimal byte h = grind (arith, nat_tests)
digit_name Hexadecimal byte h = grind (arith, nat_tests)

decimal_digit : (byte : ℕ) → is_digit_of Decimal byte ≡ true → is_digit byte ≡ true
decimal_digit byte h = grind (arith, nat_tests)

suffix_names : texts_pass (list_all is_name_byte) suffixes ≡ true
suffix_names = refl

suffix_bytes : (text : List ℕ) (suffix : Suffix) → suffix_of text ≡ Some suffix → list_all is_name_byte text ≡ true
unfolding suffix_of
suffix_bytes text suffix h = text_passes (list_all is_name_byte) suffixes suffix_names text suffix h

number_has : (base : Base) (digits : List ℕ) (suffix : Option Suffix) (n : Number) → number_of base digits suffix ≡ Some n → (s : Suffix) × (suffix ≡ Some s)
number_has base [] suffix n h = absurd cc
number_has base (d ∷ ds) None n h = absurd cc
number_has base (d ∷ ds) (Some s) n h = (s, refl)

parts_pass : (text : List ℕ) (count : ℕ) → list_all is_name_byte (take count text) ≡ true → list_all is_name_byte (drop count text) ≡ true → list_all is_name_byte text ≡ true
parts_pass text count front behind =
    subst (λ t. list_all is_name_byte t ≡ true) (take-append-drop count text) (list_all-append is_name_byte (take count text) (drop count text) ∙ and_from _ _ front behind)

written_bytes : (base : Base) (text : List ℕ) (n : Number) → written_in base text ≡ Some n → list_all is_name_byte text ≡ true
written_bytes base text n h =
    let count = prefix_len (is_digit_of base) text in
    let suffix = number_has base (take count text) (suffix_of (drop count text)) n h in
    parts_pass text count (all-weaker (is_digit_of base) is_name_byte (digit_name base) (take count text) (all-run (is_digit_of base) text)) (suffix_bytes (drop count text) suffix.0 suffix.1)

after_bytes : (base : Base) (text : List ℕ) → (base ≡ Hexadecimal → list_all is_name_byte (take 2 text) ≡ true) → list_all is_name_byte (after_prefix base text) ≡ true → list_all is_name_byte text ≡ true
after_bytes Octal text front h = h
after_bytes Decimal text front h = h
after_bytes Hexadecimal text front h = parts_pass text 2 (front refl) h

prefix_by : (lower upper octal : Bool) → cond (lower || upper) Hexadecimal (cond octal Octal Decimal) ≡ Hexadecimal → (lower || upper) ≡ true
prefix_by true upper octal h = refl
prefix_by false true octal h = refl
prefix_by false false true h = absurd cc
prefix_by false false false h = absurd cc

prefix_bytes : (text : List ℕ) → base_of text ≡ Hexadecimal → list_all is_name_byte (take 2 text) ≡ true
prefix_bytes text h =
    ⊎_elim
    (λ lower. subst (λ t. list_all is_name_byte t ≡ true) (sym ((bytes_eq-Decides (take 2 text) (codes "0x")).0 lower)) refl)
    (λ upper. subst (λ t. list_all is_name_byte t ≡ true) (sym ((bytes_eq-Decides (take 2 text) (codes "0X")).0 upper)) refl)
    (or_cases (bytes_eq (take 2 text) (codes "0x")) (bytes_eq (take 2 text) (codes "0X"))
    (prefix_by (bytes_eq (take 2 text) (codes "0x")) (bytes_eq (take 2 text) (codes "0X")) (bytes_eq (take 1 text) (codes "0")) h))

pub constant_bytes : (text : List ℕ) (n : Number) → constant_of text ≡ Some n → list_all is_name_byte text ≡ true
unfolding constant_of
constant_bytes text n h = after_bytes (base_of text) text (prefix_bytes text) (written_bytes (base_of text) (after_prefix (base_of text) text) n h)

pub no_constant_in_nothing : constant_of [] ≡ None
unfolding constant_of
no_constant_in_nothing = refl

-- a constant begins with a digit
zero_first : (byte : ℕ) (bytes : List ℕ) (n : ℕ) (rest : List ℕ) → byte ∷ take n bytes ≡ 48 ∷ rest → is_digit byte ≡ true
zero_first byte bytes n rest h = let same : byte ≡ 48 = cc in rw same refl

octal_by : (lower upper octal : Bool) → cond (lower || upper) Hexadecimal (cond octal Octal Decimal) ≡ Octal → octal ≡ true
octal_by true upper octal h = absurd cc
octal_by false true octal h = absurd cc
octal_by false false true h = refl
octal_by false false false h = absurd cc

decimal_by : (byte : ℕ) (bytes : List ℕ) (n : Number) (b : Bool) → is_digit_of Decimal byte ≡ b
    → number_of Decimal (take (cond b (1 + prefix_len (is_digit_of Decimal) bytes) 0) (byte ∷ bytes)) (suffix_of (drop (cond b (1 + prefix_len (is_digit_of Decimal) bytes) 0) (byte ∷ bytes))) ≡ Some n
    → is_digit byte ≡ true
decimal_by byte bytes n true is h = decimal_digit byte is
decimal_by byte bytes n false is h = absurd cc

first_by_base : (byte : ℕ) (bytes : List ℕ) (n : Number) (base : Base) → base_of (byte ∷ bytes) ≡ base → written_in base (after_prefix base (byte ∷ bytes)) ≡ Some n → is_digit byte ≡ true
first_by_base byte bytes n Octal is h =
    zero_first byte bytes 0 [] ((bytes_eq-Decides (take 1 (byte ∷ bytes)) (codes "0")).0
    (octal_by (bytes_eq (take 2 (byte ∷ bytes)) (codes "0x")) (bytes_eq (take 2 (byte ∷ bytes)) (codes "0X")) (bytes_eq (take 1 (byte ∷ bytes)) (codes "0")) is))
first_by_base byte bytes n Decimal is h = decimal_by byte bytes n (is_digit_of Decimal byte) refl h
first_by_base byte bytes n Hexadecimal is h =
    ⊎_elim
    (λ lower. zero_first byte bytes 1 (codes "x") ((bytes_eq-Decides (take 2 (byte ∷ bytes)) (codes "0x")).0 lower))
    (λ upper. zero_first byte bytes 1 (codes "X") ((bytes_eq-Decides (take 2 (byte ∷ bytes)) (codes "0X")).0 upper))
    (or_cases (bytes_eq (take 2 (byte ∷ bytes)) (codes "0x")) (bytes_eq (take 2 (byte ∷ bytes)) (codes "0X"))
    (prefix_by (bytes_eq (take 2 (byte ∷ bytes)) (codes "0x")) (bytes_eq (take 2 (byte ∷ bytes)) (codes "0X")) (bytes_eq (take 1 (byte ∷ bytes)) (codes "0")) is))

pub constant_first : (byte : ℕ) (bytes : List ℕ) (n : Number) → constant_of (byte ∷ bytes) ≡ Some n → is_digit byte ≡ true
unfolding constant_of
constant_first byte bytes n h = first_by_base byte bytes n (base_of (byte ∷ bytes)) refl h
