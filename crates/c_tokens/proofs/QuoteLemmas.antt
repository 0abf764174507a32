-- Character constants and string literals.
use Rattle.std.proofs.Common.{◌≡◌, ℕ, zero, suc, ◌+◌, ◌<◌, ◌≤◌, ◌^◌, Bool, true, false, not, ◌&&◌, ◌⊎◌, inl, inr, cond, eqb, leb, ltb, List, [], ◌∷◌, ◌++◌, length, take, Option, Some, None, refl, sym, ap, subst, ◌∙◌, arith}
use Rattle.std.specs.Prelude.{option_map}
use Rattle.std.specs.List.{list_all, prefix_len}
use Rattle.std.proofs.lemmas.Bool.{and_parts, and_from, and_left, and_right, false_from_ne_true, lt-ltb, le-leb, eqb-true}
use Rattle.std.proofs.lemmas.Bool.Decides.{Decides-eqb}
use Rattle.std.proofs.lemmas.List.{take_all}
use Rattle.c_tokens.specs.declared.digits.Base.{Base}
use Rattle.c_tokens.specs.Digits.{is_digit_of, digits_value, value_in_64_bits}
use Rattle.c_tokens.specs.Quotes.{byte_value, to_quote, is_whole, closes}
use Rattle.c_tokens.specs.Bytes.{is_line_end, is_in_line}
use Rattle.c_tokens.proofs.Runs.{all-run}
use Rattle.c_tokens.proofs.ConstantLemmas.{value_by}

pub some_is : {X : Type 0} {x y : X} → Some x ≡ Some y → x ≡ y
some_is h = cc

same_before : (n m : ℕ) → suc n ≡ suc m → n ≡ m
same_before n m h = cc

both_equal : (n : ℕ) → eqb n n ≡ true
both_equal n = (Decides-eqb n n).1 refl

empty_in_line : (bytes : List ℕ) → length bytes ≡ 0 → is_in_line bytes ≡ true
empty_in_line [] h = refl
empty_in_line (byte ∷ bytes) h = absurd cc

-- ---- numbers of bytes

pub all_of_run : {X : Type 0} (p : X → Bool) (xs : List X) → length xs ≤ prefix_len p xs → list_all p xs ≡ true
all_of_run p xs h = subst (λ t. list_all p t ≡ true) (take_all (prefix_len p xs) xs h) (all-run p xs)

pub run_of_all : {X : Type 0} (p : X → Bool) (xs : List X) → list_all p xs ≡ true → length xs ≤ prefix_len p xs
run_of_all p [] h = omega arith
run_of_all p (x ∷ xs) h =
    let parts = and_parts (p x) (list_all p xs) h in
    let rest = run_of_all p xs parts.1 in
    let more : suc (length xs) ≤ 1 + prefix_len p xs = omega (arith, rest) in
    subst (λ b. suc (length xs) ≤ cond b (1 + prefix_len p xs) 0) (sym parts.0) more

unless : (b : Bool) (v : ℕ) → b ≡ false → ◌≡◌ {A = Option ℕ} (cond b (Some v) None) None
unless b v h = rw h refl

pub no_byte_other : (base : Base) (digits : List ℕ) → prefix_len (is_digit_of base) digits < length digits → byte_value base digits ≡ None
no_byte_other base digits less =
    let other : list_all (is_digit_of base) digits ≡ false = false_from_ne_true _ (λ all. let r = run_of_all (is_digit_of base) digits all in absurd (omega (arith, less, r))) in
    unless (ltb 0 (length digits) && list_all (is_digit_of base) digits && leb (digits_value base digits) 255) (digits_value base digits)
    (and_left (ltb 0 (length digits) && list_all (is_digit_of base) digits) (leb (digits_value base digits) 255) (and_right (ltb 0 (length digits)) (list_all (is_digit_of base) digits) other))

pub byte_fits : (base : Base) (digits : List ℕ) (n : ℕ) → 0 < length digits → length digits ≤ prefix_len (is_digit_of base) digits → value_in_64_bits base digits ≡ Some n → n ≤ 255
    → byte_value base digits ≡ Some n
byte_fits base digits n some run value fits =
    let is : digits_value base digits ≡ n = value_by _ (digits_value base digits) n value in
    let test : (ltb 0 (length digits) && list_all (is_digit_of base) digits && leb (digits_value base digits) 255) ≡ true =
    and_from (ltb 0 (length digits) && list_all (is_digit_of base) digits) (leb (digits_value base digits) 255)
    (and_from (ltb 0 (length digits)) (list_all (is_digit_of base) digits) (lt-ltb 0 (length digits) some) (all_of_run (is_digit_of base) digits run)) (le-leb (digits_value base digits) 255 (omega (arith, is, fits))) in
    subst (λ b. cond b (Some (digits_value base digits)) None ≡ Some n) (sym test) (ap Some is)

pub is_some_length : (n : ℕ) → false ≡ eqb n 0 → 0 < n
is_some_length zero h = cc
is_some_length (suc n) h = omega arith

-- ---- the quote that closes a text

-- what one byte does to the search
step_some : (end here : Bool) (rest : Option ℕ) (n : ℕ) → cond end None (cond here (Some 1) (option_map suc rest)) ≡ Some n
    → (end ≡ false) × ((here ≡ true) × (n ≡ 1) ⊎ (here ≡ false) × ((m : ℕ) × (rest ≡ Some m) × (n ≡ suc m)))
step_some true here rest n h = absurd cc
step_some false true rest n h = (refl, inl (refl, cc))
step_some false false None n h = absurd cc
step_some false false (Some m) n h = (refl, inr (refl, (m, refl, cc)))

here_step : (end here : Bool) (rest : Option ℕ) → end ≡ false → here ≡ true → cond end None (cond here (Some 1) (option_map suc rest)) ≡ Some 1
here_step end here rest e h = rw e (rw h refl)

later_step : (end here : Bool) (rest : Option ℕ) (m : ℕ) → end ≡ false → here ≡ false → rest ≡ Some m → cond end None (cond here (Some 1) (option_map suc rest)) ≡ Some (suc m)
later_step end here rest m e h r = rw e (rw h (rw r refl))

-- a text that goes on is closed where it was
pub closed_before : (quote : ℕ) (escaped : Bool) (bytes more : List ℕ) (n : ℕ) → to_quote quote escaped bytes ≡ Some n → to_quote quote escaped (bytes ++ more) ≡ Some n
closed_before quote escaped [] more n h = absurd cc
closed_before quote escaped (byte ∷ bytes) more n h =
    let parts = step_some (is_line_end byte) (eqb byte quote && not escaped) (to_quote quote (eqb byte 92 && not escaped) bytes) n h in
    elim parts.1 [
      | inl at ↦ rw at.1 (here_step (is_line_end byte) (eqb byte quote && not escaped) _ parts.0 at.0)
      | inr later ↦
          rw later.1.2 (later_step (is_line_end byte) (eqb byte quote && not escaped) _ later.1.0 parts.0 later.0
          (closed_before quote (eqb byte 92 && not escaped) bytes more later.1.0 later.1.1))
    ]

-- and so is its front up to there
pub closed_front : (quote : ℕ) (escaped : Bool) (bytes : List ℕ) (n : ℕ) → to_quote quote escaped bytes ≡ Some n → to_quote quote escaped (take n bytes) ≡ Some n
closed_front quote escaped [] n h = absurd cc
closed_front quote escaped (byte ∷ bytes) n h =
    let parts = step_some (is_line_end byte) (eqb byte quote && not escaped) (to_quote quote (eqb byte 92 && not escaped) bytes) n h in
    elim parts.1 [
      | inl at ↦ rw at.1 (here_step (is_line_end byte) (eqb byte quote && not escaped) (to_quote quote (eqb byte 92 && not escaped) []) parts.0 at.0)
      | inr later ↦
          rw later.1.2 (later_step (is_line_end byte) (eqb byte quote && not escaped) _ later.1.0 parts.0 later.0
          (closed_front quote (eqb byte 92 && not escaped) bytes later.1.0 later.1.1))
    ]

-- no line ends in a text that its last byte closes
pub closed_in_line : (quote : ℕ) (escaped : Bool) (bytes : List ℕ) → to_quote quote escaped bytes ≡ Some (length bytes) → is_in_line bytes ≡ true
closed_in_line quote escaped [] h = refl
closed_in_line quote escaped (byte ∷ bytes) h =
    let parts = step_some (is_line_end byte) (eqb byte quote && not escaped) (to_quote quote (eqb byte 92 && not escaped) bytes) (suc (length bytes)) h in
    and_from (not (is_line_end byte)) (is_in_line bytes) (ap not parts.0)
    (elim parts.1 [
      | inl at ↦ empty_in_line bytes (same_before (length bytes) 0 at.1)
      | inr later ↦ closed_in_line quote (eqb byte 92 && not escaped) bytes (later.1.1 ∙ ap Some (sym (same_before (length bytes) later.1.0 later.1.2)))
    ])

whole_by : (o : Option ℕ) (bytes : List ℕ) → is_whole o bytes ≡ true → o ≡ Some (length bytes)
whole_by None bytes h = absurd cc
whole_by (Some n) bytes h = ap Some (eqb-true n (length bytes) h)

pub closes_is : (quote : ℕ) (bytes : List ℕ) → closes quote bytes ≡ true → to_quote quote false bytes ≡ Some (length bytes)
closes_is quote bytes h = whole_by (to_quote quote false bytes) bytes h

pub is_closes : (quote : ℕ) (bytes : List ℕ) → to_quote quote false bytes ≡ Some (length bytes) → closes quote bytes ≡ true
is_closes quote bytes h = rw h (both_equal (length bytes))

-- two closed fronts of one text are equally long
pub closed_alike : (quote : ℕ) (bytes after others more : List ℕ) → closes quote bytes ≡ true → closes quote others ≡ true → bytes ++ after ≡ others ++ more → length bytes ≡ length others
closed_alike quote bytes after others more h k e =
    some_is (sym (closed_before quote false bytes after (length bytes) (closes_is quote bytes h)) ∙ ap (to_quote quote false) e ∙ closed_before quote false others more (length others) (closes_is quote others k))
