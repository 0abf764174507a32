-- The objects of a function have numbers that follow one another.
use Rattle.std.proofs.Common.{◌≡◌, ◌≤◌, ◌<◌, ◌+◌, ◌-◌, ◌++◌, ℕ, zero, suc, Bool, true, false, List, [], ◌∷◌, length, get_or, Option, Some, None, arith, subst, ap, refl, ◌∙◌, ◌⊎◌, inl, inr}
use Rattle.std.proofs.lemmas.Bool.{cases_lt}
use Rattle.std.proofs.lemmas.List.{get_or_append_left, get_or_push, get_or_past}
use Rattle.file_typing.specs.LocalObjects.{objects_before, object_of_local}
use Rattle.local_objects.specs.ObjectTables.{object_at, is_flagged}

-- among more locals there are no fewer objects
objects_before_grows : (is_object : ℕ → Bool) (i k n : ℕ) → i + k ≡ n → objects_before is_object i ≤ objects_before is_object n
objects_before_grows f i zero n e =
    let same : i ≡ n = omega (arith, e) in subst (λ m. objects_before f i ≤ objects_before f m) same (let h : objects_before f i ≤ objects_before f i = omega arith in h)
objects_before_grows f i (suc k) zero e = absurd (let no : ⊥ = omega (arith, e) in no)
objects_before_grows f i (suc k) (suc n) e =
    let shorter : i + k ≡ n = omega (arith, e) in let rest = objects_before_grows f i k n shorter in omega (arith, rest)

-- ---- the number of the next object

-- after a local that is an object
one_more : (is_object : ℕ → Bool) (i : ℕ) → is_object i ≡ true → objects_before is_object (suc i) ≡ objects_before is_object i + 1
one_more f i is = rw is (let h : 1 + objects_before f i ≡ objects_before f i + 1 = omega arith in h)

-- after a local that is none
pub no_more : (is_object : ℕ → Bool) (i : ℕ) → is_object i ≡ false → objects_before is_object (suc i) ≡ objects_before is_object i
no_more f i is = rw is (let h : 0 + objects_before f i ≡ objects_before f i = omega arith in h)

pub next_fits : (is_object : ℕ → Bool) (first next i n : ℕ) → is_object i ≡ true → i < n → next ≡ first + objects_before is_object i
    → first + objects_before is_object n ≤ 4294967295 → next + 1 ≤ 4294967295
next_fits f first next i n is lt numbered room =
    let more = one_more f i is in
    let left : suc i + (n - suc i) ≡ n = omega (arith, lt) in
    let grows = objects_before_grows f (suc i) (n - suc i) n left in
    omega (arith, more, grows, numbered, room)

pub next_after_object : (is_object : ℕ → Bool) (first next i : ℕ) → is_object i ≡ true → next ≡ first + objects_before is_object i
    → next + 1 ≡ first + objects_before is_object (i + 1)
next_after_object f first next i is numbered =
    let more = one_more f i is in
    let after : suc i ≡ i + 1 = omega arith in
    subst (λ n. next + 1 ≡ first + objects_before f n) after (omega (arith, more, numbered))

-- ---- one more entry

pushed : (f : ℕ → Option ℕ) (xs : List (Option ℕ)) (i : ℕ) (y : Option ℕ) → length xs ≡ i → ((k : ℕ) → k < i → get_or xs k None ≡ f k) → y ≡ f i
    → (k : ℕ) → k < i + 1 → (k < i) ⊎ (i ≤ k) → get_or (xs ++ y ∷ []) k None ≡ f k
pushed f xs i y count before here k lt (inl below) =
    let within : k < length xs = omega (arith, count, below) in get_or_append_left xs (y ∷ []) None k within ∙ before k below
pushed f xs i y count before here k lt (inr past) =
    let same : i ≡ k = omega (arith, lt, past) in subst (λ k. get_or (xs ++ y ∷ []) k None ≡ f k) same (get_or_push xs y None i count ∙ here)

pub entries_pushed : (f : ℕ → Option ℕ) (xs : List (Option ℕ)) (i : ℕ) (y : Option ℕ) → length xs ≡ i → ((k : ℕ) → k < i → get_or xs k None ≡ f k) → y ≡ f i
    → (k : ℕ) → k < i + 1 → get_or (xs ++ y ∷ []) k None ≡ f k
entries_pushed f xs i y count before here k lt = pushed f xs i y count before here k lt (cases_lt k i)

pub entry_of_object : (is_object : ℕ → Bool) (first next i : ℕ) → is_object i ≡ true → next ≡ first + objects_before is_object i → Some next ≡ object_of_local is_object first i
entry_of_object f first next i is numbered = rw is (ap Some numbered)

pub entry_of_none : (is_object : ℕ → Bool) (first i : ℕ) → is_object i ≡ false → None ≡ object_of_local is_object first i
entry_of_none f first i is = rw is refl

-- ---- beyond the end

all_cases : (flags : List Bool) (first : ℕ) (xs : List (Option ℕ)) → length xs ≡ length flags
    → ((k : ℕ) → k < length flags → object_at xs k ≡ object_of_local (is_flagged flags) first k)
    → (k : ℕ) → (k < length flags) ⊎ (length flags ≤ k) → object_at xs k ≡ object_of_local (is_flagged flags) first k
all_cases flags first xs count entries k (inl below) = entries k below
all_cases flags first xs count entries k (inr past) =
    let beyond : length xs ≤ k = omega (arith, count, past) in
    get_or_past xs k None beyond ∙ entry_of_none (is_flagged flags) first k (get_or_past flags k false past)

pub all_entries : (flags : List Bool) (first : ℕ) (xs : List (Option ℕ)) → length xs ≡ length flags
    → ((k : ℕ) → k < length flags → object_at xs k ≡ object_of_local (is_flagged flags) first k)
    → (k : ℕ) → object_at xs k ≡ object_of_local (is_flagged flags) first k
all_entries flags first xs count entries k = all_cases flags first xs count entries k (cases_lt k (length flags))
