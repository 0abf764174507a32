-- The places of our objects, with one object of the table more in front.
use Rattle.std.proofs.Common.{◌≡◌, ℕ, zero, suc, ◌+◌, ◌<◌, List, [], ◌∷◌, ◌++◌, length, drop, slice_get, set, cond, Bool, true, false, nat_eq, Option, Some, None, unwrap_or, option_and_then, ◌⊎◌, inl, inr, refl, sym, ap, ap₂, ◌∙◌, arith}
use Rattle.std.specs.List.{position_from}
use Rattle.std.proofs.lemmas.Bool.Decides.{eqb_tells}
use Rattle.joint_objects.specs.declared.objects.JointObject.{JointObject}
use Rattle.joint_programs.specs.Numbers.{own_number, is_number, place_from, places_from, numbers_below, with_place, number_at}

is_it : (a b : ℕ) → a ≡ b → nat_eq a b ≡ true
is_it a b same = by (eqb_tells a b)
  where
    by : ((nat_eq a b ≡ true) × (a ≡ b)) ⊎ ((nat_eq a b ≡ false) × (a ≡ b → ⊥)) → nat_eq a b ≡ true
    by (inl x) = x.0
    by (inr x) = absurd (x.1 same)

is_another : (a b : ℕ) → (a ≡ b → ⊥) → nat_eq a b ≡ false
is_another a b other = by (eqb_tells a b)
  where
    by : ((nat_eq a b ≡ true) × (a ≡ b)) ⊎ ((nat_eq a b ≡ false) × (a ≡ b → ⊥)) → nat_eq a b ≡ false
    by (inl x) = absurd (other x.1)
    by (inr x) = x.0

module _ (k : ℕ) (x : JointObject) (rest : List JointObject) where
  -- by what the object in front is
  place_by : (a : ℕ) (test : Bool) → is_number a (own_number x) ≡ test →
      place_from k (x ∷ rest) a ≡ unwrap_or (cond test (Some k) (position_from (λ (object : JointObject). is_number a (own_number object)) (k + 1) rest)) a
  place_by a test e = ap (λ t. unwrap_or (cond t (Some k) (position_from (λ (object : JointObject). is_number a (own_number object)) (k + 1) rest)) a) e

  none_in_front : own_number x ≡ None → (a n : ℕ) → places_from k (x ∷ rest) a n ≡ places_from (k + 1) rest a n
  none_in_front e a zero = refl
  none_in_front e a (suc n) = ap₂ (λ (p : ℕ) (ps : List ℕ). p ∷ ps) (place_by a false (ap (is_number a) e)) (none_in_front e (a + 1) n)

  one_before : (b : ℕ) → own_number x ≡ Some b → (a n : ℕ) → b < a → places_from k (x ∷ rest) a n ≡ places_from (k + 1) rest a n
  one_before b e a zero low = refl
  one_before b e a (suc n) low =
      let later : b < a + 1 = omega (arith, low) in
      ap₂ (λ (p : ℕ) (ps : List ℕ). p ∷ ps) (place_by a false (ap (is_number a) e ∙ is_another b a (λ same. let no : ⊥ = omega (arith, low, same) in no))) (one_before b e (a + 1) n later)

  one_in_front : (i a n b : ℕ) → own_number x ≡ Some b → b ≡ a + i → places_from k (x ∷ rest) a n ≡ set (places_from (k + 1) rest a n) i k
  one_in_front i a zero b e at = refl
  one_in_front zero a (suc n) b e at =
      let same : b ≡ a = omega (arith, at) in
      let later : b < a + 1 = omega (arith, same) in
      ap₂ (λ (p : ℕ) (ps : List ℕ). p ∷ ps) (place_by a true (ap (is_number a) e ∙ is_it b a same)) (one_before b e (a + 1) n later)
  one_in_front (suc i) a (suc n) b e at =
      let next : b ≡ a + 1 + i = omega (arith, at) in
      ap₂ (λ (p : ℕ) (ps : List ℕ). p ∷ ps) (place_by a false (ap (is_number a) e ∙ is_another b a (λ same. let no : ⊥ = omega (arith, at, same) in no))) (one_in_front i (a + 1) n b e next)

  in_front : (n : ℕ) (own : Option ℕ) → own_number x ≡ own → places_from k (x ∷ rest) 0 n ≡ with_place own k (places_from (k + 1) rest 0 n)
  in_front n None e = none_in_front e 0 n
  in_front n (Some b) e = let at : b ≡ 0 + b = omega arith in one_in_front b 0 n b e at

-- the object at a place, and those behind it
record Split (table : List JointObject) (place : ℕ) : Type 0 where
  pub object : JointObject
  pub here : slice_get table place ≡ Some object
  pub whole : drop place table ≡ object ∷ drop (suc place) table

split_at : (table : List JointObject) (place : ℕ) → place < length table → Split table place
split_at [] place low = absurd (let no : ⊥ = omega (arith, low) in no)
split_at (x ∷ table) zero low = record { object = x; here = refl; whole = refl }
split_at (x ∷ table) (suc place) low =
    let next : Split table place = split_at table place (let less : place < length table = omega (arith, low) in less) in
    record { object = next.object; here = next.here; whole = next.whole }

-- one step back in the table
pub step_back : (table : List JointObject) (left less n : ℕ) (numbers after : List ℕ) → left ≡ less + 1 → less < length table →
    numbers ≡ places_from left (drop left table) 0 n → after ≡ with_place (number_at table less) less numbers → after ≡ places_from less (drop less table) 0 n
step_back table left less n numbers after one low before put =
    let next : left ≡ suc less = omega (arith, one) in
    let there : Split table less = split_at table less low in
    put
    ∙ ap (λ (o : Option JointObject). with_place (option_and_then own_number o) less numbers) there.here
    ∙ ap (with_place (own_number there.object) less) (before ∙ ap₂ (λ (m k : ℕ). places_from m (drop k table) 0 n) one next)
    ∙ sym (ap (λ (list : List JointObject). places_from less list 0 n) there.whole ∙ in_front less there.object (drop (suc less) table) n (own_number there.object) refl)

-- ---- no object

one_more : (k a n : ℕ) → places_from k [] a (suc n) ≡ places_from k [] a n ++ (a + n) ∷ []
one_more k a zero = let same : a ≡ a + 0 = omega arith in ap (λ (m : ℕ). m ∷ []) same
one_more k a (suc n) = let same : a + 1 + n ≡ a + suc n = omega arith in ap (λ (ps : List ℕ). a ∷ ps) (one_more k (a + 1) n ∙ ap (λ (m : ℕ). places_from k [] (a + 1) n ++ m ∷ []) same)

pub own_places : (k n : ℕ) → numbers_below n ≡ places_from k [] 0 n
own_places k zero = refl
own_places k (suc n) =
    let last : n ≡ 0 + n = omega arith in
    ap₂ (λ (ps : List ℕ) (m : ℕ). ps ++ m ∷ []) (own_places k n) last ∙ sym (one_more k 0 n)

nothing_left : {X : Type 0} (xs : List X) → drop (length xs) xs ≡ []
nothing_left [] = refl
nothing_left (x ∷ xs) = nothing_left xs

pub at_end : (table : List JointObject) (n : ℕ) (numbers : List ℕ) → numbers ≡ numbers_below n → numbers ≡ places_from (length table) (drop (length table) table) 0 n
at_end table n numbers e = e ∙ (own_places (length table) n ∙ ap (λ (list : List JointObject). places_from (length table) list 0 n) (sym (nothing_left table)))
