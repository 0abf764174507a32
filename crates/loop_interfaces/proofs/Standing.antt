-- Numbers that stand in lists.
use Rattle.std.proofs.Common.{◌≡◌, ℕ, zero, suc, ◌+◌, ◌<◌, ◌≤◌, ◌⊎◌, ◌↔◌, List, [], ◌∷◌, ◌++◌, take, length, get_or, Result, Ok, Err, refl, sym, ◌∙◌, ap, subst, inl, inr, arith}
use Rattle.std.specs.Prelude.{IsTrue, is_ok}
use Rattle.std.specs.Ordering.{nat_cmp}
use Rattle.std.specs.List.{Contains}
use Rattle.std.specs.List.Sorted.{IsPermutation, IsBinarySearchResult, IsNonDecreasing}
use Rattle.std.proofs.lemmas.Bool.{cases_lt}
use Rattle.std.proofs.lemmas.List.{take_more}
use Rattle.std.proofs.lemmas.List.Sorted.{searched, Contains-permutation, IsPermutation-sym}
use Rattle.c_meaning.specs.Interfaces.{StandsIn}
use Rattle.loop_interfaces.specs.NameOrder.{AreOthers}

-- ---- places

pub place_of : (n : ℕ) (xs : List ℕ) → StandsIn n xs → (k : ℕ) × (k < length xs) × ((d : ℕ) → get_or xs k d ≡ n)
place_of n [] stands = absurd stands
place_of n (x ∷ xs) (inl same) = (zero, omega arith, λ d. sym same)
place_of n (x ∷ xs) (inr later) = let at = place_of n xs later in (suc at.0, omega (arith, at.1), at.2)

pub stands_at : (n : ℕ) (xs : List ℕ) (k d : ℕ) → k < length xs → get_or xs k d ≡ n → StandsIn n xs
stands_at n [] k d low is = absurd (omega (arith, low))
stands_at n (x ∷ xs) zero d low is = inl (sym is)
stands_at n (x ∷ xs) (suc k) d low is = inr (stands_at n xs k d (omega (arith, low)) is)

pub contained : (n : ℕ) (xs : List ℕ) → StandsIn n xs → Contains xs n
contained n xs stands = let at = place_of n xs stands in (at.0, at.1, at.2 n)

pub standing : (n : ℕ) (xs : List ℕ) → Contains xs n → StandsIn n xs
standing n xs among = stands_at n xs among.0 n among.1 among.2

pub stands_moved : (n : ℕ) (xs ys : List ℕ) → IsPermutation xs ys → StandsIn n xs → StandsIn n ys
stands_moved n xs ys moved stands = standing n ys (Contains-permutation xs ys n moved (contained n xs stands))

-- ---- one more

pub stands_before : (n : ℕ) (xs ys : List ℕ) → StandsIn n xs → StandsIn n (xs ++ ys)
stands_before n [] ys stands = absurd stands
stands_before n (x ∷ xs) ys (inl same) = inl same
stands_before n (x ∷ xs) ys (inr later) = inr (stands_before n xs ys later)

pub stands_last : (n y : ℕ) (xs : List ℕ) → n ≡ y → StandsIn n (xs ++ y ∷ [])
stands_last n y [] same = inl same
stands_last n y (x ∷ xs) same = inr (stands_last n y xs same)

pub stands_before_or_last : (n y : ℕ) (xs : List ℕ) → StandsIn n (xs ++ y ∷ []) → StandsIn n xs ⊎ (n ≡ y)
stands_before_or_last n y [] (inl same) = inr same
stands_before_or_last n y [] (inr none) = absurd none
stands_before_or_last n y (x ∷ xs) (inl same) = inl (inl same)
stands_before_or_last n y (x ∷ xs) (inr later) = elim (stands_before_or_last n y xs later) [ inl here ↦ inl (inr here) | inr last ↦ inr last ]

-- ---- the numbers of one list that don't stand in another

-- the next number stands in the other list
pub left_out : (numbers excluded others : List ℕ) (i : ℕ) (x : ℕ) → i < length numbers → x ≡ get_or numbers i 0 → StandsIn x excluded → AreOthers others (take i numbers) excluded → AreOthers others (take (i + 1) numbers) excluded
left_out numbers excluded others i x low is among are =
    subst (λ (l : List ℕ). AreOthers others l excluded) (sym (take_more numbers i 0 low))
    (λ n. (λ stands. let both = (are n).0 stands in (stands_before n (take i numbers) (get_or numbers i 0 ∷ []) both.0, both.1), back n))
  where
    back : (n : ℕ) → StandsIn n (take i numbers ++ get_or numbers i 0 ∷ []) × (StandsIn n excluded → ⊥) → StandsIn n others
    back n both = elim (stands_before_or_last n (get_or numbers i 0) (take i numbers) both.0) [
      | inl before ↦ (are n).1 (before, both.1)
      | inr last ↦ absurd (both.1 (subst (λ m. StandsIn m excluded) (is ∙ sym last) among))
    ]

-- it doesn't
pub taken_over : (numbers excluded others : List ℕ) (i : ℕ) (x : ℕ) → i < length numbers → x ≡ get_or numbers i 0 → (StandsIn x excluded → ⊥) → AreOthers others (take i numbers) excluded → AreOthers (others ++ x ∷ []) (take (i + 1) numbers) excluded
taken_over numbers excluded others i x low is apart are =
    subst (λ (l : List ℕ). AreOthers (others ++ x ∷ []) l excluded) (sym (take_more numbers i 0 low)) (λ n. (there n, back n))
  where
    there : (n : ℕ) → StandsIn n (others ++ x ∷ []) → StandsIn n (take i numbers ++ get_or numbers i 0 ∷ []) × (StandsIn n excluded → ⊥)
    there n stands = elim (stands_before_or_last n x others stands) [
      | inl before ↦ (let both = (are n).0 before in (stands_before n (take i numbers) (get_or numbers i 0 ∷ []) both.0, both.1))
      | inr last ↦ (stands_last n (get_or numbers i 0) (take i numbers) (last ∙ is), λ among. apart (subst (λ m. StandsIn m excluded) last among))
    ]

    back : (n : ℕ) → StandsIn n (take i numbers ++ get_or numbers i 0 ∷ []) × (StandsIn n excluded → ⊥) → StandsIn n (others ++ x ∷ [])
    back n both = elim (stands_before_or_last n (get_or numbers i 0) (take i numbers) both.0) [
      | inl before ↦ stands_before n others (x ∷ []) ((are n).1 (before, both.1))
      | inr last ↦ stands_last n x others (last ∙ sym is)
    ]

-- ---- a search in a rising list

pub found_stands : (xs : List ℕ) (x : ℕ) (r : Result ℕ ℕ) → IsBinarySearchResult (λ y. nat_cmp y x) xs r → IsNonDecreasing xs → IsTrue (is_ok r) ↔ StandsIn x xs
found_stands xs x (Ok i) is up = let at = searched xs x (Ok i) is (λ i j. up i j 0) in (λ t. stands_at x xs i 0 at.0 at.1, λ stands. refl)
found_stands xs x (Err i) is up = (λ t. cc, λ stands. absurd (nowhere stands))
  where
    parts : (i ≤ length xs) × ((k : ℕ) → k < i → get_or xs k 0 < x) × ((k : ℕ) → i ≤ k → k < length xs → x < get_or xs k 0)
    parts = searched xs x (Err i) is (λ i j. up i j 0)

    nowhere : StandsIn x xs → ⊥
    nowhere stands =
        let at = place_of x xs stands in
        let is_there = at.2 0 in
        elim (cases_lt at.0 i) [
          | inl below ↦ (let less = parts.1 at.0 below in omega (arith, less, is_there))
          | inr past ↦ (let more = parts.2 at.0 past at.1 in omega (arith, more, is_there))
        ]
