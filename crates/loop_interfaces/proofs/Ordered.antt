-- Keys in order, each a name and a number, and the numbers alone.
use Rattle.std.proofs.Common.{◌≡◌, ℕ, zero, suc, ◌+◌, ◌<◌, ◌⊎◌, ◌↔◌, Bool, true, false, ◌&&◌, List, [], ◌∷◌, ◌++◌, map, length, get_or, refl, sym, ◌∙◌, ap, subst, inl, inr, arith}
use Rattle.std.specs.Prelude.{All, nat_eq}
use Rattle.std.specs.Borrow.{Bor}
use Rattle.std.specs.Cmp.{IsTotalOrder, IsEquivalence, both_tied, unsigned_ties, second_so}
use Rattle.std.specs.Cmp.Lexicographic.{slice_cmp, pointwise, texts_ties}
use Rattle.std.specs.declared.cmp.Ordering.{Ordering}
use Rattle.std.specs.declared.cmp.Ordering.TheVariants.{Less, Equal, Greater}
use Rattle.std.specs.Ordering.{nat_cmp, ordering_then, MatchOrdering, eq_by_cmp}
use Rattle.std.specs.List.{Contains, dedup, Any}
use Rattle.std.specs.List.Sorted.{IsPermutation, IsSorted, IsStrictlySortedBy}
use Rattle.std.proofs.lemmas.Bool.{eqb-true}
use Rattle.std.proofs.lemmas.Cmp.{ranked, then_total, on_total, nat_cmp_total, and_equiv, on_equiv, nat_eq_equiv, lists_total, lists_equiv}
use Rattle.std.proofs.lemmas.List.Elements.{All-head, All-tail}
use Rattle.std.proofs.lemmas.List.Kept.{IsStrictlySortedBy-dedup, Any-dedup, Contains-from_dedup}
use Rattle.std.proofs.lemmas.List.Sorted.{Contains-permutation, IsPermutation-sym}
use Rattle.c_meaning.specs.Interfaces.{StandsIn, IsBefore, name_of}
use Rattle.rvt_tree.specs.declared.programs.Function.{Function}
use Rattle.loop_interfaces.specs.NameOrder.{StandsBefore, AreInNameOrder}

-- a name and a number
abbrev pub Key : Type 0
Key = Bor (List ℕ) × ℕ

abbrev pub key_cmp : Key → Key → Ordering
key_cmp x y = ordering_then (slice_cmp nat_cmp x.0.now y.0.now) (nat_cmp x.1 y.1)

abbrev pub key_eq : Key → Key → Bool
key_eq x y = pointwise nat_eq x.0.now y.0.now && nat_eq x.1 y.1

abbrev pub numbers_of : List Key → List ℕ
numbers_of [] = []
numbers_of (k ∷ ks) = k.1 ∷ numbers_of ks

key_total : IsTotalOrder key_cmp
key_total = then_total (on_total (λ (k : Key). k.0) (on_total (λ (b : Bor (List ℕ)). b.now) (lists_total nat_cmp_total))) (on_total (λ (k : Key). k.1) nat_cmp_total)

key_equiv : IsEquivalence key_eq
key_equiv = and_equiv (on_equiv (λ (k : Key). k.0) (on_equiv (λ (b : Bor (List ℕ)). b.now) (lists_equiv nat_eq_equiv))) (on_equiv (λ (k : Key). k.1) nat_eq_equiv)

key_ties : (x y : Key) → key_eq x y ≡ eq_by_cmp key_cmp x y
key_ties x y = both_tied (pointwise nat_eq x.0.now y.0.now) (nat_eq x.1 y.1) (slice_cmp nat_cmp x.0.now y.0.now) (nat_cmp x.1 y.1) (texts_ties x.0.now y.0.now) (unsigned_ties x.1 y.1)

-- ---- names in the order of bytes

number_less : (a b : ℕ) → nat_cmp a b ≡ Less → a < b
number_less a b e = subst (λ (o : Ordering). MatchOrdering o (a < b) (a ≡ b) (b < a)) e (ranked a b (nat_cmp a b) refl)

number_same : (a b : ℕ) → nat_cmp a b ≡ Equal → a ≡ b
number_same a b e = subst (λ (o : Ordering). MatchOrdering o (a < b) (a ≡ b) (b < a)) e (ranked a b (nat_cmp a b) refl)

-- what a first part and a second one come to
then_cases : (first second wanted : Ordering) → ordering_then first second ≡ wanted → (first ≡ wanted) ⊎ ((first ≡ Equal) × (second ≡ wanted))
then_cases Less second wanted e = inl e
then_cases Equal second wanted e = inr (refl, e)
then_cases Greater second wanted e = inl e

texts_same : (xs ys : List ℕ) → slice_cmp nat_cmp xs ys ≡ Equal → xs ≡ ys
texts_same [] [] e = refl
texts_same [] (y ∷ ys) e = cc
texts_same (x ∷ xs) [] e = cc
texts_same (x ∷ xs) (y ∷ ys) e = by (then_cases (nat_cmp x y) (slice_cmp nat_cmp xs ys) Equal e) (texts_same xs ys)
  where
    joined : x ≡ y → xs ≡ ys → x ∷ xs ≡ y ∷ ys
    joined first rest = ap (λ n. n ∷ xs) first ∙ ap (λ l. y ∷ l) rest

    opened : (o : Ordering) → nat_cmp x y ≡ o → o ≡ Equal → slice_cmp nat_cmp xs ys ≡ Equal
    opened o is equal = sym (ap (λ (c : Ordering). ordering_then c (slice_cmp nat_cmp xs ys)) (is ∙ equal)) ∙ e

    by : (nat_cmp x y ≡ Equal) ⊎ ((nat_cmp x y ≡ Equal) × (slice_cmp nat_cmp xs ys ≡ Equal)) → (slice_cmp nat_cmp xs ys ≡ Equal → xs ≡ ys) → x ∷ xs ≡ y ∷ ys
    by (inl first) rest = joined (number_same x y first) (rest (opened (nat_cmp x y) refl first))
    by (inr both) rest = joined (number_same x y both.0) (rest both.1)

texts_less : (xs ys : List ℕ) → slice_cmp nat_cmp xs ys ≡ Less → IsBefore xs ys
texts_less [] [] e = cc
texts_less [] (y ∷ ys) e = tt
texts_less (x ∷ xs) [] e = cc
texts_less (x ∷ xs) (y ∷ ys) e = by (then_cases (nat_cmp x y) (slice_cmp nat_cmp xs ys) Less e) (texts_less xs ys)
  where
    by : (nat_cmp x y ≡ Less) ⊎ ((nat_cmp x y ≡ Equal) × (slice_cmp nat_cmp xs ys ≡ Less)) → (slice_cmp nat_cmp xs ys ≡ Less → IsBefore xs ys) → (x < y) ⊎ ((x ≡ y) × IsBefore xs ys)
    by (inl first) rest = inl (number_less x y first)
    by (inr both) rest = inr (number_same x y both.0, rest both.1)

-- ---- keys of a function's locals

module _ (function : Function) where
  -- the key of a local has its name
  abbrev pub IsKey : Key → Type 0
  IsKey k = k.0.now ≡ name_of function k.1

  keys_less : (a b : Key) → IsKey a → IsKey b → key_cmp a b ≡ Less → StandsBefore function a.1 b.1
  keys_less a b a_is b_is e = by (then_cases (slice_cmp nat_cmp a.0.now b.0.now) (nat_cmp a.1 b.1) Less e)
    where
      by : (slice_cmp nat_cmp a.0.now b.0.now ≡ Less) ⊎ ((slice_cmp nat_cmp a.0.now b.0.now ≡ Equal) × (nat_cmp a.1 b.1 ≡ Less)) → StandsBefore function a.1 b.1
      by (inl less) = inl (subst (λ l. IsBefore l (name_of function b.1)) a_is (subst (λ l. IsBefore a.0.now l) b_is (texts_less a.0.now b.0.now less)))
      by (inr both) = inr (sym a_is ∙ texts_same a.0.now b.0.now both.0 ∙ b_is, number_less a.1 b.1 both.1)

  -- keys that rise stand for numbers in the order of names
  pub rising_names : (ks : List Key) → All IsKey ks → IsStrictlySortedBy key_cmp ks → AreInNameOrder function (numbers_of ks)
  unfolding IsStrictlySortedBy
  rising_names [] are up = tt
  rising_names (a ∷ []) are up = tt
  rising_names (a ∷ (b ∷ ks)) are up =
      (keys_less a b (All-head IsKey a (b ∷ ks) are) (All-head IsKey b ks (All-tail IsKey a (b ∷ ks) are)) up.0.0, rising_names (b ∷ ks) (All-tail IsKey a (b ∷ ks) are) up.1)

-- ---- the numbers of keys

-- a number stands where a key has it
key_place : (n : ℕ) (ks : List Key) → StandsIn n (numbers_of ks) → (k : Key) × Contains ks k × (k.1 ≡ n)
key_place n [] stands = absurd stands
key_place n (k ∷ ks) (inl same) = (k, (zero, omega arith, refl), sym same)
key_place n (k ∷ ks) (inr later) =
    let at = key_place n ks later in (at.0, (suc at.1.0, omega (arith, at.1.1), at.1.2), at.2)

number_stands : (n : ℕ) (ks : List Key) (k : Key) → Contains ks k → k.1 ≡ n → StandsIn n (numbers_of ks)
number_stands n ks k among is = at ks among.0 among.1 among.2
  where
    at : (ks : List Key) (i : ℕ) → i < length ks → get_or ks i k ≡ k → StandsIn n (numbers_of ks)
    at [] i low same = absurd (omega (arith, low))
    at (x ∷ xs) zero low same = inl (sym is ∙ ap (λ (y : Key). y.1) (sym same))
    at (x ∷ xs) (suc i) low same = inr (at xs i (omega (arith, low)) same)

-- keys in another order have the same numbers
pub numbers_moved : (n : ℕ) (ks ls : List Key) → IsPermutation ks ls → StandsIn n (numbers_of ks) → StandsIn n (numbers_of ls)
numbers_moved n ks ls moved stands = let at = key_place n ks stands in number_stands n ls at.0 (Contains-permutation ks ls at.0 moved at.1) at.2

-- and each key once has them too
pub numbers_once : (n : ℕ) (ks : List Key) → StandsIn n (numbers_of (dedup key_eq ks)) ↔ StandsIn n (numbers_of ks)
numbers_once n ks = (there, back)
  where
    there : StandsIn n (numbers_of (dedup key_eq ks)) → StandsIn n (numbers_of ks)
    there stands = let at = key_place n (dedup key_eq ks) stands in number_stands n ks at.0 (Contains-from_dedup key_eq ks at.0 at.1) at.2

    back : StandsIn n (numbers_of ks) → StandsIn n (numbers_of (dedup key_eq ks))
    back stands =
        let at = key_place n ks stands in
        let found = Any-dedup key_equiv ks at.0 at.1 in
        let same : at.0.1 ≡ found.1.1 = eqb-true at.0.1 found.1.1 (second_so (pointwise nat_eq at.0.0.now found.1.0.now) (nat_eq at.0.1 found.1.1) found.4) in
        number_stands n (dedup key_eq ks) found.1 (found.0, found.2, found.3) (sym same ∙ at.2)

pub sorted_once : (ks : List Key) → IsSorted key_cmp ks → IsStrictlySortedBy key_cmp (dedup key_eq ks)
sorted_once ks up = IsStrictlySortedBy-dedup key_total key_ties ks up
