-- Lists of partners of which the first so many were looked at.
use Rattle.std.proofs.Common.{◌≡◌, ◌↔◌, ℕ, zero, suc, ◌+◌, ◌<◌, ◌≤◌, List, [], ◌∷◌, ◌++◌, length, slice_get, All, Option, Some, ◌⊎◌, inl, inr, refl, sym, ap, ◌∙◌, subst, arith}
use Rattle.std.proofs.lemmas.Bool.{cases_lt}
use Rattle.std.proofs.lemmas.List.Elements.{All-nil, All-cons, All-head, All-tail}
use Rattle.std.proofs.lemmas.Option.{slice_get_within}
use Rattle.rvt_tree.specs.Same.{ArePaired}
use Rattle.twin_candidates.specs.Kept.{KeepsOnly, IsKept}

pub record KeptBelow (Keeps : ℕ → ℕ → Type 0) (before after : List (Option ℕ)) (count : ℕ) : Type 0 where
  pub counted : length after ≡ count
  pub kept : (a b : ℕ) → a < count → ArePaired after a b ↔ (ArePaired before a b × Keeps a b)

pub kept_none : (Keeps : ℕ → ℕ → Type 0) (before : List (Option ℕ)) → KeptBelow Keeps before [] 0
kept_none Keeps before = record { counted = refl; kept = λ a b low. absurd (omega (arith, low)) }

earlier : (xs : List (Option ℕ)) (y : Option ℕ) (a : ℕ) → a < length xs → slice_get (xs ++ y ∷ []) a ≡ slice_get xs a
earlier [] y a low = absurd (omega (arith, low))
earlier (x ∷ xs) y zero low = refl
earlier (x ∷ xs) y (suc a) low = earlier xs y a (omega (arith, low))

last : (xs : List (Option ℕ)) (y : Option ℕ) → slice_get (xs ++ y ∷ []) (length xs) ≡ Some y
last [] y = refl
last (x ∷ xs) y = last xs y

inside : (x y : Option ℕ) → ◌≡◌ {A = Option (Option ℕ)} (Some x) (Some y) → x ≡ y
inside x y e = cc

length_more : (xs : List (Option ℕ)) (y : Option ℕ) → length (xs ++ y ∷ []) ≡ length xs + 1
length_more [] y = refl
length_more (x ∷ xs) y = let rest : length (xs ++ y ∷ []) ≡ length xs + 1 = length_more xs y in omega (arith, rest)

pub kept_more : (Keeps : ℕ → ℕ → Type 0) (before after : List (Option ℕ)) (count : ℕ) (y : Option ℕ) → IsKept (Keeps count) before count y →
    KeptBelow Keeps before after count → KeptBelow Keeps before (after ++ y ∷ []) (count + 1)
kept_more Keeps before after count y is h = record {
  counted = length_more after y ∙ ap (λ n. n + 1) h.counted;
  kept = λ a b low. by a b (cases_lt a count) low;
}
  where
    at_last : (b : ℕ) → ArePaired (after ++ y ∷ []) count b ↔ (ArePaired before count b × Keeps count b)
    at_last b =
        let now : slice_get (after ++ y ∷ []) count ≡ Some y = subst (λ n. slice_get (after ++ y ∷ []) n ≡ Some y) h.counted (last after y) in
        (λ paired. (is b).0 (inside y (Some b) (sym now ∙ paired)), λ both. now ∙ ap Some ((is b).1 both))

    by : (a b : ℕ) → (a < count) ⊎ (count ≤ a) → a < count + 1 → ArePaired (after ++ y ∷ []) a b ↔ (ArePaired before a b × Keeps a b)
    by a b (inl less) low =
        let same : slice_get (after ++ y ∷ []) a ≡ slice_get after a = earlier after y a (subst (λ n. a < n) (sym h.counted) less) in
        (λ paired. (h.kept a b less).0 (sym same ∙ paired), λ both. same ∙ (h.kept a b less).1 both)
    by a b (inr more) low =
        let same : count ≡ a = omega (arith, more, low) in
        subst (λ n. ArePaired (after ++ y ∷ []) n b ↔ (ArePaired before n b × Keeps n b)) same (at_last b)

pub kept_all : (Keeps : ℕ → ℕ → Type 0) (before after : List (Option ℕ)) (count : ℕ) → length before ≤ count → KeptBelow Keeps before after count → KeepsOnly Keeps before after
kept_all Keeps before after count whole h a b = by (cases_lt a count)
  where
    absent : (list : List (Option ℕ)) → length list ≤ a → ArePaired list a b → ⊥
    absent list past paired = let low : a < length list = slice_get_within list a (Some b) paired in absurd (omega (arith, past, low))

    by : (a < count) ⊎ (count ≤ a) → ArePaired after a b ↔ (ArePaired before a b × Keeps a b)
    by (inl less) = h.kept a b less
    by (inr more) =
        let counted : length after ≡ count = h.counted in
        (λ paired. absurd (absent after (omega (arith, more, counted)) paired), λ both. absurd (absent before (omega (arith, whole, more)) both.0))

-- ---- all of a list, and what is left of it

module _ {X : Type 0} (P : X → Type 0) (Whole : Type 0) (left rest : List X) where
  pub all_step : (x : X) → left ≡ x ∷ rest → P x → (All P left ↔ Whole) → (All P rest ↔ Whole)
  all_step x e is h = (λ all. h.0 (subst (All P) (sym e) (All-cons P x rest is all)), λ whole. All-tail P x rest (subst (All P) e (h.1 whole)))

  pub all_fail : (x : X) → left ≡ x ∷ rest → (P x → ⊥) → (All P left ↔ Whole) → Whole → ⊥
  all_fail x e other h whole = other (All-head P x rest (subst (All P) e (h.1 whole)))

  pub all_done : left ≡ [] → (All P left ↔ Whole) → Whole
  all_done e h = h.0 (subst (All P) (sym e) (All-nil P))

pub nil_of : {A : Type 0} (xs : List A) → length xs ≡ 0 → xs ≡ []
nil_of [] e = refl
nil_of (x ∷ xs) e = absurd (omega (arith, e))
