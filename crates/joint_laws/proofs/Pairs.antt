-- Which structs of the joint programs are paired.
use Rattle.std.proofs.Common.{◌≡◌, ℕ, zero, suc, ◌+◌, ◌<◌, List, [], ◌∷◌, ◌++◌, length, slice_get, Option, Some, None, ◌⊎◌, inl, inr, ⊎_elim, refl, sym, ap, ◌∙◌, subst, arith}
use Rattle.std.proofs.lemmas.Option.{slice_get_within}
use Rattle.rvt_tree.specs.Same.{ArePaired}
use Rattle.joint_objects.specs.Sides.{Partners}
use Rattle.joint_programs.specs.Pairings.{by_number, number_in_new, old_structs_from, new_structs_from, structs_paired}

-- ---- objects, by number

last_or_before : (list : List (Option ℕ)) (n a b : ℕ) → ArePaired (list ++ Some n ∷ []) a b → ArePaired list a b ⊎ ((a ≡ length list) × (n ≡ b))
last_or_before [] n zero b h = let same : Some (Some n) ≡ Some (Some b) = h in inr (refl, cc)
last_or_before [] n (suc a) b h = absurd (let no : None ≡ Some (Some b) = h in cc)
last_or_before (x ∷ list) n zero b h = inl h
last_or_before (x ∷ list) n (suc a) b h = moved (last_or_before list n a b h)
  where
    moved : ArePaired list a b ⊎ ((a ≡ length list) × (n ≡ b)) → ArePaired (x ∷ list) (suc a) b ⊎ ((suc a ≡ suc (length list)) × (n ≡ b))
    moved (inl before) = inl before
    moved (inr last) = inr (ap suc last.0, last.1)

one_more : (list : List (Option ℕ)) (n : ℕ) → length (list ++ Some n ∷ []) ≡ suc (length list)
one_more [] n = refl
one_more (x ∷ list) n = ap suc (one_more list n)

count_by_number : (count : ℕ) → length (by_number count) ≡ count
count_by_number zero = refl
count_by_number (suc n) = one_more (by_number n) n ∙ ap suc (count_by_number n)

pub pairs_itself : (count a b : ℕ) → ArePaired (by_number count) a b → a ≡ b
pairs_itself zero a b h = absurd (let no : None ≡ Some (Some b) = h in cc)
pairs_itself (suc n) a b h =
    ⊎_elim (λ before. pairs_itself n a b before) (λ (last : (a ≡ length (by_number n)) × (n ≡ b)). last.0 ∙ count_by_number n ∙ last.1) (last_or_before (by_number n) n a b h)

-- ---- structs

-- a struct of the old file, and its number in the new program
pub record FromOld (count start : ℕ) (list : List (Option ℕ)) (a b : ℕ) : Type 0 where
  pub partner : Option ℕ
  pub here : slice_get list a ≡ Some partner
  pub number : number_in_new count (start + a) partner ≡ b

-- a struct behind those of the old file
pub record Behind (list rest : List (Option ℕ)) (a b : ℕ) : Type 0 where
  pub further : ℕ
  pub place : a ≡ length list + further
  pub there : ArePaired rest further b

pub old_or_behind : (count start : ℕ) (list rest : List (Option ℕ)) (a b : ℕ) → ArePaired (old_structs_from count start list ++ rest) a b → FromOld count start list a b ⊎ Behind list rest a b
old_or_behind count start [] rest a b h = let place : a ≡ 0 + a = omega arith in inr (record { further = a; place = place; there = h })
old_or_behind count start (p ∷ list) rest zero b h =
    let same : ◌≡◌ {A = Option (Option ℕ)} (Some (Some (number_in_new count start p))) (Some (Some b)) = h in
    let inside : number_in_new count start p ≡ b = cc in
    let place : start + 0 ≡ start = omega arith in
    inl (record { partner = p; here = refl; number = ap (λ n. number_in_new count n p) place ∙ inside })
old_or_behind count start (p ∷ list) rest (suc a) b h = moved (old_or_behind count (start + 1) list rest a b h)
  where
    moved : FromOld count (start + 1) list a b ⊎ Behind list rest a b → FromOld count start (p ∷ list) (suc a) b ⊎ Behind (p ∷ list) rest (suc a) b
    moved (inl x) =
        let place : start + suc a ≡ start + 1 + a = omega arith in
        inl (record { partner = x.partner; here = x.here; number = ap (λ n. number_in_new count n x.partner) place ∙ x.number })
    moved (inr x) =
        let e : a ≡ length list + x.further = x.place in
        let place : suc a ≡ suc (length list) + x.further = omega (arith, e) in
        inr (record { further = x.further; place = place; there = x.there })

pub from_old : (count start : ℕ) (list rest : List (Option ℕ)) (a : ℕ) (p : Option ℕ) → slice_get list a ≡ Some p → ArePaired (old_structs_from count start list ++ rest) a (number_in_new count (start + a) p)
from_old count start [] rest a p h = absurd (let no : None ≡ Some p = h in cc)
from_old count start (x ∷ list) rest zero p h =
    let same : ◌≡◌ {A = Option (Option ℕ)} (Some x) (Some p) = h in
    let inside : x ≡ p = cc in
    let place : start ≡ start + 0 = omega arith in
    ap (λ y. Some (Some (number_in_new count start y))) inside ∙ ap (λ n. Some (Some (number_in_new count n p))) place
from_old count start (x ∷ list) rest (suc a) p h =
    let place : start + 1 + a ≡ start + suc a = omega arith in
    from_old count (start + 1) list rest a p h ∙ ap (λ n. Some (Some (number_in_new count n p))) place

pub behind : (count start : ℕ) (list rest : List (Option ℕ)) (c : ℕ) (x : Option (Option ℕ)) → slice_get rest c ≡ x → slice_get (old_structs_from count start list ++ rest) (length list + c) ≡ x
behind count start [] rest c x h = let place : 0 + c ≡ c = omega arith in ap (slice_get rest) place ∙ h
behind count start (p ∷ list) rest c x h =
    let place : suc (length list) + c ≡ suc (length list + c) = omega arith in
    ap (slice_get (old_structs_from count start (p ∷ list) ++ rest)) place ∙ behind count (start + 1) list rest c x h

pub alone : (start : ℕ) (list : List (Option ℕ)) (c b : ℕ) → ArePaired (new_structs_from start list) c b → (slice_get list c ≡ Some None) × (start + c ≡ b)
alone start [] c b h = absurd (let no : None ≡ Some (Some b) = h in cc)
alone start (None ∷ list) zero b h =
    let same : ◌≡◌ {A = Option (Option ℕ)} (Some (Some start)) (Some (Some b)) = h in
    let inside : start ≡ b = cc in
    let place : start + 0 ≡ b = omega (arith, inside) in
    (refl, place)
alone start (Some x ∷ list) zero b h = absurd (let no : ◌≡◌ {A = Option (Option ℕ)} (Some None) (Some (Some b)) = h in cc)
alone start (p ∷ list) (suc c) b h =
    let next : (slice_get list c ≡ Some None) × (start + 1 + c ≡ b) = alone (start + 1) list c b h in
    let e : start + 1 + c ≡ b = next.1 in
    let place : start + suc c ≡ b = omega (arith, e) in
    (next.0, place)

pub alone_there : (start : ℕ) (list : List (Option ℕ)) (c : ℕ) → slice_get list c ≡ Some None → ArePaired (new_structs_from start list) c (start + c)
alone_there start [] c h = absurd (let no : ◌≡◌ {A = Option (Option ℕ)} None (Some None) = h in cc)
alone_there start (None ∷ list) zero h = let place : start ≡ start + 0 = omega arith in ap (λ n. Some (Some n)) place
alone_there start (Some x ∷ list) zero h = absurd (let no : ◌≡◌ {A = Option (Option ℕ)} (Some (Some x)) (Some None) = h in cc)
alone_there start (p ∷ list) (suc c) h =
    let place : start + 1 + c ≡ start + suc c = omega arith in
    alone_there (start + 1) list c h ∙ ap (λ n. Some (Some n)) place

-- what a pair is: two equal structs; one of the old file alone; or one of the new file alone
pub data StructPair (old_count new_count : ℕ) (structs : Partners) (a b : ℕ) : Type 0 where
  Equal : ArePaired structs.of_old a b → StructPair old_count new_count structs a b
  OfOld : slice_get structs.of_old a ≡ Some None → b ≡ new_count + a → StructPair old_count new_count structs a b
  OfNew : slice_get structs.of_new b ≡ Some None → a ≡ old_count + b → StructPair old_count new_count structs a b

module _ (new_count : ℕ) (structs : Partners) where
  abbrev pub paired : List (Option ℕ)
  paired = structs_paired new_count structs

  by_partner : (a b : ℕ) (p : Option ℕ) → slice_get structs.of_old a ≡ Some p → number_in_new new_count (0 + a) p ≡ b → StructPair (length structs.of_old) new_count structs a b
  by_partner a b None h e = let n : new_count + (0 + a) ≡ b = e in let place : b ≡ new_count + a = omega (arith, n) in OfOld h place
  by_partner a b (Some x) h e = Equal (h ∙ ap (λ y. Some (Some y)) e)

  pub struct_pair : (a b : ℕ) → ArePaired paired a b → StructPair (length structs.of_old) new_count structs a b
  struct_pair a b h = by_case (old_or_behind new_count 0 structs.of_old (new_structs_from 0 structs.of_new) a b h)
    where
      by_case : FromOld new_count 0 structs.of_old a b ⊎ Behind structs.of_old (new_structs_from 0 structs.of_new) a b → StructPair (length structs.of_old) new_count structs a b
      by_case (inl x) = by_partner a b x.partner x.here x.number
      by_case (inr x) =
          let last : (slice_get structs.of_new x.further ≡ Some None) × (0 + x.further ≡ b) = alone 0 structs.of_new x.further b x.there in
          let l : 0 + x.further ≡ b = last.1 in
          let same : x.further ≡ b = omega (arith, l) in
          OfNew (subst (λ n. slice_get structs.of_new n ≡ Some None) same last.0) (x.place ∙ ap (λ n. length structs.of_old + n) same)

  pub equal_paired : (a b : ℕ) → ArePaired structs.of_old a b → ArePaired paired a b
  equal_paired a b h = from_old new_count 0 structs.of_old (new_structs_from 0 structs.of_new) a (Some b) h

  pub old_paired : (a : ℕ) → slice_get structs.of_old a ≡ Some None → ArePaired paired a (new_count + a)
  old_paired a h =
      let place : new_count + (0 + a) ≡ new_count + a = omega arith in
      from_old new_count 0 structs.of_old (new_structs_from 0 structs.of_new) a None h ∙ ap (λ n. Some (Some n)) place

  pub new_paired : (b : ℕ) → slice_get structs.of_new b ≡ Some None → ArePaired paired (length structs.of_old + b) b
  new_paired b h = behind new_count 0 structs.of_old (new_structs_from 0 structs.of_new) b (Some (Some b)) (alone_there 0 structs.of_new b h ∙ ap (λ n. Some (Some n)) (let place : 0 + b ≡ b = omega arith in place))

  -- no two have one partner
  module _ (turned : (a b : ℕ) → ArePaired structs.of_old a b → ArePaired structs.of_new b a) (within : (a b : ℕ) → ArePaired structs.of_old a b → b < new_count) where
    not_alone : (a b : ℕ) → ArePaired structs.of_old a b → slice_get structs.of_new b ≡ Some None → ⊥
    not_alone a b h k = let no : ◌≡◌ {A = Option (Option ℕ)} (Some (Some a)) (Some None) = sym (turned a b h) ∙ k in cc

    same_partner : (a a' b : ℕ) → ArePaired structs.of_old a b → ArePaired structs.of_old a' b → a ≡ a'
    same_partner a a' b h k = let same : ◌≡◌ {A = Option (Option ℕ)} (Some (Some a)) (Some (Some a')) = sym (turned a b h) ∙ turned a' b k in cc

    there : (b : ℕ) → slice_get structs.of_new b ≡ Some None → b < length structs.of_new
    there b h = slice_get_within structs.of_new b None h

    module _ (all : length structs.of_new ≡ new_count) where
      injective_at : (a a' b : ℕ) → StructPair (length structs.of_old) new_count structs a b → StructPair (length structs.of_old) new_count structs a' b → a ≡ a'
      injective_at a a' b (Equal h) (Equal k) = same_partner a a' b h k
      injective_at a a' b (Equal h) (OfOld k e) = absurd (let low : b < new_count = within a b h in let no : ⊥ = omega (arith, low, e) in no)
      injective_at a a' b (Equal h) (OfNew k e) = absurd (not_alone a b h k)
      injective_at a a' b (OfOld h e) (Equal k) = absurd (let low : b < new_count = within a' b k in let no : ⊥ = omega (arith, low, e) in no)
      injective_at a a' b (OfOld h e) (OfOld k e') = let same : a ≡ a' = omega (arith, e, e') in same
      injective_at a a' b (OfOld h e) (OfNew k e') = absurd (let low : b < length structs.of_new = there b k in let no : ⊥ = omega (arith, low, e, all) in no)
      injective_at a a' b (OfNew h e) (Equal k) = absurd (not_alone a' b k h)
      injective_at a a' b (OfNew h e) (OfOld k e') = absurd (let low : b < length structs.of_new = there b h in let no : ⊥ = omega (arith, low, e', all) in no)
      injective_at a a' b (OfNew h e) (OfNew k e') = e ∙ sym e'

      pub injective : (a a' b : ℕ) → ArePaired paired a b → ArePaired paired a' b → a ≡ a'
      injective a a' b h k = injective_at a a' b (struct_pair a b h) (struct_pair a' b k)
