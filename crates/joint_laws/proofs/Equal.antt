-- Structs that are partners are equal.
use Rattle.std.proofs.Common.{◌≡◌, ℕ, zero, suc, ◌+◌, ◌<◌, List, [], ◌∷◌, ◌++◌, length, slice_get, Bool, true, false, if◌then◌else◌, Option, Some, None, refl, sym, ap, ◌∙◌, arith}
use Rattle.std.proofs.lemmas.List.{append_assoc, append-nil}
use Rattle.std.proofs.lemmas.Option.{slice_get_within}
use Rattle.rvt_tree.specs.declared.programs.StructDef.{StructDef}
use Rattle.rvt_tree.specs.Same.{ArePaired}
use Rattle.joint_objects.specs.Sought.{sought_from}
use Rattle.joint_objects.specs.StructTypes.{have_one_name, have_same_fields, equal_struct, struct_partners_from}

-- ---- what is found by its name

pub record Found (test : StructDef → Bool) (list : List StructDef) (start b : ℕ) : Type 0 where
  pub place : ℕ
  pub entry : StructDef
  pub here : slice_get list place ≡ Some entry
  pub passes : test entry ≡ true
  pub number : start + place ≡ b

module _ (named test : StructDef → Bool) where
  abbrev gives : ℕ → StructDef → Option ℕ
  gives number y = if test y then Some number else None

  at_first : (y : StructDef) (list : List StructDef) (start b : ℕ) (t : Bool) → test y ≡ t → (if t then Some start else None) ≡ Some b → Found test (y ∷ list) start b
  at_first y list start b true e h =
      let same : ◌≡◌ {A = Option ℕ} (Some start) (Some b) = h in
      let inside : start ≡ b = cc in
      let number : start + 0 ≡ b = omega (arith, inside) in
      record { place = 0; entry = y; here = refl; passes = e; number = number }
  at_first y list start b false e h = absurd (let no : ◌≡◌ {A = Option ℕ} None (Some b) = h in cc)

  further_on : (y : StructDef) (list : List StructDef) (start b : ℕ) → Found test list (start + 1) b → Found test (y ∷ list) start b
  further_on y list start b f =
      let e : start + 1 + f.place ≡ b = f.number in
      let number : start + suc f.place ≡ b = omega (arith, e) in
      record { place = suc f.place; entry = f.entry; here = f.here; passes = f.passes; number = number }

  either_way : (y : StructDef) (list : List StructDef) (start b : ℕ) (n : Bool) → (sought_from named gives (start + 1) list ≡ Some b → Found test list (start + 1) b) →
      (if n then gives start y else sought_from named gives (start + 1) list) ≡ Some b → Found test (y ∷ list) start b
  either_way y list start b true later h = at_first y list start b (test y) refl h
  either_way y list start b false later h = further_on y list start b (later h)

  pub found : (list : List StructDef) (start b : ℕ) → sought_from named gives start list ≡ Some b → Found test list start b
  found [] start b h = absurd (let no : ◌≡◌ {A = Option ℕ} None (Some b) = h in cc)
  found (y ∷ list) start b h = either_way y list start b (named y) (found list (start + 1) b) h

-- ---- partners

module _ (theirs : List StructDef) where
  -- those that are known stay
  pub record Extends (known all : List (Option ℕ)) : Type 0 where
    pub more : List (Option ℕ)
    pub whole : all ≡ known ++ more

  pub extends : (known : List (Option ℕ)) (list : List StructDef) → Extends known (struct_partners_from theirs known list)
  extends known [] = record { more = []; whole = sym (append-nil known) }
  extends known (x ∷ list) =
      let next : Extends (known ++ equal_struct known theirs x ∷ []) (struct_partners_from theirs (known ++ equal_struct known theirs x ∷ []) list) = extends (known ++ equal_struct known theirs x ∷ []) list in
      record { more = equal_struct known theirs x ∷ next.more; whole = next.whole ∙ append_assoc known (equal_struct known theirs x ∷ []) next.more }

  length_one : (known : List (Option ℕ)) (p : Option ℕ) → length (known ++ p ∷ []) ≡ length known + 1
  length_one [] p = refl
  length_one (q ∷ known) p =
      let e : length (known ++ p ∷ []) ≡ length known + 1 = length_one known p in
      let all : suc (length (known ++ p ∷ [])) ≡ suc (length known) + 1 = omega (arith, e) in
      all

  pub as_many : (known : List (Option ℕ)) (list : List StructDef) → length (struct_partners_from theirs known list) ≡ length known + length list
  as_many known [] = let none : length known ≡ length known + 0 = omega arith in none
  as_many known (x ∷ list) =
      let next : length (struct_partners_from theirs (known ++ equal_struct known theirs x ∷ []) list) ≡ length (known ++ equal_struct known theirs x ∷ []) + length list = as_many (known ++ equal_struct known theirs x ∷ []) list in
      let one : length (known ++ equal_struct known theirs x ∷ []) ≡ length known + 1 = length_one known (equal_struct known theirs x) in
      let all : length (struct_partners_from theirs (known ++ equal_struct known theirs x ∷ []) list) ≡ length known + suc (length list) = omega (arith, next, one) in
      all

  -- our struct and theirs have the same fields, where the partners of those that stand before it are known
  pub record AreEqual (list : List StructDef) (all : List (Option ℕ)) (a b : ℕ) : Type 0 where
    pub ours : StructDef
    pub other : StructDef
    pub known : List (Option ℕ)
    pub here : slice_get list a ≡ Some ours
    pub there : slice_get theirs b ≡ Some other
    pub fields : have_same_fields known ours other ≡ true
    pub before : Extends known all

  behind_known : (known more : List (Option ℕ)) (p : Option ℕ) → slice_get ((known ++ p ∷ []) ++ more) (length known) ≡ Some p
  behind_known [] more p = refl
  behind_known (q ∷ known) more p = behind_known known more p

  pub partners_are_equal : (known : List (Option ℕ)) (list : List StructDef) (a b : ℕ) → ArePaired (struct_partners_from theirs known list) (length known + a) b →
      AreEqual list (struct_partners_from theirs known list) a b
  partners_are_equal known [] a b h = absurd (beyond known a h)
    where
      beyond : (known : List (Option ℕ)) (a : ℕ) → ArePaired known (length known + a) b → ⊥
      beyond known a h = let low : length known + a < length known = slice_get_within known (length known + a) (Some b) h in let no : ⊥ = omega (arith, low) in no
  partners_are_equal known (x ∷ list) zero b h =
      let next : Extends (known ++ equal_struct known theirs x ∷ []) (struct_partners_from theirs (known ++ equal_struct known theirs x ∷ []) list) = extends (known ++ equal_struct known theirs x ∷ []) list in
      let place : length known + 0 ≡ length known = omega arith in
      let own : slice_get (struct_partners_from theirs (known ++ equal_struct known theirs x ∷ []) list) (length known) ≡ Some (equal_struct known theirs x) =
      ap (λ all. slice_get all (length known)) next.whole ∙ behind_known known next.more (equal_struct known theirs x) in
      let same : ◌≡◌ {A = Option (Option ℕ)} (Some (equal_struct known theirs x)) (Some (Some b)) = sym own ∙ ap (slice_get (struct_partners_from theirs (known ++ equal_struct known theirs x ∷ []) list)) (sym place) ∙ h in
      let inside : equal_struct known theirs x ≡ Some b = cc in
      let f : Found (have_same_fields known x) theirs 0 b = found (have_one_name x) (have_same_fields known x) theirs 0 b inside in
      let n : 0 + f.place ≡ b = f.number in
      let number : f.place ≡ b = omega (arith, n) in
      record {
        ours = x;
        other = f.entry;
        known = known;
        here = refl;
        there = ap (slice_get theirs) (sym number) ∙ f.here;
        fields = f.passes;
        before = record { more = equal_struct known theirs x ∷ next.more; whole = next.whole ∙ append_assoc known (equal_struct known theirs x ∷ []) next.more };
      }
  partners_are_equal known (x ∷ list) (suc a) b h =
      let one : length (known ++ equal_struct known theirs x ∷ []) ≡ length known + 1 = length_one known (equal_struct known theirs x) in
      let place : length known + suc a ≡ length (known ++ equal_struct known theirs x ∷ []) + a = omega (arith, one) in
      let next : AreEqual list (struct_partners_from theirs (known ++ equal_struct known theirs x ∷ []) list) a b =
      partners_are_equal (known ++ equal_struct known theirs x ∷ []) list a b (ap (slice_get (struct_partners_from theirs (known ++ equal_struct known theirs x ∷ []) list)) (sym place) ∙ h) in
      record { ours = next.ours; other = next.other; known = next.known; here = next.here; there = next.there; fields = next.fields; before = next.before }

  -- what is paired among those that are known is paired among all
  in_longer : (known more : List (Option ℕ)) (a b : ℕ) → ArePaired known a b → ArePaired (known ++ more) a b
  in_longer [] more a b h = absurd (let no : ◌≡◌ {A = Option (Option ℕ)} None (Some (Some b)) = h in cc)
  in_longer (p ∷ known) more zero b h = h
  in_longer (p ∷ known) more (suc a) b h = in_longer known more a b h

  pub paired_before : (known all : List (Option ℕ)) → Extends known all → (a b : ℕ) → ArePaired known a b → ArePaired all a b
  paired_before known all x a b h = ap (λ list. slice_get list a) x.whole ∙ in_longer known x.more a b h
