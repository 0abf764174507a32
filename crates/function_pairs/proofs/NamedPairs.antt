-- The two functions of a pair are listed by a line, or have one name that no line has.
use Rattle.std.proofs.Common.{◌≡◌, ◌⊎◌, inl, inr, ℕ, zero, suc, Bool, true, false, cond, List, [], ◌∷◌, slice_get, Option, Some, None, refl, sym, ◌∙◌, subst}
use Rattle.std.specs.List.{find}
use Rattle.std.specs.Str.{bytes_eq}
use Rattle.std.proofs.lemmas.Slice.Eq.{bytes_eq-Decides}
use Rattle.version_map.specs.declared.map.Listed.{Listed}
use Rattle.function_pairs.specs.Counterparts.{new_side, old_side, new_name, old_name}
use Rattle.function_pairs.specs.Laws.{AreListed, HaveOneFreeName}

-- ---- the first element that passes

record FirstOf {X : Type 0} (p : X → Bool) (xs : List X) (x : X) : Type 0 where
  pub place : ℕ
  pub is_there : slice_get xs place ≡ Some x
  pub passes : p x ≡ true

first_or : {X : Type 0} (p : X → Bool) (x y : X) (xs : List X) (b : Bool) → p x ≡ b → (find p xs ≡ Some y → FirstOf p xs y) → cond b (Some x) (find p xs) ≡ Some y → FirstOf p (x ∷ xs) y
first_or p x y xs true e later h = let same : x ≡ y = (let some : Some x ≡ Some y = h in cc) in record { place = 0; is_there = h; passes = subst (λ z. p z ≡ true) same e }
first_or p x y xs false e later h = let there : FirstOf p xs y = later h in record { place = suc there.place; is_there = there.is_there; passes = there.passes }

first_found : {X : Type 0} (p : X → Bool) (xs : List X) (y : X) → find p xs ≡ Some y → FirstOf p xs y
first_found p [] y h = absurd (let no : None ≡ Some y = h in cc)
first_found p (x ∷ xs) y h = first_or p x y xs (p x) refl (first_found p xs y) h

none_or : {X : Type 0} (p : X → Bool) (x : X) (xs : List X) (b : Bool) → p x ≡ b → (find p xs ≡ None → (k : ℕ) (y : X) → slice_get xs k ≡ Some y → p y ≡ false) →
    cond b (Some x) (find p xs) ≡ None → (k : ℕ) (y : X) → slice_get (x ∷ xs) k ≡ Some y → p y ≡ false
none_or p x xs true e later h k y there = absurd (let no : Some x ≡ None = h in cc)
none_or p x xs false e later h zero y there = let same : x ≡ y = (let some : Some x ≡ Some y = there in cc) in subst (λ z. p z ≡ false) same e
none_or p x xs false e later h (suc k) y there = later h k y there

none_found : {X : Type 0} (p : X → Bool) (xs : List X) → find p xs ≡ None → (k : ℕ) (y : X) → slice_get xs k ≡ Some y → p y ≡ false
none_found p [] h k y there = absurd (let no : None ≡ Some y = there in cc)
none_found p (x ∷ xs) h k y there = none_or p x xs (p x) refl (none_found p xs) h k y there

-- ---- names that are each other's counterparts

module _ (lines : List Listed) (a : List ℕ) where
  differs : (x y : List ℕ) → bytes_eq x y ≡ false → x ≡ y → ⊥
  differs x y other same = let yes : bytes_eq x y ≡ true = (bytes_eq-Decides x y).1 same in let both : false ≡ true = sym other ∙ yes in cc

  listed : (line : Listed) → find (λ (l : Listed). bytes_eq l.old a) lines ≡ Some line → AreListed lines a line.new
  listed line h =
      let it : FirstOf (λ (l : Listed). bytes_eq l.old a) lines line = first_found (λ (l : Listed). bytes_eq l.old a) lines line h in
      record { place = it.place; line = line; is_there = it.is_there; its_old = (bytes_eq-Decides line.old a).0 it.passes; its_new = refl }

  free : find (λ (l : Listed). bytes_eq l.old a) lines ≡ None → (back : Option Listed) → find (λ (l : Listed). bytes_eq l.new a) lines ≡ back → old_side a back ≡ a → HaveOneFreeName lines a a
  free h None k turns =
      record {
        same = refl;
        old_free = λ place line there. differs line.old a (none_found (λ (l : Listed). bytes_eq l.old a) lines h place line there);
        new_free = λ place line there. differs line.new a (none_found (λ (l : Listed). bytes_eq l.new a) lines k place line there);
      }
  free h (Some line) k turns =
      let it : FirstOf (λ (l : Listed). bytes_eq l.new a) lines line = first_found (λ (l : Listed). bytes_eq l.new a) lines line k in
      absurd (differs line.old a (none_found (λ (l : Listed). bytes_eq l.old a) lines h it.place line it.is_there) turns)

  by_line : (line : Option Listed) → find (λ (l : Listed). bytes_eq l.old a) lines ≡ line → old_name lines (new_side a line) ≡ a →
      AreListed lines a (new_side a line) ⊎ HaveOneFreeName lines a (new_side a line)
  by_line (Some line) h turns = inl (listed line h)
  by_line None h turns = inr (free h (find (λ (l : Listed). bytes_eq l.new a) lines) refl turns)

  pub names_of_pair : old_name lines (new_name lines a) ≡ a → AreListed lines a (new_name lines a) ⊎ HaveOneFreeName lines a (new_name lines a)
  names_of_pair turns = by_line (find (λ (l : Listed). bytes_eq l.old a) lines) refl turns
