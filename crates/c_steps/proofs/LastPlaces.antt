-- The last place is the first one of those in reverse.
use Rattle.std.proofs.Common.{◌≡◌, ℕ, zero, suc, ◌-◌, ◌<◌, List, [], ◌∷◌, length, reverse, get_or, slice_get, Option, Some, None, refl, sym, ap, ◌∙◌, arith}
use Rattle.std.proofs.lemmas.List.{get_or-reverse}
use Rattle.c_tasks.specs.Operands.{first_or}

first_is : {A : Type 0} (other : A) (items : List A) → first_or other items ≡ get_or items 0 other
first_is other [] = refl
first_is other (a ∷ items) = refl

-- what stands at a number, if there is something
read_at : {A : Type 0} (items : List A) (k : ℕ) (a other : A) → Some a ≡ slice_get items k → a ≡ get_or items k other
read_at [] k a other e = cc
read_at (b ∷ items) zero a other e = cc
read_at (b ∷ items) (suc k) a other e = read_at items k a other e

pub last_is_top : {A : Type 0} (items : List A) (a other : A) → Some a ≡ slice_get items (length items - 1) → a ≡ first_or other (reverse items)
last_is_top [] a other e = cc
last_is_top (b ∷ items) a other e =
    read_at (b ∷ items) (length (b ∷ items) - 1) a other e
    ∙ ap (λ k. get_or (b ∷ items) k other) (let same : length (b ∷ items) - 1 ≡ length (b ∷ items) - 1 - 0 = omega arith in same)
    ∙ sym (get_or-reverse (b ∷ items) 0 other (omega arith))
    ∙ sym (first_is other (reverse (b ∷ items)))

read_none : {A : Type 0} (items : List A) (k : ℕ) → k < length items → None ≡ slice_get items k → ⊥
read_none [] k h e = omega (arith, h)
read_none (b ∷ items) zero h e = absurd (let no : ◌≡◌ {A = Option _} None (Some b) = e in cc)
read_none (b ∷ items) (suc k) h e = read_none items k (omega (arith, h)) e

pub no_last : {A : Type 0} (items : List A) (other : A) → None ≡ slice_get items (length items - 1) → other ≡ first_or other (reverse items)
no_last [] other e = refl
no_last (b ∷ items) other e = absurd (read_none (b ∷ items) (length (b ∷ items) - 1) (omega arith) e)
