-- Tests that compute, and the lists that they run over.
use Rattle.std.proofs.Common.{◌≡◌, ℕ, zero, suc, Bool, true, false, not, ◌&&◌, ◌||◌, List, [], ◌∷◌, Some, refl, sym, ◌∙◌, ap, ◌⊎◌, inl, inr}
use Rattle.c_parser.specs.LookAhead.{nth, every, implies}

pub and_true : (a b : Bool) → (a && b) ≡ true → (a ≡ true) × (b ≡ true)
and_true true b h = (refl, h)
and_true false b h = cc

pub both : (a b : Bool) → a ≡ true → b ≡ true → (a && b) ≡ true
both a b p q = rw p (rw q refl)

pub or_true : (a b : Bool) → (a || b) ≡ true → (a ≡ true) ⊎ (b ≡ true)
or_true true b h = inl refl
or_true false b h = inr h

pub either_left : (a b : Bool) → a ≡ true → (a || b) ≡ true
either_left a b p = rw p refl

pub either_right : (a b : Bool) → b ≡ true → (a || b) ≡ true
either_right true b p = refl
either_right false b p = p

pub implied : (a b : Bool) → implies a b ≡ true → a ≡ true → b ≡ true
implied true b h p = h
implied false b h p = cc

pub not_true : (a : Bool) → not a ≡ true → a ≡ true → ⊥
not_true true h p = cc
not_true false h p = cc

pub every_at : {A : Type 0} (p : A → Bool) (xs : List A) (n : ℕ) (x : A) → every p xs ≡ true → nth xs n ≡ Some x → p x ≡ true
every_at p [] n x h e = cc
every_at {A} p (y ∷ ys) zero x h e = let same : y ≡ x = cc in ap p (sym same) ∙ (and_true (p y) (every p ys) h).0
every_at p (y ∷ ys) (suc n) x h e = every_at p ys n x (and_true (p y) (every p ys) h).1 e
