-- Lemmas on literals, and on clauses that are read from the left.
use Rattle.std.proofs.Common.{◌≡◌, ◌⊎◌, inl, inr, ℕ, zero, suc, ℤ, pos, negsuc, ◌<◌, ◌≤◌, List, length, slice_index_or, refl, sym, ap, ◌∙◌, arith, subst}
use Rattle.std.proofs.Math.IntN.{neg_ℤ-neg_ℤ}
use Rattle.std.proofs.lemmas.List.{get_or_default}
use Rattle.std.specs.Prelude.{Contains, All}
use Rattle.clause_db.specs.Literal.{variable_of, opposite, IsOrdered}

pub variable_of-opposite : (l : ℤ) → variable_of (opposite l) ≡ variable_of l
variable_of-opposite (pos zero) = refl
variable_of-opposite (pos (suc n)) = refl
variable_of-opposite (negsuc n) = refl

pub opposite-opposite : (l : ℤ) → opposite (opposite l) ≡ l
opposite-opposite l = neg_ℤ-neg_ℤ l

-- two literals of one variable are the same or opposite
pub same_or_opposite : (l m : ℤ) → variable_of l ≡ variable_of m → (l ≡ m) ⊎ (m ≡ opposite l)
same_or_opposite (pos n) (pos m) e = inl (ap pos e)
same_or_opposite (pos zero) (negsuc m) e = absurd (omega arith)
same_or_opposite (pos (suc n)) (negsuc m) e = inr (ap negsuc (omega arith))
same_or_opposite (negsuc n) (pos m) e = inr (ap pos (sym e))
same_or_opposite (negsuc n) (negsuc m) e = inl (ap negsuc (omega arith))

-- no literal of a variable above 0 is its own opposite
pub not_opposite_self : (l : ℤ) → 0 < variable_of l → l ≡ opposite l → ⊥
not_opposite_self (pos zero) h e = omega arith
not_opposite_self (pos (suc n)) h e = cc
not_opposite_self (negsuc n) h e = cc

-- the variable at a place of a clause
abbrev pub variable_at : List ℤ → ℕ → ℕ
variable_at clause k = variable_of (slice_index_or clause k (pos 0))

pub variable_at-mono : (b : List ℤ) (j q : ℕ) → IsOrdered b → j ≤ q → q < length b → variable_at b j ≤ variable_at b q
variable_at-mono b j q ordered h w = grind arith

-- one variable stands at one place
pub same_place : (b : List ℤ) (p q : ℕ) → IsOrdered b → p < length b → q < length b → variable_at b p ≡ variable_at b q → p ≡ q
same_place b p q ordered hp hq e = grind arith

pub contains_at : (clause : List ℤ) (k : ℕ) → k < length clause → Contains clause (slice_index_or clause k (pos 0))
contains_at clause k h = (k, h, get_or_default clause k _ (pos 0) h)

pub read_at_place : (clause : List ℤ) (l : ℤ) (w : Contains clause l) → slice_index_or clause w.0 (pos 0) ≡ l
read_at_place clause l w = get_or_default clause w.0 (pos 0) l w.1 ∙ w.2

pub at_member : (P : ℤ → Type 0) (clause : List ℤ) (l : ℤ) → All P clause → Contains clause l → P l
at_member P clause l all w = subst P w.2 (all w.0 l w.1)
