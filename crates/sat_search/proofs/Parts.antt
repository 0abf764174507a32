-- A part of a learnt clause is as good.
use Rattle.std.proofs.Common.{◌≡◌, ◌≢◌, ◌⊎◌, inl, inr, ℕ, ℤ, ◌<◌, List, [], ◌∷◌, slice_index, slice_index_or, refl, ap, arith}
use Rattle.std.specs.Prelude.{Contains, All}
use Rattle.std.proofs.lemmas.List.{get_or_default}
use Rattle.clause_db.specs.Literal.{variable_of}
use Rattle.clause_db.specs.Resolution.{IsResolvent}
use Rattle.clause_db.proofs.Ordered.{at_member}
use Rattle.sat_search.specs.Parts.{IsPartFrom}

-- a resolvent with a clause that adds nothing
pub resolvent_part : (places : List ℕ) (bound pivot : ℕ) (current other new : List ℤ) → slice_index places pivot < bound → ((l : ℤ) → Contains other l → variable_of l ≢ pivot → Contains current l) → IsResolvent pivot current other new → IsPartFrom places bound current new
resolvent_part places bound pivot current other new low within resolvent = record {
  part = λ l w. let both = at_member (λ m. (Contains current m ⊎ Contains other m) × (variable_of m ≢ pivot)) new l resolvent.from_either w in elim both.0 [
    | inl h ↦ h
    | inr h ↦ within l h both.1
  ];
  kept = λ l w late. at_member (λ m. variable_of m ≢ pivot → Contains new m) current l resolvent.keeps_first w (λ e. absurd (let same = ap (slice_index places) e in omega (arith, same, late, low)));
}

pub part_refl : (places : List ℕ) (bound : ℕ) (clause : List ℤ) → IsPartFrom places bound clause clause
part_refl places bound clause = record { part = λ l w. w; kept = λ l w late. w }

pub part_trans : (places : List ℕ) (bound : ℕ) (a b c : List ℤ) → IsPartFrom places bound a b → IsPartFrom places bound b c → IsPartFrom places bound a c
part_trans places bound a b c p q = record { part = λ l w. p.part l (q.part l w); kept = λ l w late. q.kept l (p.kept l w late) late }

-- what holds of each literal holds of those of a part
pub part_all : (P : ℤ → Type 0) (long short : List ℤ) → ((l : ℤ) → Contains short l → Contains long l) → All P long → All P short
part_all P long short part all k d h = at_member P long (slice_index_or short k d) all (part (slice_index_or short k d) (k, h, get_or_default short k (slice_index_or short k d) d h))

-- a part of nothing
pub part_empty : (short : List ℤ) → ((l : ℤ) → Contains short l → Contains [] l) → short ≡ []
part_empty [] part = refl
part_empty (x ∷ xs) part = absurd (let w = part x (0, omega arith, refl) in omega (arith, w.1))
