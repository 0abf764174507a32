-- Clauses stay covered, as the trail grows, lists change and literals are handled.
use Rattle.std.proofs.Common.{◌≡◌, inl, inr, ℕ, ℤ, ◌<◌, ◌≤◌, ◌+◌, List, [], ◌∷◌, ◌++◌, length, slice_index, slice_index_or, sym, ap, ◌∙◌, arith, subst, length-append, Option, Some, None}
use Rattle.std.specs.Prelude.{Contains}
use Rattle.std.proofs.lemmas.Bool.{cases_lt}
use Rattle.std.proofs.lemmas.List.{get_or_default}
use Rattle.unit_propagation.proofs.Consistent.{cases_int}
use Rattle.clause_db.specs.Literal.{opposite}
use Rattle.clause_db.proofs.Ordered.{contains_at, read_at_place, opposite-opposite}
use Rattle.unit_propagation.specs.Places.{literal_at}
use Rattle.unit_propagation.specs.Watching.{Holds, HoldsBy, IsGuarded, IsCovered}
use Rattle.unit_propagation.specs.Quiet.{IsFalseClause}
use Rattle.unit_propagation.specs.Visiting.{IsNotFalse, WatchesNot, OthersAreFalse}
use Rattle.unit_propagation.specs.declared.watches.Watched.{Watched}
use Rattle.unit_propagation.proofs.Trails.{literal_at-push_old}
use Rattle.unit_propagation.proofs.Tables.{Keeps}

pub holds_from_contains : (trail clause : List ℤ) (l : ℤ) → Contains clause l → Contains trail l → Holds trail clause
holds_from_contains trail clause l here w = (w.0, w.1, subst (Contains clause) (sym (read_at_place trail l w)) here)

-- a literal that is not false is guarded
pub guarded_not_false : (trail : List ℤ) (starts : List ℕ) (head : ℕ) (clause : List ℤ) (l : ℤ) → head ≤ length trail → IsNotFalse trail l → IsGuarded trail starts head clause l
guarded_not_false trail starts head clause l within fine p h e =
    let low : p < length trail = omega arith in
    absurd (fine (subst (Contains trail) e (contains_at trail p low)))

-- where a literal is true, and no decision stands at or behind the head, all places from it on hold
pub holds_late : (trail : List ℤ) (starts : List ℕ) (head : ℕ) (clause : List ℤ) → ((j : ℕ) → j < length starts → slice_index starts j ≤ head) → Holds trail clause → (p : ℕ) → head ≤ p → HoldsBy trail starts p clause
holds_late trail starts head clause before (q, within, has) p late =
    (q, within, has, λ j h behind. absurd (let low = before j h in omega arith))

-- one literal more is handled
pub guarded_more : (trail : List ℤ) (starts : List ℕ) (head : ℕ) (clause : List ℤ) (l : ℤ) → (literal_at trail head ≡ opposite l → HoldsBy trail starts head clause) → IsGuarded trail starts head clause l → IsGuarded trail starts (head + 1) clause l
guarded_more trail starts head clause l here before p h e = elim (cases_lt p head) [
  | inl k ↦ before p k e
  | inr k ↦
      let same : p ≡ head = omega arith in
      subst (λ n. HoldsBy trail starts n clause) (sym same) (here (ap (literal_at trail) (sym same) ∙ e))
]

pub guarded_fewer : (trail : List ℤ) (starts : List ℕ) (head : ℕ) (clause : List ℤ) (l : ℤ) → IsGuarded trail starts (head + 1) clause l → IsGuarded trail starts head clause l
guarded_fewer trail starts head clause l guarded p h e = guarded p (omega arith) e

pub holds_by-push : (trail : List ℤ) (l : ℤ) (starts : List ℕ) (place : ℕ) (clause : List ℤ) → HoldsBy trail starts place clause → HoldsBy (trail ++ l ∷ []) starts place clause
holds_by-push trail l starts place clause (q, within, has, level) =
    (q, simp length-append (omega arith), subst (Contains clause) (sym (literal_at-push_old trail l q within)) has, level)

pub guarded-push : (trail : List ℤ) (l : ℤ) (starts : List ℕ) (head : ℕ) (clause : List ℤ) (m : ℤ) → head ≤ length trail → IsGuarded trail starts head clause m → IsGuarded (trail ++ l ∷ []) starts head clause m
guarded-push trail l starts head clause m within guarded p h e =
    holds_by-push trail l starts p clause (guarded p h (sym (literal_at-push_old trail l p (omega arith)) ∙ e))

-- a clause is covered by a longer trail
pub covered-push : (trail : List ℤ) (l : ℤ) (starts : List ℕ) (head : ℕ) (lists : List (List ℕ)) (pending : List ℕ) (index : ℕ) (clause : List ℤ) (pair : Option Watched) → head ≤ length trail → IsCovered trail starts head lists pending index clause pair → IsCovered (trail ++ l ∷ []) starts head lists pending index clause pair
covered-push trail l starts head lists pending index clause None within (inl w) = inl w
covered-push trail l starts head lists pending index clause None within (inr (q, low, has, level)) =
    inr (q, simp length-append (omega arith), subst (Contains clause) (sym (literal_at-push_old trail l q low)) has, level)
covered-push trail l starts head lists pending index clause (Some watched) within w = record {
  has_first = w.has_first;
  has_second = w.has_second;
  differ = w.differ;
  in_first = w.in_first;
  in_second = w.in_second;
  first_guarded = guarded-push trail l starts head clause watched.first within w.first_guarded;
  second_guarded = guarded-push trail l starts head clause watched.second within w.second_guarded;
}

-- a clause is covered by other lists that have it where these do
pub covered_lists : (trail : List ℤ) (starts : List ℕ) (head : ℕ) (old new : List (List ℕ)) (pending : List ℕ) (index : ℕ) (clause : List ℤ) (pair : Option Watched) → Keeps old new index → IsCovered trail starts head old pending index clause pair → IsCovered trail starts head new pending index clause pair
covered_lists trail starts head old new pending index clause None keeps w = w
covered_lists trail starts head old new pending index clause (Some watched) keeps w = record {
  has_first = w.has_first;
  has_second = w.has_second;
  differ = w.differ;
  in_first = keeps watched.first w.in_first;
  in_second = keeps watched.second w.in_second;
  first_guarded = w.first_guarded;
  second_guarded = w.second_guarded;
}

-- a clause is covered, also once fewer literals are handled
pub covered_fewer : (trail : List ℤ) (starts : List ℕ) (head : ℕ) (lists : List (List ℕ)) (pending : List ℕ) (index : ℕ) (clause : List ℤ) (pair : Option Watched) → IsCovered trail starts (head + 1) lists pending index clause pair → IsCovered trail starts head lists pending index clause pair
covered_fewer trail starts head lists pending index clause None w = w
covered_fewer trail starts head lists pending index clause (Some watched) w = record {
  has_first = w.has_first;
  has_second = w.has_second;
  differ = w.differ;
  in_first = w.in_first;
  in_second = w.in_second;
  first_guarded = guarded_fewer trail starts head clause watched.first w.first_guarded;
  second_guarded = guarded_fewer trail starts head clause watched.second w.second_guarded;
}

module _ (trail : List ℤ) (starts : List ℕ) (head : ℕ) (lists : List (List ℕ)) (pending : List ℕ) (index : ℕ) (clause : List ℤ) where
  -- a clause with a true literal is covered, also once the next literal is handled
  pub covered_holds : (pair : Option Watched) → ((j : ℕ) → j < length starts → slice_index starts j ≤ head) → Holds trail clause → IsCovered trail starts head lists pending index clause pair → IsCovered trail starts (head + 1) lists pending index clause pair
  covered_holds None before holds w = w
  covered_holds (Some watched) before holds w = record {
    has_first = w.has_first;
    has_second = w.has_second;
    differ = w.differ;
    in_first = w.in_first;
    in_second = w.in_second;
    first_guarded = guarded_more trail starts head clause watched.first (λ e. holds_late trail starts head clause before holds head (omega arith)) w.first_guarded;
    second_guarded = guarded_more trail starts head clause watched.second (λ e. holds_late trail starts head clause before holds head (omega arith)) w.second_guarded;
  }

  pub same_falsified : (l m : ℤ) → literal_at trail head ≡ opposite l → literal_at trail head ≡ opposite m → m ≡ l
  same_falsified l m e f = sym (opposite-opposite m) ∙ ap opposite (sym f ∙ e) ∙ opposite-opposite l

  -- a clause that doesn't watch the literal that becomes false
  pub covered_elsewhere : (l : ℤ) (pair : Option Watched) → literal_at trail head ≡ opposite l → WatchesNot pair l → IsCovered trail starts head lists pending index clause pair → IsCovered trail starts (head + 1) lists pending index clause pair
  covered_elsewhere l None at_head apart w = w
  covered_elsewhere l (Some watched) at_head apart w = record {
    has_first = w.has_first;
    has_second = w.has_second;
    differ = w.differ;
    in_first = w.in_first;
    in_second = w.in_second;
    first_guarded = guarded_more trail starts head clause watched.first (λ e. absurd (apart.0 (same_falsified l watched.first at_head e))) w.first_guarded;
    second_guarded = guarded_more trail starts head clause watched.second (λ e. absurd (apart.1 (same_falsified l watched.second at_head e))) w.second_guarded;
  }

-- where all literals of a clause but one are false, and that one too
pub all_false : (trail clause : List ℤ) (l : ℤ) → OthersAreFalse trail clause l → Contains trail (opposite l) → IsFalseClause trail clause
all_false trail clause l others here k d h = elim (cases_int (slice_index_or clause k d) l) [
  | inl e ↦ subst (λ m. Contains trail (opposite m)) (sym e) here
  | inr ne ↦ others (slice_index_or clause k d) (k, h, get_or_default clause k (slice_index_or clause k d) d h) ne
]
