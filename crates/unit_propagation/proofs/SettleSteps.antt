-- Clauses come to watch two literals, and go from the pending ones.
use Rattle.std.proofs.Common.{◌≡◌, ◌≢◌, ◌⊎◌, inl, inr, ℕ, ℤ, pos, ◌<◌, ◌≤◌, ◌+◌, ◌-◌, List, [], ◌∷◌, ◌++◌, length, slice_index, slice_index_or, slice_set, refl, sym, ap, ◌∙◌, arith, subst, length-append, Option, Some, None, swap_remove}
use Rattle.std.specs.Prelude.{Contains}
use Rattle.std.proofs.Math.ListN.{length-set}
use Rattle.std.proofs.lemmas.Bool.{cases_lt, cases_eq}
use Rattle.std.proofs.lemmas.List.{get_or-set_other, get_or-set_same, get_or-take, get_or_default, get_or_append_left}
use Rattle.clause_db.specs.Literal.{variable_of, IsOrdered}
use Rattle.clause_db.proofs.Ordered.{contains_at, variable_of-opposite}
use Rattle.unit_propagation.specs.Places.{literal_at, PlacesAreRight, StartsAreRight}
use Rattle.unit_propagation.specs.Truth.{IsFree}
use Rattle.unit_propagation.specs.Status.{IsNext, Extends}
use Rattle.unit_propagation.specs.Watching.{code_of, Holds, HoldsForGood, IsGuarded, IsCovered, IsWatched}
use Rattle.unit_propagation.specs.Visiting.{IsNotFalse}
use Rattle.unit_propagation.specs.Settling.{IsBehindDecisions, IsStanding, AreSettled, PendingHold}
use Rattle.unit_propagation.specs.declared.watches.Watched.{Watched}
use Rattle.unit_propagation.specs.declared.trail.Value.TheVariants.{True, False, Free}
use Rattle.unit_propagation.proofs.Consistent.{consistent_from_places, free_not_false}
use Rattle.unit_propagation.proofs.Trails.{literal_at-push_new}
use Rattle.unit_propagation.proofs.Tables.{Keeps, enter_keeps, enter_has, contains_swap, length-swap_remove}
use Rattle.unit_propagation.proofs.Covers.{covered-push, covered_lists}
use Rattle.unit_propagation.proofs.VisitSteps.{pair_of}
use Rattle.unit_propagation.proofs.Statuses.{forces}
use Rattle.unit_propagation.specs.declared.settling.Standing.TheVariants.{Two, Forces}

-- the literals at two places of a clause differ
pub places_differ : (clause : List ℤ) (p q : ℕ) → IsOrdered clause → p < q → q < length clause → literal_at clause p ≢ literal_at clause q
places_differ clause p q ordered h within e = absurd (let below = ordered p q (pos 0) h within in let same = ap variable_of e in omega (arith, below, same))

-- a literal that is true, or free, is not false
pub true_not_false : (trail : List ℤ) (places : List ℕ) (l : ℤ) → PlacesAreRight trail places → Contains trail l → IsNotFalse trail l
true_not_false trail places l right w = consistent_from_places trail places right l w

pub free_literal_not_false : (trail : List ℤ) (l : ℤ) → IsFree trail l → IsNotFalse trail l
free_literal_not_false trail l free = free_not_false trail l free

-- no decision stands behind the last one
pub behind_last : (starts : List ℕ) (end place : ℕ) → StartsAreRight starts end → 0 < length starts → slice_index starts (length starts - 1) < place → IsBehindDecisions starts place
behind_last starts end place right some h j low = elim (cases_lt j (length starts - 1)) [
  | inl k ↦ let below = right.increasing j (length starts - 1) k (omega arith) in omega (arith, below, h)
  | inr k ↦ let same : j ≡ length starts - 1 = omega arith in subst (λ i. slice_index starts i < place) (sym same) h
]

-- a literal that became false behind all decisions is guarded by one that is true
pub guarded_late : (trail : List ℤ) (starts places : List ℕ) (head : ℕ) (clause : List ℤ) (l : ℤ) → PlacesAreRight trail places → head ≤ length trail → IsBehindDecisions starts (slice_index places (variable_of l)) → Holds trail clause → IsGuarded trail starts head clause l
guarded_late trail starts places head clause l right within late (q, low, has) p h e =
    let of = (right.of_literal p (omega arith)).2 in
    let same : slice_index places (variable_of l) ≡ p + 1 = ap (slice_index places) (sym (variable_of-opposite l) ∙ ap variable_of (sym e)) ∙ of in
    (q, low, has, λ j k behind. absurd (let before = late j k in omega (arith, before, same, behind)))

-- the lists once a clause watches two literals
abbrev pub entered : List (List ℕ) → ℤ → ℕ → List (List ℕ)
entered lists l index = slice_set lists (code_of l) (slice_index_or lists (code_of l) [] ++ index ∷ [])

module _ (clauses : List (List ℤ)) (trail : List ℤ) (starts : List ℕ) (variables head : ℕ) (pairs : List (Option Watched)) (lists : List (List ℕ)) (pending : List ℕ) (w : IsWatched clauses trail starts variables head pairs lists pending) where
  pub watched-push : (m : ℤ) → IsWatched clauses (trail ++ m ∷ []) starts variables head pairs lists pending
  watched-push m = record {
    head_within = let h = w.head_within in simp length-append (omega arith);
    starts_before = w.starts_before;
    known = w.known;
    tables = w.tables;
    each = λ k h. covered-push trail m starts head lists pending k (slice_index_or clauses k []) (slice_index_or pairs k None) w.head_within (w.each k h);
  }

  module _ (index : ℕ) (a b : ℤ) (low : index < length pairs) (a_within : code_of a < length lists) (b_within : code_of b < length lists) where
    b_within_entered : code_of b < length (entered lists a index)
    b_within_entered = rw length-set b_within

    both_keep : (k : ℕ) → Keeps lists (entered (entered lists a index) b index) k
    both_keep k l h = enter_keeps (entered lists a index) (code_of b) b_within_entered index k l (enter_keeps lists (code_of a) a_within index k l h)

    pub watch_two : Contains (slice_index_or clauses index []) a → Contains (slice_index_or clauses index []) b → a ≢ b → IsGuarded trail starts head (slice_index_or clauses index []) a → IsGuarded trail starts head (slice_index_or clauses index []) b → IsWatched clauses trail starts variables head (slice_set pairs index (Some (pair_of a b))) (entered (entered lists a index) b index) pending
    watch_two has_a has_b differ a_guarded b_guarded = record {
      head_within = w.head_within;
      starts_before = w.starts_before;
      known = rw length-set w.known;
      tables = rw (length-set, length-set) w.tables;
      each = λ k h. let old : k < length pairs = rw length-set at h in elim (cases_eq k index) [
        | inl e ↦ subst (λ i. IsCovered trail starts head (entered (entered lists a index) b index) pending i (slice_index_or clauses i []) (slice_index_or (slice_set pairs index (Some (pair_of a b))) i None)) (sym e) (subst (IsCovered trail starts head (entered (entered lists a index) b index) pending index (slice_index_or clauses index [])) (sym (get_or-set_same pairs index (Some (pair_of a b)) None low)) (record {
          has_first = has_a;
          has_second = has_b;
          differ = differ;
          in_first = enter_keeps (entered lists a index) (code_of b) b_within_entered index index a (enter_has lists (code_of a) a_within a index refl);
          in_second = enter_has (entered lists a index) (code_of b) b_within_entered b index refl;
          first_guarded = a_guarded;
          second_guarded = b_guarded;
        }))
        | inr ne ↦ subst (IsCovered trail starts head (entered (entered lists a index) b index) pending k (slice_index_or clauses k [])) (sym (get_or-set_other pairs index k (Some (pair_of a b)) None ne)) (covered_lists trail starts head lists (entered (entered lists a index) b index) pending k (slice_index_or clauses k []) (slice_index_or pairs k None) (both_keep k) (w.each k old))
      ];
    }

-- a clause is covered by other pending ones that have it where these do
covered_pending : (trail : List ℤ) (starts : List ℕ) (head : ℕ) (lists : List (List ℕ)) (old new : List ℕ) (index : ℕ) (clause : List ℤ) (pair : Option Watched) → (pair ≡ None → Contains old index → Contains new index ⊎ HoldsForGood trail starts clause) → IsCovered trail starts head lists old index clause pair → IsCovered trail starts head lists new index clause pair
covered_pending trail starts head lists old new index clause None keeps (inl w) = keeps refl w
covered_pending trail starts head lists old new index clause None keeps (inr w) = inr w
covered_pending trail starts head lists old new index clause (Some watched) keeps w = w

module _ (clauses : List (List ℤ)) (trail : List ℤ) (starts : List ℕ) (variables head : ℕ) (pairs : List (Option Watched)) (lists : List (List ℕ)) (pending : List ℕ) (place index : ℕ) (low : place < length pending) (here : slice_index pending place ≡ index) where
  -- a clause that is watched, or holds for good, goes from the pending ones
  pub watched_fewer : (slice_index_or pairs index None ≢ None) ⊎ HoldsForGood trail starts (slice_index_or clauses index []) → IsWatched clauses trail starts variables head pairs lists pending → IsWatched clauses trail starts variables head pairs lists (swap_remove pending place 0)
  watched_fewer fine w = record {
    head_within = w.head_within;
    starts_before = w.starts_before;
    known = w.known;
    tables = w.tables;
    each = λ k h. covered_pending trail starts head lists pending (swap_remove pending place 0) k (slice_index_or clauses k []) (slice_index_or pairs k None) (λ free has. elim (cases_eq k index) [
      | inl e ↦ elim fine [
        | inl some ↦ absurd (some (ap (λ i. slice_index_or pairs i None) (sym e) ∙ free))
        | inr good ↦ inr (subst (λ i. HoldsForGood trail starts (slice_index_or clauses i [])) (sym e) good)
      ]
      | inr ne ↦ inl (contains_swap pending place index k low here ne has)
    ]) (w.each k h);
  }

  same_before : (e : ℕ) → e < place → slice_index (swap_remove pending place 0) e ≡ slice_index pending e
  same_before e h = get_or-take (length pending - 1) (slice_set pending place (slice_index_or pending (length pending - 1) 0)) e 0 (omega (arith, low)) ∙ get_or-set_other pending place e (slice_index_or pending (length pending - 1) 0) 0 (λ f. absurd (omega (arith, f)))

  pub settled_fewer : (slice_index_or pairs index None ≢ None) ⊎ HoldsForGood trail starts (slice_index_or clauses index []) → AreSettled clauses trail starts variables head place pairs lists pending → AreSettled clauses trail starts variables head place pairs lists (swap_remove pending place 0)
  settled_fewer fine s = record {
    watched = watched_fewer fine s.watched;
    hold = λ e before within known.
        let same = same_before e before in
        let short = length-swap_remove pending place 0 low in
        subst (λ i. Holds trail (slice_index_or clauses i [])) (sym same) (s.hold e before (omega (arith, short)) (subst (λ i. i < length pairs) same known));
  }

  -- a clause that holds stays pending
  pub settled_more : (index < length pairs → Holds trail (slice_index_or clauses index [])) → AreSettled clauses trail starts variables head place pairs lists pending → AreSettled clauses trail starts variables head (place + 1) pairs lists pending
  settled_more holds s = record {
    watched = s.watched;
    hold = λ e before within known. elim (cases_lt e place) [
      | inl k ↦ s.hold e k within known
      | inr k ↦
          let same : e ≡ place = omega arith in
          let is : slice_index pending e ≡ index = ap (slice_index pending) same ∙ here in
          subst (λ i. Holds trail (slice_index_or clauses i [])) (sym is) (holds (subst (λ i. i < length pairs) is known))
    ];
  }

-- where all places are passed, all pending clauses hold
pub pending_hold : (clauses : List (List ℤ)) (trail : List ℤ) (starts : List ℕ) (variables head place : ℕ) (pairs : List (Option Watched)) (lists : List (List ℕ)) (pending : List ℕ) → length pending ≤ place → AreSettled clauses trail starts variables head place pairs lists pending → PendingHold clauses trail pairs pending
pending_hold clauses trail starts variables head place pairs lists pending past s k known (e, within, is) =
    let same : slice_index pending e ≡ k = get_or_default pending e 0 k within ∙ is in
    subst (λ i. Holds trail (slice_index_or clauses i [])) same (s.hold e (omega arith) within (subst (λ i. i < length pairs) (sym same) known))

-- a literal that is not false, by what stands at its place
pub next_true : (trail clause : List ℤ) (places : List ℕ) (start p : ℕ) → PlacesAreRight trail places → IsNext trail clause start p True → (p < length clause) × IsNotFalse trail (literal_at clause p)
next_true trail clause places start p right next = (next.stands.0, true_not_false trail places (literal_at clause p) right next.stands.1)

pub next_free : (trail clause : List ℤ) (start p : ℕ) → IsNext trail clause start p Free → (p < length clause) × IsNotFalse trail (literal_at clause p)
next_free trail clause start p next = (next.stands.0, free_literal_not_false trail (literal_at clause p) next.stands.1)

pub two_stand : (trail clause : List ℤ) (p q : ℕ) (a b : ℤ) → IsOrdered clause → a ≡ literal_at clause p → b ≡ literal_at clause q → p < q → (p < length clause) × IsNotFalse trail (literal_at clause p) → (q < length clause) × IsNotFalse trail (literal_at clause q) → IsStanding trail clause (Two a b)
two_stand trail clause p q a b ordered is_a is_b h first second =
    rw (is_a, is_b) (contains_at clause p first.0, contains_at clause q second.0, places_differ clause p q ordered h second.0, first.1, second.1)

pub forces_stand : (trail clause : List ℤ) (p q : ℕ) (a : ℤ) → a ≡ literal_at clause p → IsNext trail clause 0 p Free → IsNext trail clause (p + 1) q False → IsStanding trail clause (Forces a)
forces_stand trail clause p q a is first second = rw is (forces trail clause p q first second)

-- the table after one clause has come into one list
pub entered_is : (lists mid new : List (List ℕ)) (l : ℤ) (index c : ℕ) → mid ≡ lists → c ≡ code_of l → new ≡ slice_set mid c (slice_index_or mid c [] ++ index ∷ []) → new ≡ entered lists l index
entered_is lists mid new l index c is at enters =
    enters ∙ ap (λ k. slice_set mid k (slice_index_or mid k [] ++ index ∷ [])) at ∙ ap (λ m. entered m l index) is

-- a pushed literal makes its clause hold
pub holds-push : (trail clause : List ℤ) (l : ℤ) → Contains clause l → Holds (trail ++ l ∷ []) clause
holds-push trail clause l has = (length trail, simp length-append (omega arith), subst (Contains clause) (sym (literal_at-push_new trail l)) has)

pub holds_longer : (old new clause : List ℤ) → Extends old new → Holds old clause → Holds new clause
holds_longer old new clause (more, e) (q, low, has) =
    rw e (q, simp length-append (omega (arith, low)), subst (Contains clause) (sym (get_or_append_left old more (pos 0) q low)) has)

pub good_without_decisions : (trail clause : List ℤ) (starts : List ℕ) → length starts ≡ 0 → Holds trail clause → HoldsForGood trail starts clause
good_without_decisions trail clause starts none (q, low, has) = (q, low, has, λ j h. absurd (omega (arith, none, h)))

pub settled_longer : (clauses : List (List ℤ)) (trail trail' : List ℤ) (starts starts' : List ℕ) (variables variables' head head' place : ℕ) (pairs pairs' : List (Option Watched)) (lists lists' : List (List ℕ)) (pending pending' : List ℕ) → Extends trail trail' → pending' ≡ pending → length pairs' ≡ length pairs → IsWatched clauses trail' starts' variables' head' pairs' lists' pending' → AreSettled clauses trail starts variables head place pairs lists pending → AreSettled clauses trail' starts' variables' head' place pairs' lists' pending'
settled_longer clauses trail trail' starts starts' variables variables' head head' place pairs pairs' lists lists' pending pending' extends same long w s = record {
  watched = w;
  hold = λ e before within known.
      let at : slice_index pending' e ≡ slice_index pending e = ap (λ xs. slice_index xs e) same in
      subst (λ i. Holds trail' (slice_index_or clauses i [])) (sym at) (holds_longer trail trail' (slice_index_or clauses (slice_index pending e) []) extends (s.hold e before (subst (λ xs. e < length xs) same within) (let low = subst (λ i. i < length pairs') at known in omega (arith, low, long))));
}
