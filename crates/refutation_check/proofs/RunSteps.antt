-- Steps of a run: a literal is assumed to be false, decisions are taken back, a clause is added.
use Rattle.std.proofs.Common.{◌==◌, Bool, true, false, zero, suc, ◌≡◌, inl, inr, ℕ, ℤ, pos, ◌<◌, ◌+◌, List, [], ◌∷◌, ◌++◌, length, take, drop, slice_index, slice_index_or, None, refl, sym, ap, ◌∙◌, arith, subst, length-append, append_assoc}
use Rattle.std.specs.Prelude.{Contains}
use Rattle.std.specs.Bool.{OnTrue, OnFalse}
use Rattle.clause_db.specs.declared.clause.Clause.{Clause}
use Rattle.std.proofs.lemmas.Bool.{cases_lt}
use Rattle.std.proofs.Math.Seq.{get_or-append_seam}
use Rattle.std.proofs.lemmas.List.{get_or_append_left, get_or_default, map-append}
use Rattle.std.proofs.lemmas.List.Elements.{Contains-append_cases, Contains-append_left, Contains-append_right}
use Rattle.clause_db.specs.Literal.{variable_of, opposite, IsOrdered, AreInRange}
use Rattle.clause_db.specs.Propagation.{Propagates, PropagationRefutes, assumption}
use Rattle.clause_db.proofs.Ordered.{variable_of-opposite, not_opposite_self, contains_at, read_at_place}
use Rattle.clause_db.proofs.Places.{contains_numbered}
use Rattle.unit_propagation.specs.Places.{literal_at}
use Rattle.unit_propagation.specs.Quiet.{IsFalseClause, IsQuiet, HasReasons}
use Rattle.unit_propagation.specs.Status.{Extends}
use Rattle.unit_propagation.specs.declared.trail.Trail.{Trail}
use Rattle.unit_propagation.proofs.Consistent.{IsConsistent, cases_int}
use Rattle.unit_propagation.proofs.Complete.{propagation_stays, refutes_nothing}
use Rattle.std.proofs.lemmas.List.Elements.{All-push}
use Rattle.std.proofs.lemmas.Grind.{take_at_read}
use Rattle.clause_db.specs.declared.clause.LogLine.{LogLine}
use Rattle.clause_db.specs.Log.{results}
use Rattle.unit_propagation.specs.Watching.{entries}
use Rattle.unit_propagation.specs.declared.watches.Watches.{Watches}
use Rattle.unit_propagation.proofs.Reasons.{reasons_more_clauses}
use Rattle.unit_propagation.proofs.Watchings.{watched_add, watched_more}
use Rattle.refutation_check.proofs.Bounded.{AreBelow}
use Rattle.refutation_check.specs.Budget.{opposites_but, opposites_outside, IsNewAt}
use Rattle.refutation_check.specs.Distinct.{AreDistinct}
use Rattle.refutation_check.specs.Runs.{IsRootRun, AreDecidedFrom, IsAssumedFalse, StaysDecided, RefutesWith, IsOutside, AreFalseWithin, AreFalseOutside, AreFalseOutsideBoth}
use Rattle.refutation_check.proofs.Assumed.{contains_map, map_contains, other_place, at_other_place, trail_propagates, false_clause_refutes}

pub extended_contains : (old new : List ℤ) (l : ℤ) → Extends old new → Contains old l → Contains new l
extended_contains old new l (more, e) w = subst (λ t. Contains t l) (sym e) (Contains-append_left old more l w)

pub extended_at : (old new : List ℤ) (p : ℕ) → Extends old new → p < length old → literal_at new p ≡ literal_at old p
extended_at old new p (more, e) h = ap (λ t. literal_at t p) e ∙ get_or_append_left old more (pos 0) p h

-- decisions are as before where the trail is the same
pub stays_same : (l : ℤ) (trail : Trail) → StaysDecided l trail trail
stays_same l trail assumed is decided = decided

-- the decisions after one more
pub stays_decided : (l : ℤ) (old new : Trail) → ((k : ℕ) → k < length old.starts.items → slice_index old.starts.items k < length old.literals.items) → new.starts.items ≡ old.starts.items ++ length old.literals.items ∷ [] → Extends (old.literals.items ++ opposite l ∷ []) new.literals.items → StaysDecided l old new
stays_decided l old new started starts extends assumed is decided p h w =
    elim (Contains-append_cases old.starts.items (length old.literals.items ∷ []) p (subst (λ s. Contains s p) starts w)) [
      | inl v ↦
          let at : slice_index old.starts.items v.0 ≡ p = get_or_default old.starts.items v.0 0 p v.1 ∙ v.2 in
          let low : p < length old.literals.items = (let s = started v.0 v.1 in omega (arith, s, at)) in
          let same : literal_at new.literals.items p ≡ literal_at old.literals.items p = extended_at (old.literals.items ++ opposite l ∷ []) new.literals.items p extends (simp length-append (omega (arith, low))) ∙ get_or_append_left old.literals.items (opposite l ∷ []) (pos 0) p low in
          subst (Contains assumed) (sym same) (decided p low v)
      | inr v ↦
          let only : v.0 ≡ 0 = (let s = v.1 in omega (arith, s)) in
          let here : p ≡ length old.literals.items = sym (ap (λ i. slice_index_or (length old.literals.items ∷ []) i p) (sym only) ∙ v.2) in
          let same : literal_at new.literals.items p ≡ opposite l = ap (literal_at new.literals.items) here ∙ extended_at (old.literals.items ++ opposite l ∷ []) new.literals.items (length old.literals.items) extends (simp length-append (omega arith)) ∙ get_or-append_seam old.literals.items (opposite l) [] (pos 0) in
          subst (Contains assumed) (sym same) is.0
    ]

-- the new literal stands on the trail
pub decided_there : (old new : List ℤ) (l : ℤ) → Extends (old ++ l ∷ []) new → Contains new l
decided_there old new l extends = extended_contains (old ++ l ∷ []) new l extends (Contains-append_right old (l ∷ []) l (0, omega arith, refl))

pub extends_more : (old new : List ℤ) (l : ℤ) → Extends (old ++ l ∷ []) new → Extends old new
extends_more old new l (more, e) = (l ∷ more, e ∙ append_assoc old (l ∷ []) more)

-- decisions start below the end of the trail
pub started_open : (starts : List ℕ) (old new : List ℤ) (l : ℤ) (new_starts : List ℕ) → ((k : ℕ) → k < length starts → slice_index starts k < length old) → new_starts ≡ starts ++ length old ∷ [] → Extends (old ++ l ∷ []) new → (k : ℕ) → k < length new_starts → slice_index new_starts k < length new
started_open starts old new l new_starts started is (more, e) k h =
    let long : length old < length new = subst (λ t. length old < length t) (sym e) (simp length-append (omega arith)) in
    let within : k < length (starts ++ length old ∷ []) = subst (λ s. k < length s) is h in
    subst (λ s. slice_index s k < length new) (sym is) (elim (cases_lt k (length starts)) [
      | inl g ↦ let a = started k g in let b = get_or_append_left starts (length old ∷ []) 0 k g in omega (arith, a, b, long)
      | inr g ↦
          let at : k ≡ length starts = omega (arith, simp length-append at within) in
          let b = ap (slice_index (starts ++ length old ∷ [])) at ∙ get_or-append_seam starts (length old) [] 0 in
          omega (arith, b, long)
    ])

-- a false clause refutes
pub false_refutes : (clauses : List (List ℤ)) (trail : Trail) (assumed : List ℤ) → HasReasons clauses trail.literals.items trail.starts.items trail.reasons.items → AreDecidedFrom assumed trail → (clause : List ℤ) → Contains clauses clause → IsFalseClause trail.literals.items clause → PropagationRefutes clauses assumed
false_refutes clauses trail assumed has decided clause in_clauses all_false =
    false_clause_refutes clauses assumed trail.literals.items trail.starts.items trail.reasons.items has (λ p h w. assumption (decided p h w)) clause in_clauses all_false

-- a literal that is assumed to be false, but is true
pub true_refutes : (clauses : List (List ℤ)) (trail : Trail) (l : ℤ) → HasReasons clauses trail.literals.items trail.starts.items trail.reasons.items → Contains trail.literals.items l → RefutesWith clauses l trail
true_refutes clauses trail l has w assumed is decided =
    let at : literal_at trail.literals.items w.0 ≡ l = read_at_place trail.literals.items l w in
    let propagates : (m : ℤ) → Contains trail.literals.items m → Propagates clauses assumed m = trail_propagates clauses assumed trail.literals.items trail.starts.items trail.reasons.items has (λ p h v. assumption (decided p h v)) in
    elim (has w.0 w.1) [
      | inl v ↦ absurd (is.1 (subst (Contains assumed) at (decided w.0 w.1 v)))
      | inr v ↦ (
        v.0,
        contains_numbered clauses _ v.0 v.1,
        λ m in_clause. elim (cases_int m l) [
          | inl e ↦ assumption (subst (λ x. Contains assumed (opposite x)) (sym e) is.0)
          | inr ne ↦
              let f = v.2.others_false m in_clause (λ e. ne (e ∙ at)) in
              propagates (opposite m) (subst (Contains trail.literals.items) f.3 (contains_at trail.literals.items f.0 f.2))
        ],
      )
    ]

-- a literal at a place that is not left out is assumed to be false
pub other_assumed : (literals : List ℤ) → AreDistinct literals → AreInRange literals → (from to place : ℕ) → place < length literals → IsOutside from to place → IsAssumedFalse (opposites_outside literals from to) (literal_at literals place)
other_assumed literals distinct in_range from to place low outside = (
  map_contains opposite (take from literals ++ drop to literals) (literal_at literals place) (at_other_place literals from to place low outside),
  λ w.
      let m = contains_map opposite (take from literals ++ drop to literals) (literal_at literals place) w in
      let j = other_place literals from to m.0 m.1 in
      let is : literal_at literals place ≡ opposite (literal_at literals j.0) = m.2 ∙ ap opposite (sym j.3) in
      let same : place ≡ j.0 = distinct place j.0 low j.1 (ap variable_of is ∙ variable_of-opposite (literal_at literals j.0)) in
      not_opposite_self (literal_at literals place) (in_range place (pos 0) low).0 (is ∙ ap (λ k. opposite (literal_at literals k)) (sym same)),
)

-- one place more is passed
pub within_more : (clause : List ℤ) (from place : ℕ) (old new : List ℤ) → Extends old new → Contains new (opposite (literal_at clause place)) → AreFalseWithin clause from place old → AreFalseWithin clause from (place + 1) new
within_more clause from place old new extends here within k above h = elim (cases_lt k place) [
  | inl low ↦ extended_contains old new (opposite (literal_at clause k)) extends (within k above low)
  | inr high ↦
      let e : place ≡ k = omega (arith, h, high) in
      subst (λ n. Contains new (opposite (literal_at clause n))) e here
]

-- all literals are false but those left out, once those of the other part are
pub others_of_both : (clause : List ℤ) (from to a b : ℕ) (old new : List ℤ) → Extends old new → AreFalseWithin clause from to new → AreFalseOutsideBoth clause from to a b old → AreFalseOutside clause a b new
others_of_both clause from to a b old new extends within both k h outside = elim (cases_lt k from) [
  | inl low ↦ extended_contains old new (opposite (literal_at clause k)) extends (both k h (λ above below. omega (arith, low, above)) outside)
  | inr high ↦ elim (cases_lt k to) [
    | inl low ↦ within k (omega (arith, high)) low
    | inr over ↦ extended_contains old new (opposite (literal_at clause k)) extends (both k h (λ above below. omega (arith, over, below)) outside)
  ]
]

-- what is outside two halves is outside the whole
pub outside_both : (clause : List ℤ) (from middle to : ℕ) (trail : List ℤ) → AreFalseOutside clause from to trail → AreFalseOutsideBoth clause from middle middle to trail
outside_both clause from middle to trail others k h first second = others k h (λ above below. elim (cases_lt k middle) [
  | inl low ↦ first above low
  | inr high ↦ second (omega (arith, high)) below
])

-- where the run is quiet, the place is new
pub new_in_quiet : (clauses : List (List ℤ)) (clause : List ℤ) (place : ℕ) (trail : List ℤ) → AreFalseOutside clause place (place + 1) trail → IsConsistent trail → IsQuiet trail clauses → (Contains trail (literal_at clause place) → ⊥) → IsNewAt clauses clause place
new_in_quiet clauses clause place trail others consistent quiet not_true = (
  refutes_nothing clauses trail (opposites_but clause place) consistent quiet on_trail,
  λ reached. not_true (propagation_stays clauses trail (opposites_but clause place) consistent quiet on_trail reached),
) where
  on_trail : (l : ℤ) → Contains (opposites_but clause place) l → Contains trail l
  on_trail l w =
      let m = contains_map opposite (take place clause ++ drop (place + 1) clause) l w in
      let j = other_place clause place (place + 1) m.0 m.1 in
      subst (Contains trail) (ap opposite j.3 ∙ sym m.2) (others j.0 j.1 j.2)

-- where the literal at the place is true, it is not new
pub true_not_new : (clauses : List (List ℤ)) (clause : List ℤ) (place : ℕ) (trail : Trail) → HasReasons clauses trail.literals.items trail.starts.items trail.reasons.items → AreDecidedFrom (opposites_but clause place) trail → Contains trail.literals.items (literal_at clause place) → IsNewAt clauses clause place → ⊥
true_not_new clauses clause place trail has decided is_true new =
    new.1 (trail_propagates clauses (opposites_but clause place) trail.literals.items trail.starts.items trail.reasons.items has (λ p h v. assumption (decided p h v)) (literal_at clause place) is_true)

-- without a decision, what is decided is among any literals
pub none_decided : (assumed : List ℤ) (trail : Trail) → trail.starts.items ≡ [] → AreDecidedFrom assumed trail
none_decided assumed trail none p h w = absurd (let v = subst (λ s. Contains s p) none w in omega (arith, v.1))

pub above_zero : (n : ℕ) → false ≡ (n == 0) → 0 < n
above_zero zero e = absurd cc
above_zero (suc n) e = omega arith

pub on_true : {P : Type 0} (b : Bool) → P → OnTrue b P
on_true true p = p
on_true false p = tt

pub map_true : {P Q : Type 0} (b : Bool) → (P → Q) → OnTrue b P → OnTrue b Q
map_true true f p = f p
map_true false f p = tt

pub map_false : {P Q : Type 0} (b : Bool) → (P → Q) → OnFalse b P → OnFalse b Q
map_false true f p = tt
map_false false f p = f p

pub from_true : {P : Type 0} (b : Bool) → OnTrue b P → b ≡ true → P
from_true true p e = p
from_true false p e = absurd cc

pub from_false : {P : Type 0} (b : Bool) → OnFalse b P → b ≡ false → P
from_false true p e = absurd cc
from_false false p e = p

-- one clause more is known
pub run_add : (clauses : List (List ℤ)) (clause : Clause) (trail : Trail) (old new : Watches) → AreBelow (length trail.places.items) clause.literals.items → new.pairs.items ≡ old.pairs.items ++ None ∷ [] → new.pending.items ≡ old.pending.items ++ length old.pairs.items ∷ [] → new.lists ≡ old.lists → new.head ≡ old.head → IsRootRun clauses trail old → IsRootRun (clauses ++ clause.literals.items ∷ []) trail new
run_add clauses clause trail old new below pairs pending lists head root = record {
  run = record {
    fits = All-push (λ c. IsOrdered c × AreBelow (length trail.places.items) c) clauses clause.literals.items root.run.fits (clause.ordered, below);
    has_reasons = reasons_more_clauses clauses (clause.literals.items ∷ []) trail.literals.items trail.starts.items trail.reasons.items root.run.has_reasons;
    watched = rw (pairs, pending, lists, head) (watched_add (clauses ++ clause.literals.items ∷ []) trail.literals.items trail.starts.items (length trail.places.items) old.head old.pairs.items (entries old.lists.items) old.pending.items low (watched_more clauses (clause.literals.items ∷ []) trail.literals.items trail.starts.items (length trail.places.items) old.head old.pairs.items (entries old.lists.items) old.pending.items root.run.watched));
    known = rw pairs (simp length-append (omega (arith, root.run.known)));
  };
  no_decision = root.no_decision;
} where
  low : length old.pairs.items < length (clauses ++ clause.literals.items ∷ [])
  low = let k = root.run.known in simp length-append (omega (arith, k))

-- the results of one line more
pub results_next : (clauses : List (List ℤ)) (lines : List LogLine) (k : ℕ) (line : LogLine) → k < length lines → line ≡ slice_index_or lines k line → (clauses ++ results (take k lines)) ++ line.result.literals.items ∷ [] ≡ clauses ++ results (take (k + 1) lines)
results_next clauses lines k line low is =
    append_assoc clauses (results (take k lines)) (line.result.literals.items ∷ []) ∙ ap (λ cs. clauses ++ cs) (sym (map-append (λ (x : LogLine). x.result.literals.items) (take k lines) (line ∷ []))) ∙ ap (λ (ls : List LogLine). clauses ++ results ls) (ap (λ (x : LogLine). take k lines ++ x ∷ []) is ∙ sym (take_at_read lines k line low).1)
