-- Reasons stay reasons, as the trail grows and is cut.
use Rattle.std.proofs.Common.{◌≡◌, ◌≢◌, ◌⊎◌, inl, inr, ℕ, ℤ, pos, ◌<◌, ◌≤◌, List, [], ◌∷◌, ◌++◌, length, slice_index, set, take, get_or-take, length-take, refl, sym, ap, ◌∙◌, arith, subst, length-append}
use Rattle.std.specs.Prelude.{Contains}
use Rattle.std.proofs.lemmas.Bool.{cases_lt, cases_eq}
use Rattle.std.proofs.lemmas.List.{get_or-set_other, get_or-set_same, get_or_default}
use Rattle.std.proofs.lemmas.List.Elements.{Contains-append_left, Contains-append_right}
use Rattle.clause_db.specs.Literal.{variable_of, opposite}
use Rattle.clause_db.specs.Numbered.{IsNumbered}
use Rattle.clause_db.proofs.Ordered.{read_at_place}
use Rattle.clause_db.proofs.Places.{IsNumbered-append}
use Rattle.unit_propagation.specs.Places.{literal_at, StartsAreRight}
use Rattle.unit_propagation.specs.Truth.{IsFree}
use Rattle.unit_propagation.specs.Quiet.{IsFalseBefore, IsReason, HasReasons}
use Rattle.unit_propagation.proofs.Trails.{literal_at-push_old, literal_at-push_new}

pub false_before_from_contains : (trail : List ℤ) (m : ℤ) → Contains trail (opposite m) → IsFalseBefore trail (length trail) m
false_before_from_contains trail m w = (w.0, w.1, w.1, read_at_place trail (opposite m) w)

pub false_before-push : (trail : List ℤ) (l : ℤ) (place : ℕ) (m : ℤ) → IsFalseBefore trail place m → IsFalseBefore (trail ++ l ∷ []) place m
false_before-push trail l place m (p, before, within, is) = (p, before, simp length-append (omega arith), literal_at-push_old trail l p within ∙ is)

pub reason-push : (trail : List ℤ) (l : ℤ) (place : ℕ) (clause : List ℤ) → place < length trail → IsReason trail place clause → IsReason (trail ++ l ∷ []) place clause
reason-push trail l place clause h reason =
    let same = literal_at-push_old trail l place h in
    record {
      has = subst (Contains clause) (sym same) reason.has;
      others_false = λ m w ne. false_before-push trail l place m (reason.others_false m w (λ e. ne (e ∙ sym same)));
    }

module _ (clauses : List (List ℤ)) (trail : List ℤ) (starts reasons : List ℕ) (has : HasReasons clauses trail starts reasons) (l : ℤ) (free : IsFree trail l) (number : ℕ) where
  old_reason : (p : ℕ) → p < length trail → Contains starts p ⊎ ((clause : List ℤ) × IsNumbered clauses (slice_index (set reasons (variable_of l) number) (variable_of (literal_at (trail ++ l ∷ []) p))) clause × IsReason (trail ++ l ∷ []) p clause)
  old_reason p h =
      let same = literal_at-push_old trail l p h in
      elim (has p h) [
        | inl w ↦ inl w
        | inr w ↦ inr (w.0, subst (λ n. IsNumbered clauses n w.0) (sym (get_or-set_other reasons (variable_of l) (variable_of (literal_at trail p)) number 0 (free p h)) ∙ ap (λ k. slice_index (set reasons (variable_of l) number) (variable_of k)) (sym same)) w.1, reason-push trail l p w.0 h w.2)
      ]

  -- a literal that a clause forces
  pub reasons_forced : (clause : List ℤ) → IsNumbered clauses number clause → Contains clause l → ((m : ℤ) → Contains clause m → m ≢ l → Contains trail (opposite m)) → variable_of l < length reasons → HasReasons clauses (trail ++ l ∷ []) starts (set reasons (variable_of l) number)
  reasons_forced clause numbered in_clause others fits p h =
      elim (cases_lt p (length trail)) [
        | inl k ↦ old_reason p k
        | inr k ↦
            let e : p ≡ length trail = omega (arith, simp length-append at h) in
            let at_end : literal_at (trail ++ l ∷ []) (length trail) ≡ l = literal_at-push_new trail l in
            rw e (inr (
              clause,
              rw (at_end, get_or-set_same reasons (variable_of l) number 0 fits) numbered,
              record {
                has = rw at_end in_clause;
                others_false = λ m w ne. false_before-push trail l (length trail) m (false_before_from_contains trail m (others m w (λ f. ne (f ∙ sym at_end))));
              },
            ))
      ]

  -- a decision
  pub reasons_decided : Contains starts (length trail) → HasReasons clauses (trail ++ l ∷ []) starts (set reasons (variable_of l) number)
  reasons_decided decided p h =
      elim (cases_lt p (length trail)) [
        | inl k ↦ old_reason p k
        | inr k ↦
            let e : p ≡ length trail = omega (arith, simp length-append at h) in
            rw e (inl decided)
      ]

-- more clauses
pub reasons_more_clauses : (clauses more : List (List ℤ)) (trail : List ℤ) (starts reasons : List ℕ) → HasReasons clauses trail starts reasons → HasReasons (clauses ++ more) trail starts reasons
reasons_more_clauses clauses more trail starts reasons has p h =
    elim (has p h) [ inl w ↦ inl w | inr w ↦ inr (w.0, IsNumbered-append clauses more _ w.0 w.1, w.2) ]

pub starts_mono : (trail : List ℤ) (starts : List ℕ) → StartsAreRight starts (length trail) → (j k : ℕ) → j ≤ k → k < length starts → slice_index starts j ≤ slice_index starts k
starts_mono trail starts right j k h within = elim (cases_eq j k) [
  | inl e ↦ let f = ap (slice_index starts) e in omega (arith, f)
  | inr ne ↦ let f = right.increasing j k (omega (arith, ne)) within in omega (arith, f)
]

module _ (trail : List ℤ) (starts : List ℕ) (starts_right : StartsAreRight starts (length trail)) (level : ℕ) (in_starts : level < length starts) where
  -- reasons stay, where decisions are taken back
  pub reasons_taken_back : (clauses : List (List ℤ)) (reasons : List ℕ) → HasReasons clauses trail starts reasons → HasReasons clauses (take (slice_index starts level) trail) (take level starts) reasons
  reasons_taken_back clauses reasons has p h =
      let s : ℕ = slice_index starts level in
      let low : p < s = let g = length-take s trail in omega (arith, g, h) in
      let within : p < length trail = let g = length-take s trail in omega (arith, g, h) in
      let same : literal_at (take s trail) p ≡ literal_at trail p = get_or-take s trail p (pos 0) low in
      elim (has p within) [
        | inl w ↦
            let at : slice_index starts w.0 ≡ p = get_or_default starts w.0 0 p w.1 ∙ w.2 in
            let before : w.0 < level = elim (cases_lt w.0 level) [ inl g ↦ g | inr g ↦ absurd (let m = starts_mono trail starts starts_right level w.0 g w.1 in omega (arith, m, at, low)) ] in
            inl (w.0, (let g = length-take level starts in omega (arith, g, before, w.1)), get_or-take level starts w.0 p before ∙ w.2)
        | inr w ↦ inr (
          w.0,
          subst (λ l. IsNumbered clauses (slice_index reasons (variable_of l)) w.0) (sym same) w.1,
          record {
            has = subst (Contains w.0) (sym same) w.2.has;
            others_false = λ m v ne.
                let f = w.2.others_false m v (λ e. ne (e ∙ sym same)) in
                (f.0, f.1, (let g = length-take s trail in omega (arith, g, f.1, f.2, low)), get_or-take s trail f.0 (pos 0) (omega (arith, f.1, low)) ∙ f.3);
          },
        )
      ]

-- a decision after the others
pub reasons_open : (clauses : List (List ℤ)) (trail : List ℤ) (starts reasons : List ℕ) (l : ℤ) → HasReasons clauses trail starts reasons → IsFree trail l → HasReasons clauses (trail ++ l ∷ []) (starts ++ length trail ∷ []) (set reasons (variable_of l) 0)
reasons_open clauses trail starts reasons l has free =
    reasons_decided clauses trail (starts ++ length trail ∷ []) reasons more l free 0 (Contains-append_right starts (length trail ∷ []) (length trail) (0, omega arith, refl))
  where
    more : HasReasons clauses trail (starts ++ length trail ∷ []) reasons
    more p h = elim (has p h) [ inl w ↦ inl (Contains-append_left starts (length trail ∷ []) p w) | inr r ↦ inr r ]
