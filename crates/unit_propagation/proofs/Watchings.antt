-- Watches stay right as clauses are added, and as the trail is cut and goes on.
use Rattle.std.proofs.Common.{◌≡◌, inl, inr, ℕ, ℤ, pos, ◌<◌, ◌≤◌, ◌*◌, List, [], ◌∷◌, ◌++◌, length, slice_index, slice_index_or, take, min, sym, ap, ◌∙◌, arith, subst, length-append, Option, Some, None}
use Rattle.std.specs.Prelude.{Contains}
use Rattle.std.proofs.Math.Seq.{get_or-append_seam}
use Rattle.std.proofs.lemmas.Bool.{cases_lt}
use Rattle.std.proofs.lemmas.List.{get_or-take, length-take-le, get_or_append_left}
use Rattle.unit_propagation.specs.Places.{literal_at, StartsAreRight}
use Rattle.unit_propagation.specs.Watching.{HoldsBy, HoldsForGood, IsGuarded, IsCovered, IsWatched}
use Rattle.unit_propagation.specs.declared.watches.Watched.{Watched}
use Rattle.unit_propagation.proofs.Tables.{contains_push_old, contains_push_new}

-- no clause is watched
pub watched_none : (clauses : List (List ℤ)) (variables : ℕ) (lists : List (List ℕ)) → length lists ≡ 2 * variables → IsWatched clauses [] [] variables 0 [] lists []
watched_none clauses variables lists tables = record {
  head_within = omega arith;
  starts_before = λ j h. absurd (omega arith);
  known = omega arith;
  tables = tables;
  each = λ k h. absurd (omega arith);
}

covered_pending_more : (trail : List ℤ) (starts : List ℕ) (head : ℕ) (lists : List (List ℕ)) (pending : List ℕ) (added index : ℕ) (clause : List ℤ) (pair : Option Watched) → IsCovered trail starts head lists pending index clause pair → IsCovered trail starts head lists (pending ++ added ∷ []) index clause pair
covered_pending_more trail starts head lists pending added index clause None (inl w) = inl (contains_push_old pending added index w)
covered_pending_more trail starts head lists pending added index clause None (inr w) = inr w
covered_pending_more trail starts head lists pending added index clause (Some watched) w = w

-- one clause more is pending
pub watched_add : (clauses : List (List ℤ)) (trail : List ℤ) (starts : List ℕ) (variables head : ℕ) (pairs : List (Option Watched)) (lists : List (List ℕ)) (pending : List ℕ) → length pairs < length clauses → IsWatched clauses trail starts variables head pairs lists pending → IsWatched clauses trail starts variables head (pairs ++ None ∷ []) lists (pending ++ length pairs ∷ [])
watched_add clauses trail starts variables head pairs lists pending low w = record {
  head_within = w.head_within;
  starts_before = w.starts_before;
  known = simp length-append (omega (arith, low));
  tables = w.tables;
  each = λ k h. elim (cases_lt k (length pairs)) [
    | inl g ↦ subst (IsCovered trail starts head lists (pending ++ length pairs ∷ []) k (slice_index_or clauses k [])) (sym (get_or_append_left pairs (None ∷ []) None k g)) (covered_pending_more trail starts head lists pending (length pairs) k (slice_index_or clauses k []) (slice_index_or pairs k None) (w.each k g))
    | inr g ↦
        let e : k ≡ length pairs = omega (arith, simp length-append at h) in
        let here : slice_index_or (pairs ++ None ∷ []) k None ≡ None = ap (λ i. slice_index_or (pairs ++ None ∷ []) i None) e ∙ get_or-append_seam pairs None [] None in
        subst (IsCovered trail starts head lists (pending ++ length pairs ∷ []) k (slice_index_or clauses k [])) (sym here) (inl (subst (Contains (pending ++ length pairs ∷ [])) (sym e) (contains_push_new pending (length pairs))))
  ];
}

-- more clauses are there, that aren't watched yet
pub watched_more : (clauses more : List (List ℤ)) (trail : List ℤ) (starts : List ℕ) (variables head : ℕ) (pairs : List (Option Watched)) (lists : List (List ℕ)) (pending : List ℕ) → IsWatched clauses trail starts variables head pairs lists pending → IsWatched (clauses ++ more) trail starts variables head pairs lists pending
watched_more clauses more trail starts variables head pairs lists pending w = record {
  head_within = w.head_within;
  starts_before = w.starts_before;
  known = let low = w.known in simp length-append (omega (arith, low));
  tables = w.tables;
  each = λ k h. let low = w.known in subst (λ c. IsCovered trail starts head lists pending k c (slice_index_or pairs k None)) (sym (get_or_append_left clauses more [] k (omega (arith, low)))) (w.each k h);
}

-- a decision is opened where all is handled
module _ (trail : List ℤ) (starts : List ℕ) where
  holds_by_open : (p : ℕ) (clause : List ℤ) → HoldsBy trail starts p clause → HoldsBy trail (starts ++ length trail ∷ []) p clause
  holds_by_open p clause (q, low, has, level) = (
    q,
    low,
    has,
    λ j h behind. elim (cases_lt j (length starts)) [
      | inl k ↦ subst (λ s. q < s) (sym (get_or_append_left starts (length trail ∷ []) 0 j k)) (level j k (subst (λ s. p < s) (get_or_append_left starts (length trail ∷ []) 0 j k) behind))
      | inr k ↦ let e : j ≡ length starts = omega (arith, simp length-append at h) in
          subst (λ s. q < s) (sym (ap (slice_index (starts ++ length trail ∷ [])) e ∙ get_or-append_seam starts (length trail) [] 0)) low
    ],
  )

  good_open : (clause : List ℤ) → HoldsForGood trail starts clause → HoldsForGood trail (starts ++ length trail ∷ []) clause
  good_open clause (q, low, has, level) = (
    q,
    low,
    has,
    λ j h. elim (cases_lt j (length starts)) [
      | inl k ↦ subst (λ s. q < s) (sym (get_or_append_left starts (length trail ∷ []) 0 j k)) (level j k)
      | inr k ↦ let e : j ≡ length starts = omega (arith, simp length-append at h) in
          subst (λ s. q < s) (sym (ap (slice_index (starts ++ length trail ∷ [])) e ∙ get_or-append_seam starts (length trail) [] 0)) low
    ],
  )

  covered_open : (head : ℕ) (lists : List (List ℕ)) (pending : List ℕ) (index : ℕ) (clause : List ℤ) (pair : Option Watched) → IsCovered trail starts head lists pending index clause pair → IsCovered trail (starts ++ length trail ∷ []) head lists pending index clause pair
  covered_open head lists pending index clause None (inl w) = inl w
  covered_open head lists pending index clause None (inr w) = inr (good_open clause w)
  covered_open head lists pending index clause (Some watched) w = record {
    has_first = w.has_first;
    has_second = w.has_second;
    differ = w.differ;
    in_first = w.in_first;
    in_second = w.in_second;
    first_guarded = λ p h e. holds_by_open p clause (w.first_guarded p h e);
    second_guarded = λ p h e. holds_by_open p clause (w.second_guarded p h e);
  }

  pub watched_open : (clauses : List (List ℤ)) (variables head : ℕ) (pairs : List (Option Watched)) (lists : List (List ℕ)) (pending : List ℕ) → head ≡ length trail → IsWatched clauses trail starts variables head pairs lists pending → IsWatched clauses trail (starts ++ length trail ∷ []) variables head pairs lists pending
  watched_open clauses variables head pairs lists pending all w = record {
    head_within = w.head_within;
    starts_before = λ j h. elim (cases_lt j (length starts)) [
      | inl k ↦ subst (λ s. s ≤ head) (sym (get_or_append_left starts (length trail ∷ []) 0 j k)) (w.starts_before j k)
      | inr k ↦ let e : j ≡ length starts = omega (arith, simp length-append at h) in
          let here : slice_index (starts ++ length trail ∷ []) j ≡ length trail = ap (slice_index (starts ++ length trail ∷ [])) e ∙ get_or-append_seam starts (length trail) [] 0 in
          omega (arith, here, all)
    ];
    known = w.known;
    tables = w.tables;
    each = λ k h. covered_open head lists pending k (slice_index_or clauses k []) (slice_index_or pairs k None) (w.each k h);
  }

-- the trail is cut before a decision
module _ (trail : List ℤ) (starts : List ℕ) (right : StartsAreRight starts (length trail)) (level : ℕ) (low : level < length starts) where
  start_within : slice_index starts level ≤ length trail
  start_within = right.within level low

  pub cut_length : length (take (slice_index starts level) trail) ≡ slice_index starts level
  cut_length = length-take-le (slice_index starts level) trail (right.within level low)

  starts_length : length (take level starts) ≡ level
  starts_length = length-take-le level starts (omega arith)

  at_old : (q : ℕ) → q < slice_index starts level → literal_at (take (slice_index starts level) trail) q ≡ literal_at trail q
  at_old q h = get_or-take (slice_index starts level) trail q (pos 0) h

  start_old : (j : ℕ) → j < level → slice_index (take level starts) j ≡ slice_index starts j
  start_old j h = get_or-take level starts j 0 h

  holds_by_cut : (p : ℕ) (clause : List ℤ) → p < slice_index starts level → HoldsBy trail starts p clause → HoldsBy (take (slice_index starts level) trail) (take level starts) p clause
  holds_by_cut p clause before (q, within, has, above) =
      let kept : q < slice_index starts level = above level low before in (
        q,
        omega (arith, cut_length, kept),
        subst (Contains clause) (sym (at_old q kept)) has,
        λ j h behind.
            let j_low : j < level = omega (arith, h, starts_length) in
            subst (λ s. q < s) (sym (start_old j j_low)) (above j (omega (arith, low)) (subst (λ s. p < s) (start_old j j_low) behind)),
      )

  good_cut : (clause : List ℤ) → HoldsForGood trail starts clause → HoldsForGood (take (slice_index starts level) trail) (take level starts) clause
  good_cut clause (q, within, has, above) =
      let kept : q < slice_index starts level = above level low in (
        q,
        omega (arith, cut_length, kept),
        subst (Contains clause) (sym (at_old q kept)) has,
        λ j h.
            let j_low : j < level = omega (arith, h, starts_length) in
            subst (λ s. q < s) (sym (start_old j j_low)) (above j (omega (arith, low))),
      )

  guarded_cut : (head : ℕ) (clause : List ℤ) (l : ℤ) → slice_index starts level ≤ head → IsGuarded trail starts head clause l → IsGuarded (take (slice_index starts level) trail) (take level starts) (slice_index starts level) clause l
  guarded_cut head clause l late guarded p h e = holds_by_cut p clause h (guarded p (omega arith) (sym (at_old p h) ∙ e))

  covered_cut : (head : ℕ) (lists : List (List ℕ)) (pending : List ℕ) (index : ℕ) (clause : List ℤ) (pair : Option Watched) → slice_index starts level ≤ head → IsCovered trail starts head lists pending index clause pair → IsCovered (take (slice_index starts level) trail) (take level starts) (slice_index starts level) lists pending index clause pair
  covered_cut head lists pending index clause None late (inl w) = inl w
  covered_cut head lists pending index clause None late (inr w) = inr (good_cut clause w)
  covered_cut head lists pending index clause (Some watched) late w = record {
    has_first = w.has_first;
    has_second = w.has_second;
    differ = w.differ;
    in_first = w.in_first;
    in_second = w.in_second;
    first_guarded = guarded_cut head clause watched.first late w.first_guarded;
    second_guarded = guarded_cut head clause watched.second late w.second_guarded;
  }

  cut_head : (head : ℕ) → slice_index starts level ≤ head → min head (length (take (slice_index starts level) trail)) ≡ slice_index starts level
  cut_head head late = omega (arith, cut_length)

  pub watched_cut : (clauses : List (List ℤ)) (variables head : ℕ) (pairs : List (Option Watched)) (lists : List (List ℕ)) (pending : List ℕ) → IsWatched clauses trail starts variables head pairs lists pending → IsWatched clauses (take (slice_index starts level) trail) (take level starts) variables (min head (length (take (slice_index starts level) trail))) pairs lists pending
  watched_cut clauses variables head pairs lists pending w = subst (λ n. IsWatched clauses (take (slice_index starts level) trail) (take level starts) variables n pairs lists pending) (sym (cut_head head (w.starts_before level low))) (record {
    head_within = omega (arith, cut_length);
    starts_before = λ j h.
        let j_low : j < level = omega (arith, h, starts_length) in
        let below = right.increasing j level j_low low in
        let same = start_old j j_low in
        omega (arith, below, same);
    known = w.known;
    tables = w.tables;
    each = λ k h. covered_cut head lists pending k (slice_index_or clauses k []) (slice_index_or pairs k None) (w.starts_before level low) (w.each k h);
  })
