-- The trail after a learnt clause: the decisions behind its latest literal but one are taken back, and its
-- latest literal is true.
use Rattle.std.proofs.Common.{◌≡◌, ◌≢◌, inl, inr, ℕ, ℤ, pos, ◌<◌, ◌≤◌, ◌+◌, ◌-◌, List, [], ◌∷◌, ◌++◌, length, take, set, slice_index, slice_index_or, get_or-take, length-take, length-append, sym, ap, ◌∙◌, arith, subst}
use Rattle.std.specs.Prelude.{Contains}
use Rattle.std.proofs.lemmas.Bool.{cases_lt}
use Rattle.std.proofs.lemmas.List.{take-append-le, length-take-le, take-take}
use Rattle.std.proofs.lemmas.List.Elements.{All-push}
use Rattle.clause_db.specs.Literal.{variable_of, opposite, IsOrdered}
use Rattle.clause_db.proofs.Ordered.{variable_of-opposite, opposite-opposite, contains_at, read_at_place, same_place}
use Rattle.clause_db.proofs.Places.{IsNumbered-last}
use Rattle.unit_propagation.specs.Places.{literal_at, PlacesAreRight, StartsAreRight}
use Rattle.unit_propagation.specs.Truth.{IsFree}
use Rattle.unit_propagation.specs.Quiet.{IsFalseClause, IsQuiet, IsQuietClause}
use Rattle.unit_propagation.proofs.Reasons.{reasons_forced, reasons_more_clauses, starts_mono, reasons_taken_back}
use Rattle.sat_search.specs.Latest.{IsLatest, place_in}
use Rattle.sat_search.specs.Learning.{IsSearching, IsLevelAfter, last_start}
use Rattle.sat_search.proofs.Chain.{take_contains}
use Rattle.sat_search.proofs.Levels.{place_above, has_last_literal, last_within}

module _ (trail : List ℤ) (places : List ℕ) (right : PlacesAreRight trail places) (starts : List ℕ) (starts_right : StartsAreRight starts (length trail)) where
  -- a variable that is placed behind a prefix is free there
  pub free_behind : (n : ℕ) (l : ℤ) → n < slice_index places (variable_of l) → IsFree (take n trail) l
  free_behind n l behind p h e =
      let low : p < n = let g = length-take n trail in omega (arith, g, h) in
      let within : p < length trail = let g = length-take n trail in omega (arith, g, h) in
      let same : variable_of (literal_at trail p) ≡ variable_of l = ap variable_of (sym (get_or-take n trail p (pos 0) low)) ∙ e in
      let place = (right.of_literal p within).2 in
      let there = ap (slice_index places) same in
      omega (arith, place, there, behind, low)

module _ (trail : List ℤ) (places : List ℕ) (right : PlacesAreRight trail places) (starts : List ℕ) (starts_right : StartsAreRight starts (length trail)) (clauses : List (List ℤ)) (reasons : List ℕ) (searching : IsSearching clauses trail starts reasons) (learnt : List ℤ) (ordered : IsOrdered learnt) (all_false : IsFalseClause trail learnt) (last second : ℕ) (latest : IsLatest places learnt (length learnt) last second) (decided : 0 < length starts) (after : last_start starts < last) (before : second ≤ last_start starts) (level : ℕ) (level_right : IsLevelAfter starts second level) where
  -- the level lies below the last decision
  pub level_below : level < length starts
  level_below = elim (cases_lt level (length starts)) [
    | inl h ↦ h
    | inr h ↦ absurd (let b = level_right.before (length starts - 1) (omega (arith, h, decided)) in omega (arith, b, before))
  ]

  -- the literal that became false last
  asserted : ℤ
  asserted = opposite (literal_at trail (last - 1))

  start : ℕ
  start = slice_index starts level

  start_low : slice_index starts level ≤ last_start starts
  start_low = starts_mono trail starts starts_right level (length starts - 1) (omega (arith, level_below)) (omega (arith, decided))

  second_low : second ≤ slice_index starts level
  second_low = level_right.behind level_below

  -- every other literal is false in what is left
  others_false : (m : ℤ) → Contains learnt m → m ≢ opposite (literal_at trail (last - 1)) → Contains (take (slice_index starts level) trail) (opposite m)
  others_false m w ne =
      let q = place_above trail places right learnt all_false w.0 w.1 in
      let is : slice_index_or learnt w.0 (pos 0) ≡ m = read_at_place learnt m w in
      let low : place_in places learnt w.0 ≤ second = elim (cases_lt second (place_in places learnt w.0)) [
        | inr g ↦ g
        | inl g ↦ absurd (
            let top = latest.has_last (omega (arith, after)) in
            let same : w.0 ≡ top.0 = latest.one_later w.0 top.0 w.1 top.1 g (omega (arith, top.2, after, before)) in
            let f = ap (place_in places learnt) same in
            let at_last : q.0 ≡ last - 1 = omega (arith, q.3, f, top.2) in
            ne (sym is ∙ sym (opposite-opposite _) ∙ ap opposite (sym q.2 ∙ ap (literal_at trail) at_last)))
      ] in
      take_contains (slice_index starts level) trail q.0 (opposite m) (omega (arith, q.3, low, second_low)) q.1 (q.2 ∙ ap opposite is)

  top_place : slice_index places (variable_of (opposite (literal_at trail (last - 1)))) ≡ last
  top_place = ap (slice_index places) (variable_of-opposite _) ∙ (let w = right.of_literal (last - 1) (let h = last_within trail places right learnt ordered all_false last second latest in omega (arith, h, after)) in omega (arith, w.2, after))

  pub asserted_free : IsFree (take (slice_index starts level) trail) (opposite (literal_at trail (last - 1)))
  asserted_free = free_behind trail places right starts starts_right (slice_index starts level) (opposite (literal_at trail (last - 1))) (omega (arith, top_place, start_low, after))

  pub asserted_fits : (0 < variable_of (opposite (literal_at trail (last - 1)))) × (variable_of (opposite (literal_at trail (last - 1))) < length places)
  asserted_fits = rw variable_of-opposite (let w = right.of_literal (last - 1) (let h = last_within trail places right learnt ordered all_false last second latest in omega (arith, h, after)) in (w.0, w.1))

  -- the learnt clause has two free literals before each decision that is left
  quiet_learnt : (k : ℕ) → k < level → IsQuietClause (take (slice_index starts k) trail) learnt
  quiet_learnt k h =
      let low = level_right.before k h in
      let w = latest.has_second (omega (arith, low)) in
      let l : ℤ = slice_index_or learnt w.0 (pos 0) in
      let m : ℤ = slice_index_or learnt w.1 (pos 0) in
      inr (
        l,
        m,
        contains_at learnt w.0 w.2,
        contains_at learnt w.1 w.3,
        (λ e. w.4 (same_place learnt w.0 w.1 ordered w.2 w.3 (ap variable_of e))),
        free_behind trail places right starts starts_right (slice_index starts k) l (omega (arith, low, w.5)),
        free_behind trail places right starts starts_right (slice_index starts k) m (omega (arith, low, w.6, latest.in_order)),
      )

  pub searching_after : length reasons ≡ length places → IsSearching (clauses ++ learnt ∷ []) (take (slice_index starts level) trail ++ opposite (literal_at trail (last - 1)) ∷ []) (take level starts) (set reasons (variable_of (opposite (literal_at trail (last - 1)))) (length clauses + 1))
  searching_after same_variables = record {
    has_reasons = reasons_forced (clauses ++ learnt ∷ []) (take (slice_index starts level) trail) (take level starts) reasons
        (reasons_more_clauses clauses (learnt ∷ []) (take (slice_index starts level) trail) (take level starts) reasons (reasons_taken_back trail starts starts_right level level_below clauses reasons searching.has_reasons))
        (opposite (literal_at trail (last - 1))) asserted_free (length clauses + 1) learnt (IsNumbered-last clauses learnt)
        (has_last_literal trail places right learnt ordered all_false last second latest (omega (arith, after))) others_false
        (omega (arith, asserted_fits.1, same_variables));
    quiet_before = λ k h.
        let low : k < level = low_of k h in
        subst (λ t. IsQuiet t (clauses ++ learnt ∷ [])) (sym (prefix k low))
        (All-push (IsQuietClause (take (slice_index starts k) trail)) clauses learnt (searching.quiet_before k (omega (arith, low, level_below))) (quiet_learnt k low));
    started = λ k h.
        let low : k < level = low_of k h in
        let a = at_old k low in
        let b = starts_right.increasing k level low level_below in
        let c = length-take-le (slice_index starts level) trail (starts_right.within level level_below) in
        let d = length-append (take (slice_index starts level) trail) (opposite (literal_at trail (last - 1)) ∷ []) in
        omega (arith, a, b, c, d);
  } where
    low_of : (k : ℕ) → k < length (take level starts) → k < level
    low_of k h = let g = length-take level starts in omega (arith, g, h)

    at_old : (k : ℕ) → k < level → slice_index (take level starts) k ≡ slice_index starts k
    at_old k low = get_or-take level starts k 0 low

    prefix : (k : ℕ) → k < level → take (slice_index (take level starts) k) (take (slice_index starts level) trail ++ opposite (literal_at trail (last - 1)) ∷ []) ≡ take (slice_index starts k) trail
    prefix k low =
        let b = starts_right.increasing k level low level_below in
        let c = length-take-le (slice_index starts level) trail (starts_right.within level level_below) in
        ap (λ n. take n (take (slice_index starts level) trail ++ opposite (literal_at trail (last - 1)) ∷ [])) (at_old k low)
        ∙ take-append-le (slice_index starts k) (take (slice_index starts level) trail) (opposite (literal_at trail (last - 1)) ∷ []) (omega (arith, b, c))
        ∙ take-take (slice_index starts k) (slice_index starts level) trail (omega (arith, b))
