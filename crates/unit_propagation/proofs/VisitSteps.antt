-- Steps of a visit.
use Rattle.std.proofs.Common.{◌≡◌, ◌≢◌, ◌⊎◌, inl, inr, ℕ, ℤ, ◌<◌, ◌≤◌, ◌+◌, List, [], ◌∷◌, ◌++◌, length, slice_index, slice_index_or, slice_set, refl, sym, ap, ◌∙◌, arith, subst, length-append, Option, Some, None, swap_remove}
use Rattle.std.specs.Prelude.{Contains}
use Rattle.std.proofs.Math.ListN.{length-set}
use Rattle.std.proofs.lemmas.Bool.{cases_eq}
use Rattle.std.proofs.lemmas.List.{get_or-set_other, get_or-set_same}
use Rattle.clause_db.specs.Literal.{variable_of, opposite}
use Rattle.clause_db.proofs.Ordered.{contains_at, at_member, variable_of-opposite}
use Rattle.clause_db.specs.Numbered.{IsNumbered}
use Rattle.std.proofs.lemmas.Option.{slice_get-get_or}
use Rattle.unit_propagation.specs.Status.{FitsVariables}
use Rattle.unit_propagation.specs.Places.{PlacesAreRight}
use Rattle.unit_propagation.specs.Places.{literal_at}
use Rattle.unit_propagation.specs.Watching.{code_of, watching, Holds, IsGuarded, IsWatching, IsCovered, IsWatched}
use Rattle.unit_propagation.specs.Visiting.{IsNotFalse, WatchesNot, IsBeside, WatchesBeside, IsLeft, IsVisited, IsVisiting}
use Rattle.unit_propagation.specs.declared.watches.Watched.{Watched}
use Rattle.unit_propagation.proofs.Consistent.{cases_int}
use Rattle.unit_propagation.proofs.Trails.{literal_at-push_old, literal_at-push_new}
use Rattle.unit_propagation.proofs.Tables.{Keeps, code_same, code_within, left_from_contains, left_swap, enter_keeps, enter_has, leave_keeps, watching_other, watching_same, length-swap_remove}
use Rattle.unit_propagation.proofs.Covers.{guarded_not_false, guarded_more, covered-push, covered_lists, covered_fewer, covered_holds, covered_elsewhere, same_falsified}

-- a clause in any stage of a visit is covered
pub covered_at : (trail : List ℤ) (starts : List ℕ) (head : ℕ) (l : ℤ) (start : ℕ) (lists : List (List ℕ)) (pending : List ℕ) (index : ℕ) (clause : List ℤ) (pair : Option Watched) → IsVisited trail starts head l start lists pending index clause pair → IsCovered trail starts head lists pending index clause pair
covered_at trail starts head l start lists pending index clause pair (inl w) = covered_fewer trail starts head lists pending index clause pair w
covered_at trail starts head l start lists pending index clause pair (inr w) = w.0

module _ (clauses : List (List ℤ)) (trail : List ℤ) (starts : List ℕ) (variables head : ℕ) (l : ℤ) where
  -- before the first step
  begins : (lists : List (List ℕ)) (pending : List ℕ) (index : ℕ) (clause : List ℤ) (pair : Option Watched) → literal_at trail head ≡ opposite l → IsCovered trail starts head lists pending index clause pair → IsVisited trail starts head l 0 lists pending index clause pair
  begins lists pending index clause None at_head w = inl w
  begins lists pending index clause (Some watched) at_head w = elim (cases_int watched.first l) [
    | inl e ↦ inr (w, left_from_contains (watching lists l) index (subst (λ m. Contains (watching lists m) index) e w.in_first))
    | inr first ↦ elim (cases_int watched.second l) [
      | inl e ↦ inr (w, left_from_contains (watching lists l) index (subst (λ m. Contains (watching lists m) index) e w.in_second))
      | inr second ↦ inl (covered_elsewhere trail starts head lists pending index clause l (Some watched) at_head (first, second) w)
    ]
  ]

  pub visit_begins : (pairs : List (Option Watched)) (lists : List (List ℕ)) (pending : List ℕ) → head < length trail → literal_at trail head ≡ opposite l → IsWatched clauses trail starts variables head pairs lists pending → IsVisiting clauses trail starts variables head l 0 pairs lists pending
  visit_begins pairs lists pending within at_head w = record {
    head_within = within;
    falsified = at_head;
    starts_before = w.starts_before;
    known = w.known;
    tables = w.tables;
    each = λ k h. begins lists pending k (slice_index_or clauses k []) (slice_index_or pairs k None) at_head (w.each k h);
  }

  -- at any step
  pub watched_at : (start : ℕ) (pairs : List (Option Watched)) (lists : List (List ℕ)) (pending : List ℕ) → IsVisiting clauses trail starts variables head l start pairs lists pending → IsWatched clauses trail starts variables head pairs lists pending
  watched_at start pairs lists pending v = record {
    head_within = let h = v.head_within in omega arith;
    starts_before = v.starts_before;
    known = v.known;
    tables = v.tables;
    each = λ k h. covered_at trail starts head l start lists pending k (slice_index_or clauses k []) (slice_index_or pairs k None) (v.each k h);
  }

  -- behind the last step
  pub visit_ends : (start : ℕ) (pairs : List (Option Watched)) (lists : List (List ℕ)) (pending : List ℕ) → length (watching lists l) ≤ start → IsVisiting clauses trail starts variables head l start pairs lists pending → IsWatched clauses trail starts variables (head + 1) pairs lists pending
  visit_ends start pairs lists pending past v = record {
    head_within = let h = v.head_within in omega arith;
    starts_before = λ j h. let low = v.starts_before j h in omega arith;
    known = v.known;
    tables = v.tables;
    each = λ k h. elim (v.each k h) [
      | inl w ↦ w
      | inr w ↦ absurd (let at = w.1.1 in let low = w.1.2 in omega (arith, at, low))
    ];
  }

  -- an entry passes by a step to the next place, or the clause was the one at the place
  passed : (lists : List (List ℕ)) (place k index : ℕ) → slice_index_or (watching lists l) place 0 ≡ index → k ≢ index → IsLeft (watching lists l) place k → IsLeft (watching lists l) (place + 1) k
  passed lists place k index here ne (e, from_here, within, has) =
      let apart : e ≢ place = λ f. ne (sym has ∙ ap (slice_index (watching lists l)) f ∙ here) in
      (e, omega (arith, apart, from_here), within, has)

  -- the clause at the place is covered
  pub visit_kept : (place index : ℕ) (pairs : List (Option Watched)) (lists : List (List ℕ)) (pending : List ℕ) → slice_index_or (watching lists l) place 0 ≡ index → (index < length pairs → IsCovered trail starts (head + 1) lists pending index (slice_index_or clauses index []) (slice_index_or pairs index None)) → IsVisiting clauses trail starts variables head l place pairs lists pending → IsVisiting clauses trail starts variables head l (place + 1) pairs lists pending
  visit_kept place index pairs lists pending here covered v = record {
    head_within = v.head_within;
    falsified = v.falsified;
    starts_before = v.starts_before;
    known = v.known;
    tables = v.tables;
    each = λ k h. elim (cases_eq k index) [
      | inl e ↦ inl (subst (λ i. IsCovered trail starts (head + 1) lists pending i (slice_index_or clauses i []) (slice_index_or pairs i None)) (sym e) (covered (subst (λ i. i < length pairs) e h)))
      | inr ne ↦ elim (v.each k h) [
        | inl w ↦ inl w
        | inr w ↦ inr (w.0, passed lists place k index here ne w.1)
      ]
    ];
  }

  -- the clause keeps its watches
  pub visit_keeps : (place index : ℕ) (pairs : List (Option Watched)) (lists : List (List ℕ)) (pending : List ℕ) → slice_index_or (watching lists l) place 0 ≡ index → (index < length pairs → Holds trail (slice_index_or clauses index []) ⊎ WatchesNot (slice_index_or pairs index None) l) → IsVisiting clauses trail starts variables head l place pairs lists pending → IsVisiting clauses trail starts variables head l (place + 1) pairs lists pending
  visit_keeps place index pairs lists pending here fine v =
      visit_kept place index pairs lists pending here (λ h. let now = covered_at trail starts head l place lists pending index (slice_index_or clauses index []) (slice_index_or pairs index None) (v.each index h) in elim (fine h) [
        | inl w ↦ covered_holds trail starts head lists pending index (slice_index_or clauses index []) (slice_index_or pairs index None) v.starts_before w now
        | inr w ↦ covered_elsewhere trail starts head lists pending index (slice_index_or clauses index []) l (slice_index_or pairs index None) v.falsified w now
      ]) v

  -- a literal is pushed
  visited-push : (m : ℤ) (start : ℕ) (lists : List (List ℕ)) (pending : List ℕ) (index : ℕ) (clause : List ℤ) (pair : Option Watched) → head < length trail → IsVisited trail starts head l start lists pending index clause pair → IsVisited (trail ++ m ∷ []) starts head l start lists pending index clause pair
  visited-push m start lists pending index clause pair within (inl w) = inl (covered-push trail m starts (head + 1) lists pending index clause pair (omega arith) w)
  visited-push m start lists pending index clause pair within (inr w) = inr (covered-push trail m starts head lists pending index clause pair (omega arith) w.0, w.1)

  visiting-push : (m : ℤ) (start : ℕ) (pairs : List (Option Watched)) (lists : List (List ℕ)) (pending : List ℕ) → IsVisiting clauses trail starts variables head l start pairs lists pending → IsVisiting clauses (trail ++ m ∷ []) starts variables head l start pairs lists pending
  visiting-push m start pairs lists pending v = record {
    head_within = let h = v.head_within in simp length-append (omega arith);
    falsified = literal_at-push_old trail m head v.head_within ∙ v.falsified;
    starts_before = v.starts_before;
    known = v.known;
    tables = v.tables;
    each = λ k h. visited-push m start lists pending k (slice_index_or clauses k []) (slice_index_or pairs k None) v.head_within (v.each k h);
  }

-- the clause forces a literal
pub visit_forces : (clauses : List (List ℤ)) (trail : List ℤ) (starts : List ℕ) (variables head : ℕ) (l m : ℤ) (place index : ℕ) (pairs : List (Option Watched)) (lists : List (List ℕ)) (pending : List ℕ) → slice_index_or (watching lists l) place 0 ≡ index → Contains (slice_index_or clauses index []) m → IsVisiting clauses trail starts variables head l place pairs lists pending → IsVisiting clauses (trail ++ m ∷ []) starts variables head l (place + 1) pairs lists pending
visit_forces clauses trail starts variables head l m place index pairs lists pending here has v =
    visit_keeps clauses (trail ++ m ∷ []) starts variables head l place index pairs lists pending here (λ h. inl (length trail, simp length-append (omega arith), subst (Contains (slice_index_or clauses index [])) (sym (literal_at-push_new trail m)) has)) (visiting-push clauses trail starts variables head l m place pairs lists pending v)

-- the other watched literal
module _ (trail : List ℤ) (starts : List ℕ) (head : ℕ) (lists : List (List ℕ)) (index : ℕ) (clause : List ℤ) (l a : ℤ) where
  record IsOther : Type 0 where
    has : Contains clause a
    apart : a ≢ l
    listed : Contains (watching lists a) index
    guarded : IsGuarded trail starts head clause a

  other_of : (watched : Watched) → IsBeside watched l a → IsWatching trail starts head lists index clause watched → IsOther
  other_of watched (inl (first, second)) w = record {
    has = subst (Contains clause) second w.has_second;
    apart = λ e. w.differ (first ∙ sym e ∙ sym second);
    listed = subst (λ m. Contains (watching lists m) index) second w.in_second;
    guarded = subst (IsGuarded trail starts head clause) second w.second_guarded;
  }
  other_of watched (inr (second, first)) w = record {
    has = subst (Contains clause) first w.has_first;
    apart = λ e. w.differ (first ∙ e ∙ sym second);
    listed = subst (λ m. Contains (watching lists m) index) first w.in_first;
    guarded = subst (IsGuarded trail starts head clause) first w.first_guarded;
  }

  other : (pending : List ℕ) (pair : Option Watched) → WatchesBeside pair l a → IsCovered trail starts head lists pending index clause pair → IsOther
  other pending None beside w = absurd beside
  other pending (Some watched) beside w = other_of watched beside w

-- the lists after a move
abbrev pub moved_lists : List (List ℕ) → ℤ → ℤ → ℕ → ℕ → List (List ℕ)
moved_lists lists b l place index =
    slice_set (slice_set lists (code_of b) (slice_index_or lists (code_of b) [] ++ index ∷ [])) (code_of l) (swap_remove (slice_index_or (slice_set lists (code_of b) (slice_index_or lists (code_of b) [] ++ index ∷ [])) (code_of l) []) place 0)

module _ (lists : List (List ℕ)) (b l : ℤ) (place index : ℕ) (b_within : code_of b < length lists) (l_within : code_of l < length lists) (differ : b ≢ l) (within : place < length (watching lists l)) (here : slice_index_or (watching lists l) place 0 ≡ index) where
  entered : List (List ℕ)
  entered = slice_set lists (code_of b) (slice_index_or lists (code_of b) [] ++ index ∷ [])

  l_within_entered : code_of l < length (slice_set lists (code_of b) (slice_index_or lists (code_of b) [] ++ index ∷ []))
  l_within_entered = rw length-set l_within

  same_list : watching (slice_set lists (code_of b) (slice_index_or lists (code_of b) [] ++ index ∷ [])) l ≡ watching lists l
  same_list = watching_other lists (code_of b) b_within l (slice_index_or lists (code_of b) [] ++ index ∷ []) (λ e. differ (sym (code_same l b e)))

  pub moved_list : watching (moved_lists lists b l place index) l ≡ swap_remove (watching lists l) place 0
  moved_list =
      watching_same (slice_set lists (code_of b) (slice_index_or lists (code_of b) [] ++ index ∷ [])) (code_of l) l_within_entered l (swap_remove (watching (slice_set lists (code_of b) (slice_index_or lists (code_of b) [] ++ index ∷ [])) l) place 0) refl ∙ ap (λ xs. swap_remove xs place 0) same_list

  -- lists of other literals have what they had
  pub moved_other : (m : ℤ) (k : ℕ) → m ≢ l → Contains (watching lists m) k → Contains (watching (moved_lists lists b l place index) m) k
  moved_other m k ne w =
      subst (λ xs. Contains xs k) (sym (watching_other (slice_set lists (code_of b) (slice_index_or lists (code_of b) [] ++ index ∷ [])) (code_of l) l_within_entered m (swap_remove (watching (slice_set lists (code_of b) (slice_index_or lists (code_of b) [] ++ index ∷ [])) l) place 0) (λ e. ne (code_same m l e)))) (enter_keeps lists (code_of b) b_within index k m w)

  pub moved_new : Contains (watching (moved_lists lists b l place index) b) index
  moved_new =
      subst (λ xs. Contains xs index) (sym (watching_other (slice_set lists (code_of b) (slice_index_or lists (code_of b) [] ++ index ∷ [])) (code_of l) l_within_entered b (swap_remove (watching (slice_set lists (code_of b) (slice_index_or lists (code_of b) [] ++ index ∷ [])) l) place 0) (λ e. differ (code_same b l e)))) (enter_has lists (code_of b) b_within b index refl)

  -- and all lists have the other clauses
  pub moved_keeps : (k : ℕ) → k ≢ index → Keeps lists (moved_lists lists b l place index) k
  moved_keeps k ne m w =
      leave_keeps (slice_set lists (code_of b) (slice_index_or lists (code_of b) [] ++ index ∷ [])) (code_of l) l_within_entered place index k (subst (λ xs. place < length xs) (sym same_list) within) (ap (λ xs. slice_index xs place) same_list ∙ here) ne m (enter_keeps lists (code_of b) b_within index k m w)

  pub moved_left : (k : ℕ) → k ≢ index → IsLeft (watching lists l) place k → IsLeft (watching (moved_lists lists b l place index) l) place k
  moved_left k ne w = subst (λ xs. IsLeft xs place k) (sym moved_list) (left_swap (watching lists l) place index place k within here ne (omega arith) w)

-- the clause watches another literal
module _ (clauses : List (List ℤ)) (trail : List ℤ) (starts : List ℕ) (variables head : ℕ) (l : ℤ) (place : ℕ) (pairs : List (Option Watched)) (lists : List (List ℕ)) (pending : List ℕ) (v : IsVisiting clauses trail starts variables head l place pairs lists pending) (index : ℕ) (within : place < length (watching lists l)) (here : slice_index_or (watching lists l) place 0 ≡ index) (a b : ℤ) (fits : variable_of b < variables) (l_fits : variable_of l < variables) (low : index < length pairs) (beside : WatchesBeside (slice_index_or pairs index None) l a) (has : Contains (slice_index_or clauses index []) b) (differ : a ≢ b) (fine : IsNotFalse trail b) where
  apart_from_l : b ≢ l
  apart_from_l e = fine (subst (Contains trail) (v.falsified ∙ ap opposite (sym e)) (contains_at trail head v.head_within))

  b_code : code_of b < length lists
  b_code = subst (λ n. code_of b < n) (sym v.tables) (code_within b variables fits)

  l_code : code_of l < length lists
  l_code = subst (λ n. code_of l < n) (sym v.tables) (code_within l variables l_fits)

  other_here : IsOther trail starts head lists index (slice_index_or clauses index []) l a
  other_here = other trail starts head lists index (slice_index_or clauses index []) l a pending (slice_index_or pairs index None) beside (covered_at trail starts head l place lists pending index (slice_index_or clauses index []) (slice_index_or pairs index None) (v.each index low))

  not_a : literal_at trail head ≡ opposite a → ⊥
  not_a e = other_here.apart (same_falsified trail starts head lists pending index (slice_index_or clauses index []) l a v.falsified e)

  new_watching : IsWatching trail starts (head + 1) (moved_lists lists b l place index) index (slice_index_or clauses index []) (record { first = a; second = b })
  new_watching = record {
    has_first = other_here.has;
    has_second = has;
    differ = differ;
    in_first = moved_other lists b l place index b_code l_code apart_from_l within here a index other_here.apart other_here.listed;
    in_second = moved_new lists b l place index b_code l_code apart_from_l within here;
    first_guarded = guarded_more trail starts head (slice_index_or clauses index []) a (λ e. absurd (not_a e)) other_here.guarded;
    second_guarded = guarded_not_false trail starts (head + 1) (slice_index_or clauses index []) b (let h = v.head_within in omega arith) fine;
  }

  others : (k : ℕ) → k ≢ index → IsVisited trail starts head l place lists pending k (slice_index_or clauses k []) (slice_index_or pairs k None) → IsVisited trail starts head l place (moved_lists lists b l place index) pending k (slice_index_or clauses k []) (slice_index_or pairs k None)
  others k ne (inl w) = inl (covered_lists trail starts (head + 1) lists (moved_lists lists b l place index) pending k (slice_index_or clauses k []) (slice_index_or pairs k None) (moved_keeps lists b l place index b_code l_code apart_from_l within here k ne) w)
  others k ne (inr w) = inr (
    covered_lists trail starts head lists (moved_lists lists b l place index) pending k (slice_index_or clauses k []) (slice_index_or pairs k None) (moved_keeps lists b l place index b_code l_code apart_from_l within here k ne) w.0,
    moved_left lists b l place index b_code l_code apart_from_l within here k ne w.1,
  )

  pub visit_moves : IsVisiting clauses trail starts variables head l place (slice_set pairs index (Some (record { first = a; second = b }))) (moved_lists lists b l place index) pending
  visit_moves = record {
    head_within = v.head_within;
    falsified = v.falsified;
    starts_before = v.starts_before;
    known = rw length-set v.known;
    tables = rw (length-set, length-set) v.tables;
    each = λ k h. let old : k < length pairs = rw length-set at h in elim (cases_eq k index) [
      | inl e ↦ inl (subst (λ i. IsCovered trail starts (head + 1) (moved_lists lists b l place index) pending i (slice_index_or clauses i []) (slice_index_or (slice_set pairs index (Some (record { first = a; second = b }))) i None)) (sym e) (subst (IsCovered trail starts (head + 1) (moved_lists lists b l place index) pending index (slice_index_or clauses index [])) (sym (get_or-set_same pairs index (Some (record { first = a; second = b })) None low)) new_watching))
      | inr ne ↦ subst (IsVisited trail starts head l place (moved_lists lists b l place index) pending k (slice_index_or clauses k [])) (sym (get_or-set_other pairs index k (Some (record { first = a; second = b })) None ne)) (others k ne (v.each k old))
    ];
  }

  pub visit_moves_nearer : length (watching (moved_lists lists b l place index) l) + 1 ≡ length (watching lists l)
  visit_moves_nearer = subst (λ xs. length xs + 1 ≡ length (watching lists l)) (sym (moved_list lists b l place index b_code l_code apart_from_l within here)) (length-swap_remove (watching lists l) place 0 within)

-- the table after a clause has come into one list and gone from another
pub moved_is : (lists mid new : List (List ℕ)) (b l : ℤ) (place index : ℕ) (first then_code : ℕ) → first ≡ code_of b → then_code ≡ code_of l → mid ≡ slice_set lists first (slice_index_or lists first [] ++ index ∷ []) → new ≡ slice_set mid then_code (swap_remove (slice_index_or mid then_code []) place 0) → new ≡ moved_lists lists b l place index
moved_is lists mid new b l place index first then_code eb el enters leaves =
    leaves ∙ ap (λ c. slice_set mid c (swap_remove (slice_index_or mid c []) place 0)) el ∙ ap (λ m. slice_set m (code_of l) (swap_remove (slice_index_or m (code_of l) []) place 0)) (enters ∙ ap (λ c. slice_set lists c (slice_index_or lists c [] ++ index ∷ [])) eb)

-- the literal that became false is still in the place
pub still_listed : (lists mid : List (List ℕ)) (b l : ℤ) (place index : ℕ) (first then_code : ℕ) → first ≡ code_of b → then_code ≡ code_of l → code_of b < length lists → b ≢ l → mid ≡ slice_set lists first (slice_index_or lists first [] ++ index ∷ []) → place < length (watching lists l) → place < length (slice_index_or mid then_code [])
still_listed lists mid b l place index first then_code eb el within differ enters h =
    subst (λ xs. place < length xs) (sym (ap (λ c. slice_index_or mid c []) el ∙ ap (λ m. slice_index_or m (code_of l) []) (enters ∙ ap (λ c. slice_set lists c (slice_index_or lists c [] ++ index ∷ [])) eb) ∙ watching_other lists (code_of b) within l (slice_index_or lists (code_of b) [] ++ index ∷ []) (λ e. differ (sym (code_same l b e))))) h

-- a literal of the clause at an index is within the bound
pub member_fits : (n : ℕ) (clauses : List (List ℤ)) (index : ℕ) (l : ℤ) → FitsVariables n clauses → index < length clauses → Contains (slice_index_or clauses index []) l → (0 < variable_of l) × (variable_of l < n)
member_fits n clauses index l fits low has =
    at_member (λ m. (0 < variable_of m) × (variable_of m < n)) (slice_index_or clauses index []) l (fits index [] low).1 has

pub numbered_here : (clauses : List (List ℤ)) (index : ℕ) → index < length clauses → IsNumbered clauses (index + 1) (slice_index_or clauses index [])
numbered_here clauses index low = (index, refl, slice_get-get_or clauses index [] low)

-- the literal that became false has a variable of the trail
pub falsified_fits : (trail : List ℤ) (places : List ℕ) (head : ℕ) (l : ℤ) → PlacesAreRight trail places → head < length trail → literal_at trail head ≡ opposite l → variable_of l < length places
falsified_fits trail places head l right h e =
    subst (λ v. v < length places) (ap variable_of e ∙ variable_of-opposite l) (right.of_literal head h).1

abbrev pub pair_of : ℤ → ℤ → Watched
pair_of a b = record { first = a; second = b }
