-- What stands in a table of marks, and how a write changes it.
use Rattle.std.proofs.Common.{◌≡◌, ◌≢◌, ◌⊎◌, inl, inr, ℕ, zero, suc, ℤ, pos, negsuc, ◌<◌, ◌+◌, List, [], ◌∷◌, ◌++◌, length, slice_index_or, set, get_or, take, ◌-◌, refl, sym, ap, ◌∙◌, arith, subst, true, cond}
use Rattle.std.specs.Prelude.{Contains, count_by}
use Rattle.std.proofs.lemmas.Bool.{cases_eq, cases_lt}
use Rattle.std.proofs.lemmas.List.{get_or_default, get_or_past, get_or_append_left, get_or_push, length_push, get_or-set_same, get_or-set_other}
use Rattle.std.proofs.lemmas.List.Sums.{sum_by-set}
use Rattle.std.proofs.Math.Seq.{take-suc, take-length}
use Rattle.std.proofs.lemmas.List.Elements.{All-filter, All-contains, All-contains_itself, filter_passes, Contains-get_or}
use Rattle.std.proofs.lemmas.List.Kept.{AllPairs-filter}
use Rattle.clause_db.specs.Literal.{variable_of, opposite, IsOrdered}
use Rattle.clause_db.proofs.Ordered.{read_at_place, same_or_opposite}
use Rattle.chain_resolution.specs.Marked.{is_literal, marked, AreAtVariables, AreTouched, IsWithout, IsWith, Mentions}
use Rattle.chain_resolution.proofs.Lists.{contains_filter, empty_from}

pub positive_from_literal : (l : ℤ) → is_literal l ≡ true → 0 < variable_of l
positive_from_literal (pos zero) e = cc
positive_from_literal (pos (suc n)) e = omega arith
positive_from_literal (negsuc n) e = omega arith

pub literal_from_positive : (l : ℤ) → 0 < variable_of l → is_literal l ≡ true
literal_from_positive (pos zero) h = absurd (omega (arith, h))
literal_from_positive (pos (suc n)) h = refl
literal_from_positive (negsuc n) h = refl

pub none_or_positive : (l : ℤ) → (l ≡ pos 0) ⊎ (0 < variable_of l)
none_or_positive (pos zero) = inl refl
none_or_positive (pos (suc n)) = inr (omega arith)
none_or_positive (negsuc n) = inr (omega arith)

-- what is read at a place
abbrev pub at : List ℤ → ℕ → ℤ
at table v = slice_index_or table v (pos 0)

-- the literal stands at its variable
abbrev pub Stands : List ℤ → ℤ → Type 0
Stands table l = (0 < variable_of l) × (at table (variable_of l) ≡ l)

within_table : (table : List ℤ) (l : ℤ) → Stands table l → variable_of l < length table
within_table table l s = elim (cases_lt (variable_of l) (length table)) [
  | inl h ↦ h
  | inr h ↦ absurd (let e : pos 0 ≡ l = sym (get_or_past table (variable_of l) (pos 0) h) ∙ s.1 in let f = ap variable_of e in let p = s.0 in omega (arith, f, p))
]

module _ (table : List ℤ) (right : AreAtVariables table) where
  pub stands_from_marked : (l : ℤ) → Contains (marked table) l → Stands table l
  stands_from_marked l w =
      let in_table : Contains table l = All-contains (Contains table) (marked table) l (All-filter is_literal (Contains table) table (All-contains_itself table)) w in
      let passes : is_literal l ≡ true = All-contains (λ m. is_literal m ≡ true) (marked table) l (filter_passes is_literal table) w in
      let positive = positive_from_literal l passes in
      let read : at table in_table.0 ≡ l = read_at_place table l in_table in
      let here : variable_of l ≡ in_table.0 = sym (ap variable_of read) ∙ right in_table.0 (subst (λ m. 0 < variable_of m) (sym read) positive) in
      (positive, ap (at table) here ∙ read)

  pub marked_from_stands : (l : ℤ) → Stands table l → Contains (marked table) l
  marked_from_stands l s = contains_filter is_literal table l (subst (Contains table) s.1 (Contains-get_or table (variable_of l) (pos 0) (within_table table l s))) (literal_from_positive l s.0)

  -- what is read and is no 0 stands in the clause
  pub marked_at : (v : ℕ) → 0 < variable_of (at table v) → Contains (marked table) (at table v)
  marked_at v positive = marked_from_stands (at table v) (positive, ap (at table) (right v positive))

  pub marked_ordered : IsOrdered (marked table)
  marked_ordered i j d a b =
      let pairs = AllPairs-filter (λ (l m : ℤ). 0 < variable_of l → 0 < variable_of m → variable_of l < variable_of m) is_literal table in_order i j d a b in
      let passes = filter_passes is_literal table in
      pairs (positive_from_literal _ (passes i d (omega (arith, a, b)))) (positive_from_literal _ (passes j d b))
    where
      in_order : (i j : ℕ) (d : ℤ) → i < j → j < length table → 0 < variable_of (slice_index_or table i d) → 0 < variable_of (slice_index_or table j d) → variable_of (slice_index_or table i d) < variable_of (slice_index_or table j d)
      in_order i j d a b p q =
          let hi : i < length table = omega (arith, a, b) in
          let si : slice_index_or table i d ≡ at table i = get_or_default table i d (pos 0) hi in
          let sj : slice_index_or table j d ≡ at table j = get_or_default table j d (pos 0) b in
          let ei = ap variable_of si ∙ right i (subst (λ m. 0 < variable_of m) si p) in
          let ej = ap variable_of sj ∙ right j (subst (λ m. 0 < variable_of m) sj q) in
          omega (arith, ei, ej, a)

-- a table that differs from another one at one place
module _ (old new : List ℤ) (v : ℕ) (others : (u : ℕ) → u ≢ v → at new u ≡ at old u) where
  pub at_variables_after : AreAtVariables old → (0 < variable_of (at new v) → variable_of (at new v) ≡ v) → AreAtVariables new
  at_variables_after right here u positive = elim (cases_eq u v) [
    | inl e ↦ subst (λ w. variable_of (at new w) ≡ w) (sym e) (here (subst (λ w. 0 < variable_of (at new w)) e positive))
    | inr ne ↦ ap variable_of (others u ne) ∙ right u (subst (λ m. 0 < variable_of m) (others u ne) positive)
  ]

  -- one place more is touched
  pub touched_after_push : (touched : List ℕ) → AreTouched old touched → AreTouched new (touched ++ v ∷ [])
  touched_after_push touched all u none = elim (cases_eq u v) [
    | inl e ↦ absurd (none (length touched) (let n = length_push touched v in omega (arith, n)) (get_or_push touched v 0 (length touched) refl ∙ sym e))
    | inr ne ↦ others u ne ∙ all u (λ k h e. none k (let n = length_push touched v in omega (arith, n, h)) (get_or_append_left touched (v ∷ []) 0 k h ∙ e))
  ]

  -- a literal fewer stands
  pub touched_after_zero : (touched : List ℕ) → at new v ≡ pos 0 → AreTouched old touched → AreTouched new touched
  touched_after_zero touched nothing all u none = elim (cases_eq u v) [
    | inl e ↦ ap (at new) e ∙ nothing
    | inr ne ↦ others u ne ∙ all u none
  ]

  module _ (right : AreAtVariables old) (right' : AreAtVariables new) where
    pub without_from_zero : at new v ≡ pos 0 → IsWithout v (marked old) (marked new)
    without_from_zero nothing l = (
      (λ w.
          let s = stands_from_marked new right' l w in
          let away : variable_of l ≢ v = λ e. absurd (let f : variable_of l ≡ 0 = ap variable_of (sym s.1 ∙ ap (at new) e ∙ nothing) in let p = s.0 in omega (arith, f, p)) in
          (marked_from_stands old right l (s.0, sym (others (variable_of l) away) ∙ s.1), away)),
      (λ w. let s = stands_from_marked old right l w.0 in marked_from_stands new right' l (s.0, others (variable_of l) w.1 ∙ s.1)),
    )

    pub with_from_literal : (literal : ℤ) → 0 < variable_of literal → variable_of literal ≡ v → at new v ≡ literal → (at old v ≡ pos 0) ⊎ (at old v ≡ literal) → IsWith literal (marked old) (marked new)
    with_from_literal literal positive is here before l = (
      (λ w.
          let s = stands_from_marked new right' l w in
          elim (cases_eq (variable_of l) v) [
            | inl e ↦ inr (sym here ∙ ap (at new) (sym e) ∙ s.1)
            | inr ne ↦ inl (marked_from_stands old right l (s.0, sym (others (variable_of l) ne) ∙ s.1))
          ]),
      (λ w. elim w [
        | inr e ↦ subst (Contains (marked new)) e there
        | inl h ↦
            let s = stands_from_marked old right l h in
            elim (cases_eq (variable_of l) v) [
              | inr ne ↦ marked_from_stands new right' l (s.0, others (variable_of l) ne ∙ s.1)
              | inl e ↦ elim before [
                | inl none ↦ absurd (let f : variable_of l ≡ 0 = ap variable_of (sym s.1 ∙ ap (at old) e ∙ none) in let p = s.0 in omega (arith, f, p))
                | inr same ↦ subst (Contains (marked new)) (sym same ∙ ap (at old) (sym e) ∙ s.1) there
              ]
            ]
      ]),
    ) where
      there : Contains (marked new) literal
      there = marked_from_stands new right' literal (positive, ap (at new) is ∙ here)

-- two tables that read the same
pub same_marked : (old new : List ℤ) → ((u : ℕ) → at new u ≡ at old u) → AreAtVariables old → AreAtVariables new → (l : ℤ) → Contains (marked old) l → Contains (marked new) l
same_marked old new same right right' l w = let s = stands_from_marked old right l w in marked_from_stands new right' l (s.0, same (variable_of l) ∙ s.1)

-- the last touched place is forgotten, where nothing stands at it
pub touched_before_last : (table : List ℤ) (touched : List ℕ) (v : ℕ) → AreTouched table (touched ++ v ∷ []) → at table v ≡ pos 0 → AreTouched table touched
touched_before_last table touched v all nothing u none = elim (cases_eq u v) [
  | inl e ↦ ap (at table) e ∙ nothing
  | inr ne ↦ all u (λ k h e. elim (cases_lt k (length touched)) [
    | inl low ↦ none k low (sym (get_or_append_left touched (v ∷ []) 0 k low) ∙ e)
    | inr high ↦ ne (sym (sym (get_or_push touched v 0 k (let n = length_push touched v in omega (arith, n, h, high))) ∙ e))
  ])
]

-- nothing is touched
pub marked_of_none : (table : List ℤ) (touched : List ℕ) → length touched ≡ 0 → AreAtVariables table → AreTouched table touched → marked table ≡ []
marked_of_none table touched short right all = empty_from (marked table) (λ l w.
    let s = stands_from_marked table right l w in
    let nothing = all (variable_of l) (λ k h. absurd (omega (arith, h, short))) in
    let f : variable_of l ≡ 0 = ap variable_of (sym s.1 ∙ nothing) in
    let p = s.0 in
    omega (arith, f, p))

-- a literal stands, or nothing does
pub within_from_some : (table : List ℤ) (v : ℕ) → at table v ≢ pos 0 → v < length table
within_from_some table v some = elim (cases_lt v (length table)) [
  | inl h ↦ h
  | inr h ↦ absurd (some (get_or_past table v (pos 0) h))
]

pub positive_from_some : (l : ℤ) → l ≢ pos 0 → 0 < variable_of l
positive_from_some l some = elim (none_or_positive l) [ inl e ↦ absurd (some e) | inr h ↦ h ]

module _ (table : List ℤ) (right : AreAtVariables table) where
  pub mentions_from_some : (v : ℕ) → at table v ≢ pos 0 → Mentions (marked table) v
  mentions_from_some v some = let h = positive_from_some (at table v) some in (at table v, marked_at table right v h, right v h)

  pub some_from_mentions : (v : ℕ) → Mentions (marked table) v → at table v ≢ pos 0
  some_from_mentions v (l, w, is) none =
      let s = stands_from_marked table right l w in
      let f : variable_of l ≡ 0 = ap variable_of (sym s.1 ∙ ap (at table) is ∙ none) in
      let p = s.0 in
      omega (arith, f, p)

  -- nothing stands at a variable that the clause is without
  pub none_from_without : (old : List ℤ) (v : ℕ) → IsWithout v old (marked table) → at table v ≡ pos 0
  none_from_without old v without = elim (none_or_positive (at table v)) [
    | inl e ↦ e
    | inr h ↦ absurd (((without (at table v)).0 (marked_at table right v h)).1 (right v h))
  ]

-- a literal is taken out
module _ (table : List ℤ) (right : AreAtVariables table) (v : ℕ) (some : at table v ≢ pos 0) where
  zero_here : at (set table v (pos 0)) v ≡ pos 0
  zero_here = get_or-set_same table v (pos 0) (pos 0) (within_from_some table v some)

  same_elsewhere : (u : ℕ) → u ≢ v → at (set table v (pos 0)) u ≡ at table u
  same_elsewhere u ne = get_or-set_other table v u (pos 0) (pos 0) ne

  pub out_right : AreAtVariables (set table v (pos 0))
  out_right = at_variables_after table (set table v (pos 0)) v same_elsewhere right (λ h. absurd (let f = ap variable_of zero_here in omega (arith, f, h)))

  pub out_touched : (touched : List ℕ) → AreTouched table touched → AreTouched (set table v (pos 0)) touched
  out_touched touched all = touched_after_zero table (set table v (pos 0)) v same_elsewhere touched zero_here all

  pub out_without : IsWithout v (marked table) (marked (set table v (pos 0)))
  out_without = without_from_zero table (set table v (pos 0)) v same_elsewhere right out_right zero_here

  pub out_count : count_by is_literal (set table v (pos 0)) + 1 ≡ count_by is_literal table
  out_count =
      let s : count_by is_literal (set table v (pos 0)) + cond (is_literal (at table v)) 1 0 ≡ count_by is_literal table + 0 = sum_by-set (λ x. cond (is_literal x) 1 0) table v (pos 0) (pos 0) (within_from_some table v some) in
      let e : ◌≡◌ {A = ℕ} (cond (is_literal (at table v)) 1 0) 1 = ap (λ b. cond {A = ℕ} b 1 0) (literal_from_positive (at table v) (positive_from_some (at table v) some)) in
      omega (arith, s, e)

-- a literal is put in
module _ (old table : List ℤ) (right : AreAtVariables old) (same : (u : ℕ) → at table u ≡ at old u) (v : ℕ) (literal : ℤ) (positive : 0 < variable_of literal) (is : v ≡ variable_of literal) where
  pub same_right : AreAtVariables table
  same_right u h = ap variable_of (same u) ∙ right u (subst (λ m. 0 < variable_of m) (same u) h)

  -- it is there already
  pub kept_with : at table v ≢ pos 0 → (Contains (marked old) (opposite literal) → ⊥) → IsWith literal (marked old) (marked table)
  kept_with some apart =
      let h : 0 < variable_of (at old v) = positive_from_some (at old v) (λ e. some (same v ∙ e)) in
      let here : at old v ≡ literal = elim (same_or_opposite literal (at old v) (sym is ∙ sym (right v h))) [
        | inl e ↦ sym e
        | inr e ↦ absurd (apart (subst (Contains (marked old)) e (marked_at old right v h)))
      ] in
      with_from_literal old table v (λ u ne. same u) right same_right literal positive (sym is) (same v ∙ here) (inr here)

  module _ (within : v < length table) where
    there : at (set table v literal) v ≡ literal
    there = get_or-set_same table v literal (pos 0) within

    elsewhere : (u : ℕ) → u ≢ v → at (set table v literal) u ≡ at old u
    elsewhere u ne = get_or-set_other table v u literal (pos 0) ne ∙ same u

    pub put_right : AreAtVariables (set table v literal)
    put_right = at_variables_after old (set table v literal) v elsewhere right (λ h. ap variable_of there ∙ sym is)

    pub put_touched : (touched : List ℕ) → AreTouched old touched → AreTouched (set table v literal) (touched ++ v ∷ [])
    put_touched touched all = touched_after_push old (set table v literal) v elsewhere touched all

    pub put_with : at table v ≡ pos 0 → IsWith literal (marked old) (marked (set table v literal))
    put_with none = with_from_literal old (set table v literal) v elsewhere right put_right literal positive (sym is) there (inl (sym (same v) ∙ none))

    pub put_count : at table v ≡ pos 0 → count_by is_literal (set table v literal) ≡ count_by is_literal table + 1
    put_count none =
        let s : count_by is_literal (set table v literal) + cond (is_literal (at table v)) 1 0 ≡ count_by is_literal table + cond (is_literal literal) 1 0 = sum_by-set (λ x. cond (is_literal x) 1 0) table v literal (pos 0) within in
        let e : ◌≡◌ {A = ℕ} (cond (is_literal (at table v)) 1 0) 0 = ap (λ m. cond {A = ℕ} (is_literal m) 1 0) none in
        let f : ◌≡◌ {A = ℕ} (cond (is_literal literal) 1 0) 1 = ap (λ b. cond {A = ℕ} b 1 0) (literal_from_positive literal positive) in
        omega (arith, s, e, f)

-- the last touched place is forgotten
pub touched_truncated : (table : List ℤ) (touched : List ℕ) (v n : ℕ) → n ≡ length touched → 0 < n → v ≡ get_or touched (n - 1) v → AreTouched table touched → at table v ≡ pos 0 → AreTouched table (take (n - 1) touched)
touched_truncated table touched v n long some read all nothing =
    let split : touched ≡ take (n - 1) touched ++ v ∷ [] = sym (take-length touched) ∙ ap (λ k. take k touched) (let e : length touched ≡ suc (n - 1) = omega (arith, long, some) in e) ∙ take-suc touched (n - 1) v (omega (arith, long, some)) ∙ ap (λ x. take (n - 1) touched ++ x ∷ []) (sym read) in
    touched_before_last table (take (n - 1) touched) v (subst (AreTouched table) split all) nothing

-- the variable of a literal is below the length of the table
pub marked_below : (table : List ℤ) → AreAtVariables table → (l : ℤ) → Contains (marked table) l → (0 < variable_of l) × (variable_of l < length table)
marked_below table right l w = let s = stands_from_marked table right l w in (s.0, within_table table l s)
