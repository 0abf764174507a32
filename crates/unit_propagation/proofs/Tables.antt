-- Lists in a table, to which entries come and from which they go.
use Rattle.std.proofs.Common.{◌≡◌, ◌≢◌, inl, inr, ℕ, ℤ, pos, negsuc, ◌<◌, ◌≤◌, ◌+◌, ◌-◌, ◌*◌, List, [], ◌∷◌, ◌++◌, length, slice_index, slice_index_or, slice_set, set, take, sym, ap, ◌∙◌, arith, subst, length-append, swap_remove, Vec}
use Rattle.std.specs.Global.{Global}
use Rattle.std.specs.Prelude.{Contains}
use Rattle.std.proofs.Math.ListN.{length-set}
use Rattle.std.proofs.Math.Seq.{get_or-append_seam}
use Rattle.std.proofs.lemmas.Bool.{cases_lt, cases_eq}
use Rattle.std.proofs.lemmas.List.{get_or-set_other, get_or-set_same, get_or-take, length-take-le, get_or_default, get_or_append_left, map-set, get_or-map, length-map}
use Rattle.clause_db.specs.declared.clause.Clause.{Clause}
use Rattle.clause_db.specs.Literal.{variable_of}
use Rattle.clause_db.specs.Log.{literal_lists}
use Rattle.unit_propagation.specs.Watching.{code_of, entries, watching}
use Rattle.unit_propagation.specs.Visiting.{IsLeft}

-- one literal has one code
pub code_same : (l m : ℤ) → code_of l ≡ code_of m → l ≡ m
code_same (pos n) (pos m) e = ap pos (let same : n ≡ m = omega (arith, e) in same)
code_same (pos n) (negsuc m) e = absurd (omega (arith, e))
code_same (negsuc n) (pos m) e = absurd (omega (arith, e))
code_same (negsuc n) (negsuc m) e = ap negsuc (let same : n ≡ m = omega (arith, e) in same)

pub code_within : (l : ℤ) (n : ℕ) → variable_of l < n → code_of l < 2 * n
code_within (pos m) n h = omega arith
code_within (negsuc m) n h = omega arith

pub entries_length : (lists : List (Vec ℕ Global)) → length (entries lists) ≡ length lists
entries_length lists = length-map lists (λ x. x.items)

-- the list of a code, in a table of vectors
pub entries_at : (lists : List (Vec ℕ Global)) (c : ℕ) (v : Vec ℕ Global) → c < length lists → v ≡ slice_index_or lists c v → slice_index_or (entries lists) c [] ≡ v.items
entries_at lists c v h is = get_or-map (λ x. x.items) lists c v [] h ∙ ap (λ x. x.items) (sym is)

pub entries_set : (lists : List (Vec ℕ Global)) (c : ℕ) (v : Vec ℕ Global) → entries (slice_set lists c v) ≡ slice_set (entries lists) c v.items
entries_set lists c v = map-set (λ x. x.items) lists c v

pub swap_remove_default : (xs : List ℕ) (i a b : ℕ) → i < length xs → swap_remove xs i a ≡ swap_remove xs i b
swap_remove_default xs i a b h =
    let last : length xs - 1 < length xs = omega arith in
    ap (λ x. take (length xs - 1) (slice_set xs i x)) (get_or_default xs (length xs - 1) a b last)

-- what is in a list is left from its start on
pub left_from_contains : (xs : List ℕ) (j : ℕ) → Contains xs j → IsLeft xs 0 j
left_from_contains xs j w = (w.0, omega arith, w.1, get_or_default xs w.0 0 j w.1 ∙ w.2)

pub contains_from_left : (xs : List ℕ) («from» j : ℕ) → IsLeft xs «from» j → Contains xs j
contains_from_left xs start j w = (w.0, w.2, get_or_default xs w.0 j 0 w.2 ∙ w.3)

pub length-swap_remove : (xs : List ℕ) (i d : ℕ) → i < length xs → length (swap_remove xs i d) + 1 ≡ length xs
length-swap_remove xs i d h =
    let long = length-set xs i (slice_index_or xs (length xs - 1) d) in
    let short = length-take-le (length xs - 1) (set xs i (slice_index_or xs (length xs - 1) d)) (omega (arith, long)) in
    omega (arith, short)

-- where one entry is taken out, another one is left
pub left_swap : (xs : List ℕ) (i k b j : ℕ) → i < length xs → slice_index xs i ≡ k → j ≢ k → b ≤ i → IsLeft xs b j → IsLeft (swap_remove xs i 0) b j
left_swap xs i k b j h is differ low (e, from_here, within, has) =
    let short = length-swap_remove xs i 0 h in
    let apart : e ≢ i = λ f. differ (sym has ∙ ap (slice_index xs) f ∙ is) in
    elim (cases_lt e (length xs - 1)) [
      | inl k ↦ (e, from_here, omega (arith, short), get_or-take (length xs - 1) (set xs i (slice_index_or xs (length xs - 1) 0)) e 0 k ∙ get_or-set_other xs i e (slice_index_or xs (length xs - 1) 0) 0 apart ∙ has)
      | inr k ↦
          let at_end : e ≡ length xs - 1 = omega arith in
          let before : i < length xs - 1 = omega (arith, apart) in
          (i, low, omega (arith, short), get_or-take (length xs - 1) (set xs i (slice_index_or xs (length xs - 1) 0)) i 0 before ∙ get_or-set_same xs i (slice_index_or xs (length xs - 1) 0) 0 h ∙ ap (slice_index xs) (sym at_end) ∙ has)
    ]

pub contains_swap : (xs : List ℕ) (i k j : ℕ) → i < length xs → slice_index xs i ≡ k → j ≢ k → Contains xs j → Contains (swap_remove xs i 0) j
contains_swap xs i k j h is differ w =
    contains_from_left (swap_remove xs i 0) 0 j (left_swap xs i k 0 j h is differ (omega arith) (left_from_contains xs j w))

pub contains_push_old : (xs : List ℕ) (k j : ℕ) → Contains xs j → Contains (xs ++ k ∷ []) j
contains_push_old xs k j w = (w.0, simp length-append (omega (arith, w.1)), get_or_append_left xs (k ∷ []) j w.0 w.1 ∙ w.2)

pub contains_push_new : (xs : List ℕ) (k : ℕ) → Contains (xs ++ k ∷ []) k
contains_push_new xs k = (length xs, simp length-append (omega arith), get_or-append_seam xs k [] k)

-- each list that has the clause has it still
abbrev pub Keeps : List (List ℕ) → List (List ℕ) → ℕ → Type 0
Keeps old new index = (l : ℤ) → Contains (watching old l) index → Contains (watching new l) index

module _ (lists : List (List ℕ)) (c : ℕ) (within : c < length lists) where
  pub watching_same : (l : ℤ) (xs : List ℕ) → code_of l ≡ c → watching (slice_set lists c xs) l ≡ xs
  watching_same l xs e = ap (λ k. slice_index_or (slice_set lists c xs) k []) e ∙ get_or-set_same lists c xs [] within

  pub watching_other : (l : ℤ) (xs : List ℕ) → code_of l ≢ c → watching (slice_set lists c xs) l ≡ watching lists l
  watching_other l xs ne = get_or-set_other lists c (code_of l) xs [] ne

  pub enter_keeps : (k j : ℕ) → Keeps lists (slice_set lists c (slice_index_or lists c [] ++ k ∷ [])) j
  enter_keeps k j l w = elim (cases_eq (code_of l) c) [
    | inl e ↦ subst (λ xs. Contains xs j) (sym (watching_same l (slice_index_or lists c [] ++ k ∷ []) e)) (contains_push_old (slice_index_or lists c []) k j (subst (λ n. Contains (slice_index_or lists n []) j) e w))
    | inr ne ↦ subst (λ xs. Contains xs j) (sym (watching_other l (slice_index_or lists c [] ++ k ∷ []) ne)) w
  ]

  pub enter_has : (l : ℤ) (k : ℕ) → code_of l ≡ c → Contains (watching (slice_set lists c (slice_index_or lists c [] ++ k ∷ [])) l) k
  enter_has l k e = subst (λ xs. Contains xs k) (sym (watching_same l (slice_index_or lists c [] ++ k ∷ []) e)) (contains_push_new (slice_index_or lists c []) k)

  pub leave_keeps : (i k j : ℕ) → i < length (slice_index_or lists c []) → slice_index (slice_index_or lists c []) i ≡ k → j ≢ k → Keeps lists (slice_set lists c (swap_remove (slice_index_or lists c []) i 0)) j
  leave_keeps i k j h is differ l w = elim (cases_eq (code_of l) c) [
    | inl e ↦ subst (λ xs. Contains xs j) (sym (watching_same l (swap_remove (slice_index_or lists c []) i 0) e)) (contains_swap (slice_index_or lists c []) i k j h is differ (subst (λ n. Contains (slice_index_or lists n []) j) e w))
    | inr ne ↦ subst (λ xs. Contains xs j) (sym (watching_other l (swap_remove (slice_index_or lists c []) i 0) ne)) w
  ]

pub literal_lists_length : (clauses : List Clause) → length (literal_lists clauses) ≡ length clauses
literal_lists_length clauses = length-map clauses (λ c. c.literals.items)
