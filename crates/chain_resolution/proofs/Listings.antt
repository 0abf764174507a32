-- The literals of a table, as they are read at places that are in order.
use Rattle.std.proofs.Common.{◌≡◌, ◌≢◌, ◌⊎◌, inl, inr, ℕ, zero, suc, ℤ, pos, ◌<◌, ◌≤◌, ◌+◌, List, [], ◌∷◌, ◌++◌, length, slice_index, slice_index_or, refl, sym, ap, ◌∙◌, arith, subst}
use Rattle.std.specs.Prelude.{Contains, All}
use Rattle.std.specs.List.Sorted.{IsNonDecreasing}
use Rattle.std.proofs.lemmas.Bool.{cases_lt, cases_eq}
use Rattle.std.proofs.lemmas.List.Elements.{All-push, Contains-append_left, Contains-push, Contains-push_cases}
use Rattle.std.proofs.lemmas.List.Quantifiers.{all_pairs_push}
use Rattle.std.proofs.lemmas.List.{get_or_default}
use Rattle.clause_db.specs.Literal.{variable_of, IsOrdered}
use Rattle.chain_resolution.specs.Marked.{marked, AreAtVariables, AreTouched}
use Rattle.chain_resolution.proofs.Tables.{at, marked_at, stands_from_marked, marked_ordered}
use Rattle.chain_resolution.proofs.Lists.{ordered_same}

-- what has been read at the places before an index
pub record ReadTo (table : List ℤ) (places : List ℕ) (index last : ℕ) (literals : List ℤ) : Type 0 where
  pub ordered : IsOrdered literals
  pub below : All (λ l. variable_of l ≤ last) literals
  pub from_table : (l : ℤ) → Contains literals l → Contains (marked table) l
  pub all : (k : ℕ) → k < index → 0 < variable_of (at table (slice_index places k)) → Contains literals (at table (slice_index places k))
  pub reached : 0 < last → (k : ℕ) × (k < index) × (slice_index places k ≡ last) × (0 < variable_of (at table last))

pub read_to_nothing : (table : List ℤ) (places : List ℕ) → ReadTo table places 0 0 []
read_to_nothing table places = record {
  ordered = λ i j d a b. absurd (omega (arith, b));
  below = λ k d h. absurd (omega (arith, h));
  from_table = λ l w. absurd (let h = w.1 in omega (arith, h));
  all = λ k h. absurd (omega (arith, h));
  reached = λ h. absurd (omega (arith, h));
}

module _ (table : List ℤ) (right : AreAtVariables table) (places : List ℕ) (index last : ℕ) (literals : List ℤ) (read : ReadTo table places index last literals) where
  -- a place where nothing is to be added
  read_over : (0 < variable_of (at table (slice_index places index)) → Contains literals (at table (slice_index places index))) → ReadTo table places (index + 1) last literals
  read_over here = record {
    ordered = read.ordered;
    below = read.below;
    from_table = read.from_table;
    all = λ k h some. elim (cases_lt k index) [
      | inl g ↦ read.all k g some
      | inr g ↦ let e : k ≡ index = omega (arith, g, h) in subst (λ n. Contains literals (at table (slice_index places n))) (sym e) (here (subst (λ n. 0 < variable_of (at table (slice_index places n))) e some))
    ];
    reached = λ h. let w = read.reached h in (w.0, (let g = w.1 in omega (arith, g)), w.2, w.3);
  }

  -- a place that was read before
  pub read_again : IsNonDecreasing places → index < length places → slice_index places index ≤ last → ReadTo table places (index + 1) last literals
  read_again in_order within low = read_over (λ some. elim (cases_lt 0 last) [
    | inr none ↦ absurd (let is = right (slice_index places index) some in omega (arith, is, some, low, none))
    | inl h ↦
        let w = read.reached h in
        let up = in_order w.0 index 0 (let g = w.1 in omega (arith, g)) within in
        let same : slice_index places w.0 ≡ slice_index places index = let e = w.2 in omega (arith, up, e, low) in
        let old = read.all w.0 w.1 (subst (λ n. 0 < variable_of (at table n)) (sym w.2) w.3) in
        subst (λ n. Contains literals (at table n)) same old
  ])

  -- a place where nothing stands
  pub read_nothing : at table (slice_index places index) ≡ pos 0 → ReadTo table places (index + 1) last literals
  read_nothing none = read_over (λ some. absurd (let e = ap variable_of none in omega (arith, e, some)))

  -- one literal more
  pub read_literal : last < slice_index places index → 0 < variable_of (at table (slice_index places index)) → ReadTo table places (index + 1) (slice_index places index) (literals ++ at table (slice_index places index) ∷ [])
  read_literal above some =
      let place : ℕ = slice_index places index in
      let l : ℤ = at table place in
      let is : variable_of l ≡ place = right place some in
      record {
        ordered = all_pairs_push (λ m n. variable_of m < variable_of n) literals l read.ordered (λ k d h. let low = read.below k d h in omega (arith, low, is, above));
        below = All-push (λ m. variable_of m ≤ place) literals l (λ k d h. let low = read.below k d h in omega (arith, low, above)) (omega (arith, is));
        from_table = λ m w. elim (Contains-push_cases literals l m w) [ inl v ↦ read.from_table m v | inr e ↦ subst (Contains (marked table)) e (marked_at table right place some) ];
        all = λ k h there. elim (cases_lt k index) [
          | inl g ↦ Contains-append_left literals (l ∷ []) _ (read.all k g there)
          | inr g ↦ let e : k ≡ index = omega (arith, g, h) in subst (λ n. Contains (literals ++ l ∷ []) (at table (slice_index places n))) (sym e) (Contains-push literals l)
        ];
        reached = λ h. (index, omega arith, refl, some);
      }

-- a number stands in a list, or at none of its places
contains_or_not : (xs : List ℕ) (v : ℕ) → Contains xs v ⊎ ((k : ℕ) → k < length xs → slice_index xs k ≢ v)
contains_or_not [] v = inr (λ k h. absurd (omega (arith, h)))
contains_or_not (x ∷ xs) v = elim (cases_eq x v) [
  | inl e ↦ inl (0, omega arith, e)
  | inr ne ↦ elim (contains_or_not xs v) [
    | inl w ↦ inl (suc w.0, (let h = w.1 in omega (arith, h)), w.2)
    | inr none ↦ inr (not_there x xs v ne none)
  ]
] where
  not_there : (x : ℕ) (xs : List ℕ) (v : ℕ) → x ≢ v → ((k : ℕ) → k < length xs → slice_index xs k ≢ v) → (k : ℕ) → k < length (x ∷ xs) → slice_index (x ∷ xs) k ≢ v
  not_there x xs v ne none zero h = ne
  not_there x xs v ne none (suc k) h = none k (omega (arith, h))

-- what was read at all touched places is the clause
pub read_all : (table : List ℤ) → AreAtVariables table → (touched : List ℕ) → AreTouched table touched → (places : List ℕ) → ((v : ℕ) → Contains touched v → Contains places v) → (literals : List ℤ) → IsOrdered literals → ((l : ℤ) → Contains literals l → Contains (marked table) l) → ((k : ℕ) → k < length places → 0 < variable_of (at table (slice_index places k)) → Contains literals (at table (slice_index places k))) → literals ≡ marked table
read_all table right touched all_touched places moved literals ordered from all =
    ordered_same literals (marked table) ordered (marked_ordered table right) from (λ l w.
    let s = stands_from_marked table right l w in
    elim (contains_or_not touched (variable_of l)) [
      | inr none ↦ absurd (let f : variable_of l ≡ 0 = ap variable_of (sym s.1 ∙ all_touched (variable_of l) none) in let p = s.0 in omega (arith, f, p))
      | inl t ↦
          let v = moved (variable_of l) t in
          let is : slice_index places v.0 ≡ variable_of l = at_zero places v.0 (variable_of l) v.1 v.2 in
          let read : at table (slice_index places v.0) ≡ l = ap (at table) is ∙ s.1 in
          subst (Contains literals) read (all v.0 v.1 (subst (λ m. 0 < variable_of m) (sym read) s.0))
    ])
  where
    at_zero : (xs : List ℕ) (k v : ℕ) → k < length xs → slice_index_or xs k v ≡ v → slice_index xs k ≡ v
    at_zero xs k v h e = get_or_default xs k 0 v h ∙ e
