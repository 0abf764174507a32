-- Elements of lists and flags.
use Rattle.std.proofs.Common.{◌≡◌, ◌⊎◌, ◌↔◌, inl, inr, ℕ, zero, suc, ◌+◌, ◌<◌, Bool, true, false, not, cond, List, [], ◌∷◌, ◌++◌, length, map, Vec, Option, Some, get_or, set, take, drop, append_assoc, length-append, refl, sym, ap, ◌∙◌, arith, subst}
use Rattle.std.specs.Prelude.{slice_index_or, nat_eq, ◌||◌}
use Rattle.std.proofs.lemmas.Bool.Decides.{nat_tests}
use Rattle.std.specs.Global.{Global}
use Rattle.call_graph.specs.Graphs.{At}
use Rattle.core_ir.proofs.Nodes.{among_left, among_right, among_either}
use Rattle.core_ir.specs.Calls.{Among}
use Rattle.core_ir.specs.Cells.{has}
use Rattle.rvt_num.specs.declared.values.Trap.{Trap}
use Rattle.rvt_num.specs.declared.values.Trap.TheVariants.{Divide, Quotient, Shift, Index, Null, Range, Place, NoReturn}
use Rattle.touch_sets.specs.Bodies.{any_held, has_trap}
use Rattle.touch_sets.specs.Touching.{trap_number, trap_with, flag, flag_rows}

pub nat_same : (a b : ℕ) → nat_eq a b ≡ true → a ≡ b
nat_same a b h = grind (arith, nat_tests)

pub nat_is : (a : ℕ) → nat_eq a a ≡ true
nat_is a = grind (arith, nat_tests)

pub decided : (a b : ℕ) → (a ≡ b) ⊎ (a ≡ b → ⊥)
decided zero zero = inl refl
decided zero (suc b) = inr (λ e. omega arith)
decided (suc a) zero = inr (λ e. omega arith)
decided (suc a) (suc b) = elim (decided a b) [ inl e ↦ inl (ap suc e) | inr d ↦ inr (λ e. d (omega arith)) ]

pub earlier_or_last : (a b : ℕ) → a < b + 1 → (a < b) ⊎ (a ≡ b)
earlier_or_last a b h = grind arith

pub false_true : {A : Type 0} → false ≡ true → A
false_true e = absurd (apart e)
  where
    apart : false ≡ true → ⊥
    apart = λ e. cc

pub take_more : {X : Type 0} (xs : List X) (k : ℕ) (x : X) → At xs k x → take (suc k) xs ≡ take k xs ++ x ∷ []
take_more [] k x h = absurd (cc)
take_more (y ∷ xs) zero x h = first h
  where
    first : Option.Some y ≡ Option.Some x → y ∷ take zero xs ≡ x ∷ []
    first = λ e. cc
take_more (y ∷ xs) (suc k) x h = ap (λ ys. y ∷ ys) (take_more xs k x h)

-- one of the first elements, with one more
pub among_more : {X : Type 0} (xs : List X) (k : ℕ) (x y : X) → At xs k y → Among x (take (k + 1) xs) ↔ (Among x (take k xs) ⊎ (x ≡ y))
among_more xs k x y h = (
  λ a. elim (among_either x (take k xs) (y ∷ []) (subst (Among x) more a)) [ inl l ↦ inl l | inr r ↦ elim r [ inl e ↦ inr e | inr n ↦ absurd n ] ],
  λ s. subst (Among x) (sym more) (elim s [ inl l ↦ among_left x (take k xs) (y ∷ []) l | inr e ↦ among_right x (take k xs) (y ∷ []) (inl e) ]),
)
  where
    next : k + 1 ≡ suc k
    next = omega arith

    more : take (k + 1) xs ≡ take k xs ++ y ∷ []
    more = ap (λ n. take n xs) next ∙ take_more xs k y h

pub map_at : {X Y : Type 0} (f : X → Y) (xs : List X) (k : ℕ) (y : Y) → At (map f xs) k y → (x : X) × At xs k x × (f x ≡ y)
map_at f [] k y h = absurd (cc)
map_at f (x ∷ xs) zero y h = (x, refl, cc)
map_at f (x ∷ xs) (suc k) y h = map_at f xs k y h

pub at_map : {X Y : Type 0} (f : X → Y) (xs : List X) (k : ℕ) (x : X) → At xs k x → At (map f xs) k (f x)
at_map f [] k x h = absurd (cc)
at_map f (y ∷ xs) zero x h = cc
at_map f (y ∷ xs) (suc k) x h = at_map f xs k x h

pub at_read : {X : Type 0} (xs : List X) (k : ℕ) (d : X) → k < length xs → At xs k (get_or xs k d)
at_read [] k d h = absurd (omega (arith, h))
at_read (x ∷ xs) zero d h = refl
at_read (x ∷ xs) (suc k) d h = at_read xs k d (omega (arith, h))

pub read_at : {X : Type 0} (xs : List X) (k : ℕ) (d x : X) → At xs k x → get_or xs k d ≡ x
read_at [] k d x h = absurd (cc)
read_at (y ∷ xs) zero d x h = cc
read_at (y ∷ xs) (suc k) d x h = read_at xs k d x h

-- a flag that is read stands there
pub flag_read : (flags : List Bool) (k : ℕ) → (slice_index_or flags k false ≡ true) ↔ At flags k true
flag_read [] k = (λ e. false_true e, λ h. absurd (cc))
flag_read (b ∷ flags) zero = (λ e. ap Some e, λ h. cc)
flag_read (b ∷ flags) (suc k) = flag_read flags k

pub among_at : {X : Type 0} (xs : List X) (x : X) → Among x xs → (k : ℕ) × At xs k x
among_at [] x h = absurd h
among_at (y ∷ xs) x (inl e) = (0, ap Some (sym e))
among_at (y ∷ xs) x (inr t) = let r = among_at xs x t in (suc r.0, r.1)

-- a list that is mapped so far, with one element more
pub drop_more : {X : Type 0} (xs : List X) (k : ℕ) (x : X) → At xs k x → drop k xs ≡ x ∷ drop (k + 1) xs
drop_more xs k x h = by_place xs k h ∙ ap (λ n. x ∷ drop n xs) (sym next)
  where
    next : k + 1 ≡ suc k
    next = omega arith

    by_place : (xs : List _) (k : ℕ) → At xs k x → drop k xs ≡ x ∷ drop (suc k) xs
    by_place [] k h = absurd (cc)
    by_place (y ∷ xs) zero h = first h
      where
        first : Option.Some y ≡ Option.Some x → y ∷ xs ≡ x ∷ xs
        first = λ e. cc
    by_place (y ∷ xs) (suc k) h = by_place xs k h

map_more : {X Y : Type 0} (f : X → Y) (xs : List X) (x : X) → map f (xs ++ x ∷ []) ≡ map f xs ++ f x ∷ []
map_more f [] x = refl
map_more f (y ∷ xs) x = ap (λ ys. f y ∷ ys) (map_more f xs x)

pub pushed_map : {X Y Z : Type 0} (f : X → Z) (g : Y → Z) (xs : List X) (x : X) (ys : List Y) (i : ℕ) (y : Y) → map f xs ++ map g (drop i ys) ≡ map g ys → At ys i y → f x ≡ g y → map f (xs ++ x ∷ []) ++ map g (drop (i + 1) ys) ≡ map g ys
pushed_map f g xs x ys i y e at same =
    ap (λ l. l ++ map g (drop (i + 1) ys)) (map_more f xs x)
    ∙ append_assoc (map f xs) (f x ∷ []) (map g (drop (i + 1) ys))
    ∙ ap (λ z. map f xs ++ z ∷ map g (drop (i + 1) ys)) same
    ∙ ap (λ l. map f xs ++ map g l) (sym (drop_more ys i y at))
    ∙ e

-- ---- rows of flags

pub row_kept : (table : List (List Bool)) (row : List Bool) (k u : ℕ) → k < length table → flag (table ++ row ∷ []) k u ≡ flag table k u
row_kept [] row k u h = absurd (omega arith)
row_kept (r ∷ table) row zero u h = refl
row_kept (r ∷ table) row (suc k) u h = row_kept table row k u (omega arith)

pub row_new : (table : List (List Bool)) (row : List Bool) (k u : ℕ) → k ≡ length table → flag (table ++ row ∷ []) k u ≡ slice_index_or row u false
row_new [] row zero u h = refl
row_new [] row (suc k) u h = absurd (omega arith)
row_new (r ∷ table) row zero u h = absurd (omega arith)
row_new (r ∷ table) row (suc k) u h = row_new table row k u (omega arith)

pub row_within : (table : List (List Bool)) (k u : ℕ) → flag table k u ≡ true → k < length table
row_within [] k u h = false_true h
row_within (r ∷ table) zero u h = omega arith
row_within (r ∷ table) (suc k) u h = let l = row_within table k u h in omega (arith, l)

pub flag_rows_more : (vectors : List (Vec Bool Global)) (row : Vec Bool Global) → flag_rows (vectors ++ row ∷ []) ≡ flag_rows vectors ++ row.items ∷ []
flag_rows_more [] row = refl
flag_rows_more (v ∷ vectors) row = ap (λ xs. v.items ∷ xs) (flag_rows_more vectors row)

-- a row more, where P holds of the rows' numbers
pub row_pushed : (table : List (List Bool)) (row : List Bool) (i u k : ℕ) (P : ℕ → Type 0) → length table ≡ i → (flag table k u ≡ true) ↔ ((k < i) × P k) → At row u true ↔ P i → (flag (table ++ row ∷ []) k u ≡ true) ↔ ((k < i + 1) × P k)
row_pushed table row i u k P size before new = (there, back)
  where
    long : length (table ++ row ∷ []) ≡ length table + 1
    long = length-append table (row ∷ [])

    place : k < i + 1 → (k < length table) ⊎ (k ≡ length table)
    place h = elim (earlier_or_last k i h) [ inl l ↦ inl (omega (arith, l, size)) | inr e ↦ inr (omega (arith, e, size)) ]

    there : flag (table ++ row ∷ []) k u ≡ true → (k < i + 1) × P k
    there h = let lt = row_within (table ++ row ∷ []) k u h in at (place (omega (arith, lt, long, size)))
      where
        at : (k < length table) ⊎ (k ≡ length table) → (k < i + 1) × P k
        at (inl l) = let r = before.0 (sym (row_kept table row k u l) ∙ h) in (omega (arith, l, size), r.1)
        at (inr e) = (omega (arith, e, size), subst P (sym (e ∙ size)) (new.0 ((flag_read row u).0 (sym (row_new table row k u e) ∙ h))))

    back : (k < i + 1) × P k → flag (table ++ row ∷ []) k u ≡ true
    back h = elim (place h.0) [
      | inl l ↦ row_kept table row k u l ∙ before.1 (omega (arith, l, size), h.1)
      | inr e ↦ row_new table row k u e ∙ (flag_read row u).1 (new.1 (subst P (e ∙ size) h.1))
    ]

-- a flag is put up
pub flag_set : (flags : List Bool) (p t : ℕ) → p < length flags → (get_or (set flags p true) t false ≡ true) ↔ ((get_or flags t false ≡ true) ⊎ (t ≡ p))
flag_set [] p t h = absurd (omega arith)
flag_set (b ∷ flags) zero zero h = (λ e. inr refl, λ s. refl)
flag_set (b ∷ flags) zero (suc t) h = (λ e. inl e, λ s. elim s [ inl e ↦ e | inr e ↦ absurd (omega (arith, e)) ])
flag_set (b ∷ flags) (suc p) zero h = (λ e. inl e, λ s. elim s [ inl e ↦ e | inr e ↦ absurd (omega (arith, e)) ])
flag_set (b ∷ flags) (suc p) (suc t) h =
    let r = flag_set flags p t (omega (arith, h)) in
    (λ e. elim (r.0 e) [ inl k ↦ inl k | inr k ↦ inr (ap suc k) ], λ s. r.1 (elim s [ inl k ↦ inl k | inr k ↦ inr (omega (arith, k)) ]))

-- the types of the first values, with one value more
pub start_held : (A B C : Type 0) (starts : List (ℕ × ℕ)) (i type : ℕ) (s : ℕ × ℕ) → At starts i s → B ↔ (A ⊎ ((cell : ℕ) × Among (type, cell) (take i starts))) → C ↔ (B ⊎ (type ≡ s.0)) → C ↔ (A ⊎ ((cell : ℕ) × Among (type, cell) (take (i + 1) starts)))
start_held A B C starts i type s at before step = (
  λ c. elim (step.0 c) [
    | inl b ↦ elim (before.0 b) [ inl a ↦ inl a | inr w ↦ inr (w.0, (among_more starts i (type, w.0) s at).1 (inl w.1)) ]
    | inr e ↦ inr (s.1, (among_more starts i (type, s.1) s at).1 (inr (ap (λ t. (t, s.1)) e)))
  ],
  λ h. elim h [
    | inl a ↦ step.1 (inl (before.1 (inl a)))
    | inr w ↦ elim ((among_more starts i (type, w.0) s at).0 w.1) [
      | inl earlier ↦ step.1 (inl (before.1 (inr (w.0, earlier))))
      | inr same ↦ step.1 (inr (ap (λ (p : ℕ × ℕ). p.0) same))
    ]
  ],
)

-- ---- tests

pub not_true : (b : Bool) → not b ≡ true → b ≡ false
not_true true h = false_true h
not_true false h = refl

pub or_true : (a b : Bool) → (a || b) ≡ true → (a ≡ true) ⊎ (b ≡ true)
or_true true b h = inl refl
or_true false b h = inr h

pub true_left : (a b : Bool) → a ≡ true → (a || b) ≡ true
true_left true b h = refl
true_left false b h = false_true h

pub true_right : (a b : Bool) → b ≡ true → (a || b) ≡ true
true_right true b h = refl
true_right false b h = h

either_test : {A B : Type 0} (b c : Bool) → (b ≡ true → A) → (c ≡ true → B) → cond b true c ≡ true → A ⊎ B
either_test true c f g h = inl (f refl)
either_test false c f g h = inr (g h)

test_first : (b c : Bool) → b ≡ true → cond b true c ≡ true
test_first true c h = refl
test_first false c h = false_true h

test_later : (b c : Bool) → c ≡ true → cond b true c ≡ true
test_later true c h = refl
test_later false c h = h

pub has_among : (x : ℕ) (xs : List ℕ) → has x xs ≡ true → Among x xs
has_among x [] h = false_true h
has_among x (y ∷ xs) h = either_test (nat_eq x y) (has x xs) (nat_same x y) (has_among x xs) h

pub among_has : (x : ℕ) (xs : List ℕ) → Among x xs → has x xs ≡ true
among_has x [] h = absurd h
among_has x (y ∷ xs) (inl e) = test_first (nat_eq x y) (has x xs) (subst (λ z. nat_eq x z ≡ true) e (nat_is x))
among_has x (y ∷ xs) (inr t) = test_later (nat_eq x y) (has x xs) (among_has x xs t)

-- a type of the list that is flagged
abbrev pub IsHeld : List Bool → List ℕ → Type 0
IsHeld held types = (type : ℕ) × Among type types × (slice_index_or held type false ≡ true)

pub any_among : (held : List Bool) (types : List ℕ) → any_held held types ≡ true → IsHeld held types
any_among held [] h = false_true h
any_among held (t ∷ types) h = elim (either_test (slice_index_or held t false) (any_held held types) (λ e. e) (any_among held types) h) [ inl e ↦ (t, inl refl, e) | inr r ↦ (r.0, inr r.1, r.2) ]

pub among_any : (held : List Bool) (types : List ℕ) (type : ℕ) → Among type types → slice_index_or held type false ≡ true → any_held held types ≡ true
among_any held [] type h e = absurd h
among_any held (t ∷ types) type (inl same) e = test_first (slice_index_or held t false) (any_held held types) (subst (λ z. slice_index_or held z false ≡ true) same e)
among_any held (t ∷ types) type (inr more) e = test_later (slice_index_or held t false) (any_held held types) (among_any held types type more e)

-- ---- traps by number

pub trap_back : (t : Trap) → trap_with (trap_number t) ≡ t
trap_back Divide = refl
trap_back Quotient = refl
trap_back Shift = refl
trap_back Index = refl
trap_back Null = refl
trap_back Range = refl
trap_back Place = refl
trap_back NoReturn = refl

pub trap_below : (t : Trap) → trap_number t < 8
trap_below Divide = omega arith
trap_below Quotient = omega arith
trap_below Shift = omega arith
trap_below Index = omega arith
trap_below Null = omega arith
trap_below Range = omega arith
trap_below Place = omega arith
trap_below NoReturn = omega arith

pub same_trap : (s t : Trap) → trap_number s ≡ trap_number t → s ≡ t
same_trap s t e = sym (trap_back s) ∙ (ap trap_with e ∙ trap_back t)

pub trap_among : (t : Trap) (traps : List Trap) → has_trap t traps ≡ true → Among t traps
trap_among t [] h = false_true h
trap_among t (s ∷ traps) h = either_test (nat_eq (trap_number s) (trap_number t)) (has_trap t traps) (λ e. same_trap t s (sym (nat_same (trap_number s) (trap_number t) e))) (trap_among t traps) h

pub among_trap : (t : Trap) (traps : List Trap) → Among t traps → has_trap t traps ≡ true
among_trap t [] h = absurd h
among_trap t (s ∷ traps) (inl e) = test_first (nat_eq (trap_number s) (trap_number t)) (has_trap t traps) (subst (λ x. nat_eq (trap_number x) (trap_number t) ≡ true) e (nat_is (trap_number t)))
among_trap t (s ∷ traps) (inr more) = test_later (nat_eq (trap_number s) (trap_number t)) (has_trap t traps) (among_trap t traps more)
