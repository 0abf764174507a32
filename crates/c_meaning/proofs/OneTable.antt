-- Two programs that stand over one table read and write its objects alike.
use Rattle.std.proofs.Common.{◌≡◌, ℕ, zero, suc, ◌+◌, List, [], ◌∷◌, ◌++◌, length, get_or, set, take, drop, map, slice_get, Bool, true, false, if◌then◌else◌, Option, Some, None, option_map, Ok, Err, refl, sym, ap, ap₂, ◌∙◌, ℤ, pos, ◌+ℤ◌}
use mathlib.Core.Path.{fun_ext}
use Rattle.rvt_num.specs.declared.kinds.Kind.{Kind}
use Rattle.rvt_num.specs.declared.values.Trap.TheVariants as T
use Rattle.rvt_num.specs.declared.values.Value.{Value}
use Rattle.rvt_num.specs.declared.values.Value.TheVariants.{Num, Null, At}
use Rattle.rvt_tree.specs.declared.expressions.Variable.{Variable}
use Rattle.rvt_tree.specs.declared.expressions.Variable.TheVariants as V
use Rattle.rvt_tree.specs.declared.types.CType.{CType}
use Rattle.rvt_tree.specs.declared.types.CType.TheVariants as C
use Rattle.rvt_tree.specs.declared.types.Pointee.{Pointee}
use Rattle.rvt_tree.specs.declared.pairings.Pairing.{Pairing}
use Rattle.rvt_tree.specs.declared.programs.Program.{Program}
use Rattle.rvt_tree.specs.declared.programs.Object.{Object}
use Rattle.rvt_tree.specs.Same.{ArePaired, SamePointee, SameVariable}
use Rattle.c_types.specs.Layout.{Plan, Shape, AnArray, AStruct, repeated, is_whole, plan_with, plan_of, shape_of}
use Rattle.c_meaning.specs.Outcomes.{State, Done}
use Rattle.c_meaning.specs.Stores.{Location, stored, first_cell, objects_of, cells_in, object_cells, with_cells_in, overwritten, with_object, cells_of, locals_with, store_with, with_cells, length_of, within, moved, plan_of_object, begins_in_plan, target, cleared}
use Rattle.c_meaning.specs.Expressions.{looked_up}
use Rattle.c_meaning.specs.Statements.{put, put_cells, cleared_cells}
use Rattle.c_meaning.specs.Runs.{zero_cells, is_owner, for_owned, opened, closed}
use Rattle.c_meaning.specs.Outcomes.{Normally}
use Rattle.c_meaning.specs.Twins.{SameType, SameObject, SameObjects, StandOverOneTable}

-- ---- cells of types

repeated_cells : (n : ℕ) (plan plan' : Plan) → plan.cells ≡ plan'.cells → (repeated n plan).cells ≡ (repeated n plan').cells
repeated_cells zero plan plan' e = refl
repeated_cells (suc n) plan plan' e = ap₂ (λ a b. a ++ b) e (repeated_cells n plan plan' e)

abbrev cells_in_plan : Option Plan → Option (List (Option Kind))
cells_in_plan = option_map (λ plan. plan.cells)

some_cells : (a b : List (Option Kind)) → ◌≡◌ {A = Option (List (Option Kind))} (Some a) (Some b) → a ≡ b
some_cells a b e = cc

array_cells : (r r' : Option Plan) (shape shape' : Shape) (n m : ℕ) → n ≡ m → cells_in_plan r ≡ cells_in_plan r' →
    cells_in_plan (option_map (λ plan. is_whole shape (repeated n plan)) r) ≡ cells_in_plan (option_map (λ plan. is_whole shape' (repeated m plan)) r')
array_cells None None shape shape' n m l e = refl
array_cells None (Some plan') shape shape' n m l e = cc
array_cells (Some plan) None shape shape' n m l e = cc
array_cells (Some plan) (Some plan') shape shape' n m l e =
    ap Some (repeated_cells n plan plan' (some_cells plan.cells plan'.cells e) ∙ ap (λ k. (repeated k plan').cells) l)

whole_cells : (r : Option Plan) (shape : Shape) → cells_in_plan (option_map (is_whole shape) r) ≡ cells_in_plan r
whole_cells None shape = refl
whole_cells (Some plan) shape = refl

-- types that are the same have the same cells, if structs that are paired have
type_cells : (pairing : Pairing) (known known' : ℕ → Option Plan) → ((a b : ℕ) → ArePaired pairing.structs a b → cells_in_plan (known a) ≡ cells_in_plan (known' b)) →
    (a b : CType) → SameType pairing a b → cells_in_plan (plan_with known a) ≡ cells_in_plan (plan_with known' b)
type_cells pairing known known' h (C.Word a) (C.Word b) e = ap (λ kind. Some (Some kind ∷ [])) e
type_cells pairing known known' h (C.Word a) _ e = absurd e
type_cells pairing known known' h (C.Pointer a to_constant) (C.Pointer b to_constant') e = refl
type_cells pairing known known' h (C.Pointer a to_constant) _ e = absurd e
type_cells pairing known known' h (C.Array' p a n) (C.Array' q b m) e =
    array_cells (plan_with known a) (plan_with known' b) (AnArray (shape_of a) n) (AnArray (shape_of b) m) n m e.1 (type_cells pairing known known' h a b e.0)
type_cells pairing known known' h (C.Array' p a n) _ e = absurd e
type_cells pairing known known' h (C.Struct a) (C.Struct b) e = whole_cells (known a) (AStruct a) ∙ h a b e ∙ sym (whole_cells (known' b) (AStruct b))
type_cells pairing known known' h (C.Struct a) _ e = absurd e

zeros_of : (r r' : Option Plan) → cells_in_plan r ≡ cells_in_plan r' → zero_cells r ≡ zero_cells r'
zeros_of None None e = refl
zeros_of None (Some plan') e = cc
zeros_of (Some plan) None e = cc
zeros_of (Some plan) (Some plan') e = ap (map _) (some_cells plan.cells plan'.cells e)

-- ---- objects

chosen : {A : Type 0} (c c' : Bool) (m m' n n' : A) → c ≡ c' → (c ≡ true → m ≡ m') → n ≡ n' → (if c then m else n) ≡ (if c' then m' else n')
chosen true true m m' n n' e h k = h refl
chosen true false m m' n n' e h k = cc
chosen false true m m' n n' e h k = cc
chosen false false m m' n n' e h k = k

module _ (pairing : Pairing) (program program' : Program) where
  -- what stands under one number in the two tables
  abbrev SameEntry : Option Object → Option Object → Type 0
  SameEntry None None = Unit {0}
  SameEntry (Some a) (Some b) = SameObject pairing program program' a b
  SameEntry _ _ = ⊥

  entry_at : (objects objects' : List Object) → SameObjects pairing program program' objects objects' → (number : ℕ) → SameEntry (slice_get objects number) (slice_get objects' number)
  entry_at [] [] h number = tt
  entry_at [] (b ∷ objects') h number = absurd h
  entry_at (a ∷ objects) [] h number = absurd h
  entry_at (a ∷ objects) (b ∷ objects') h zero = h.0
  entry_at (a ∷ objects) (b ∷ objects') h (suc number) = entry_at objects objects' h.1 number

  stored_same : (a b : Object) → SameObject pairing program program' a b → stored a ≡ stored b
  stored_same a b h = chosen a.constant b.constant 0 0 (length a.initial) (length b.initial) h.constant (λ _. refl) h.count

  first_same : (objects objects' : List Object) → SameObjects pairing program program' objects objects' → (number : ℕ) → first_cell objects number ≡ first_cell objects' number
  first_same [] [] h number = refl
  first_same [] (b ∷ objects') h number = absurd h
  first_same (a ∷ objects) [] h number = absurd h
  first_same (a ∷ objects) (b ∷ objects') h zero = refl
  first_same (a ∷ objects) (b ∷ objects') h (suc number) = ap₂ (λ m n. m + n) (stored_same a b h.0) (first_same objects objects' h.1 number)

  cells_in_same : (store : List Value) (first : ℕ) (a b : Option Object) → SameEntry a b → cells_in store first a ≡ cells_in store first b
  cells_in_same store first None None h = refl
  cells_in_same store first None (Some b) h = absurd h
  cells_in_same store first (Some a) None h = absurd h
  cells_in_same store first (Some a) (Some b) h =
      chosen a.constant b.constant a.initial b.initial _ _ h.constant h.contents (ap (λ n. take n (drop first store)) h.count)

  with_cells_in_same : (store : List Value) (first : ℕ) (a b : Option Object) (cells : List Value) → SameEntry a b → with_cells_in store first a cells ≡ with_cells_in store first b cells
  with_cells_in_same store first None None cells h = refl
  with_cells_in_same store first None (Some b) cells h = absurd h
  with_cells_in_same store first (Some a) None cells h = absurd h
  with_cells_in_same store first (Some a) (Some b) cells h =
      ap (λ c. if c then store else overwritten store first cells) h.constant

  length_same : (a b : Option Object) → SameEntry a b → length_of a ≡ length_of b
  length_same None None h = refl
  length_same None (Some b) h = absurd h
  length_same (Some a) None h = absurd h
  length_same (Some a) (Some b) h = h.count

  begins_same : (pointee pointee' : Pointee) (cell : ℕ) → SamePointee pairing pointee pointee' → (a b : Option Object) → SameEntry a b → begins_in_plan pointee cell (plan_of_object program a) ≡ begins_in_plan pointee' cell (plan_of_object program' b)
  begins_same pointee pointee' cell p None None h = refl
  begins_same pointee pointee' cell p None (Some b) h = absurd h
  begins_same pointee pointee' cell p (Some a) None h = absurd h
  begins_same pointee pointee' cell p (Some a) (Some b) h = h.begins pointee pointee' cell p

  owned_same : (f g : ℕ) → ArePaired pairing.functions f g → (objects objects' : List Object) → SameObjects pairing program program' objects objects' →
      (change : List Value → List Value → List Value) (before store : List Value) → for_owned f objects change before store ≡ for_owned g objects' change before store
  owned_same f g p [] [] h change before store = refl
  owned_same f g p [] (b ∷ objects') h change before store = absurd h
  owned_same f g p (a ∷ objects) [] h change before store = absurd h
  owned_same f g p (a ∷ objects) (b ∷ objects') h change before store =
      ap₂ (λ c n. (if c then change (take n before) (take n store) else take n store) ++ for_owned f objects change (drop n before) (drop n store)) (h.0.owner f g p) (stored_same a b h.0)
      ∙ ap (λ rest. (if is_owner g b.owner then change (take (stored b) before) (take (stored b) store) else take (stored b) store) ++ rest)
      (owned_same f g p objects objects' h.1 change (drop (stored b) before) (drop (stored b) store))

  module _ (one : StandOverOneTable pairing program program') where
    entry : (number : ℕ) → SameEntry (slice_get (objects_of program) number) (slice_get (objects_of program') number)
    entry = entry_at (objects_of program) (objects_of program') one.table

    first : (number : ℕ) → first_cell (objects_of program) number ≡ first_cell (objects_of program') number
    first = first_same (objects_of program) (objects_of program') one.table

    object_cells_same : (store : List Value) (number : ℕ) → object_cells program store number ≡ object_cells program' store number
    object_cells_same store number =
        ap (λ k. cells_in store k (slice_get (objects_of program) number)) (first number) ∙ cells_in_same store _ _ _ (entry number)

    pub with_object_same : (store : List Value) (number : ℕ) (cells : List Value) → with_object program store number cells ≡ with_object program' store number cells
    with_object_same store number cells =
        ap (λ k. with_cells_in store k (slice_get (objects_of program) number) cells) (first number) ∙ with_cells_in_same store _ _ _ cells (entry number)

    pub cells_same : (variable : Variable) (locals : List (List Value)) (store : List Value) → cells_of program variable locals store ≡ cells_of program' variable locals store
    cells_same (V.Local number) locals store = refl
    cells_same (V.Object number) locals store = object_cells_same store number

    store_with_same : (variable : Variable) (cells store : List Value) → store_with program variable cells store ≡ store_with program' variable cells store
    store_with_same (V.Local number) cells store = refl
    store_with_same (V.Object number) cells store = with_object_same store number cells

    with_cells_same : {X : Type 0} (variable : Variable) (cells : List Value) (s : State X) → with_cells program variable cells s ≡ with_cells program' variable cells s
    with_cells_same variable cells s = ap (λ store. record { locals = locals_with variable cells s.locals; store = store; kept = s.kept }) (store_with_same variable cells s.store)

    pub looked_up_same : {X : Type 0} (place : Location) → looked_up {X = X} program place ≡ looked_up program' place
    looked_up_same place = fun_ext (λ s. ap (λ cells. Done (get_or cells place.cell Null) s) (cells_same place.variable s.locals s.store))

    pub put_same : {X : Type 0} (place : Location) (v : Value) → put {X = X} program place v ≡ put program' place v
    put_same place v =
        fun_ext (λ s.
        ap (Done tt) (ap (λ cells. with_cells program place.variable (set cells place.cell v) s) (cells_same place.variable s.locals s.store) ∙ with_cells_same place.variable _ s))

    pub put_cells_same : {X : Type 0} (variable : Variable) (cells : List Value) → put_cells {X = X} program variable cells ≡ put_cells program' variable cells
    put_cells_same variable cells = fun_ext (λ s. ap (Done Normally) (with_cells_same variable cells s))

    pub cleared_cells_same : {X : Type 0} (variable : Variable) → cleared_cells {X = X} program variable ≡ cleared_cells program' variable
    cleared_cells_same variable = fun_ext (λ s. ap (λ cells. Done (map cleared cells) s) (cells_same variable s.locals s.store))

    pub moved_same : (v : Value) (by : ℤ) → moved program v by ≡ moved program' v by
    moved_same (At number cell) by = ap (λ n. within number n (pos cell +ℤ by)) (length_same _ _ (entry number))
    moved_same Null by = refl
    moved_same (Num n) by = refl

    pub target_same : (pointee pointee' : Pointee) → SamePointee pairing pointee pointee' → (v : Value) → target program pointee v ≡ target program' pointee' v
    target_same pointee pointee' p (At number cell) =
        ap (λ b. if b then Ok (record { variable = V.Object number; cell = cell }) else Err T.Place) (begins_same pointee pointee' cell p _ _ (entry number))
    target_same pointee pointee' p Null = refl
    target_same pointee pointee' p (Num n) = refl

    pub variable_same : (a b : Variable) → SameVariable pairing a b → a ≡ b
    variable_same (V.Local a) (V.Local b) h = ap V.Local h
    variable_same (V.Local a) (V.Object b) h = absurd h
    variable_same (V.Object a) (V.Local b) h = absurd h
    variable_same (V.Object a) (V.Object b) h = ap V.Object (one.objects a b h)

    pub zeros_same : (a b : CType) → SameType pairing a b → zero_cells (plan_of program.structs a) ≡ zero_cells (plan_of program'.structs b)
    zeros_same a b h = zeros_of _ _ (type_cells pairing _ _ one.structs a b h)

    pub opened_same : (f g : ℕ) → ArePaired pairing.functions f g → (store : List Value) → opened program f store ≡ opened program' g store
    opened_same f g p store = owned_same f g p (objects_of program) (objects_of program') one.table _ store store

    pub closed_same : (f g : ℕ) → ArePaired pairing.functions f g → (before store : List Value) → closed program f before store ≡ closed program' g before store
    closed_same f g p before store = owned_same f g p (objects_of program) (objects_of program') one.table _ before store
