-- Two programs that stand over one table read and write alike what is paired in it, and hold no pointer but into what is addressable or paired.
use Rattle.std.proofs.Common.{◌≡◌, ℕ, zero, suc, ◌+◌, List, [], ◌∷◌, ◌++◌, length, get_or, set, take, drop, map, slice_get, Bool, true, false, All, nat_le, if◌then◌else◌, Option, Some, None, option_map, Ok, Err, refl, sym, ap, ap₂, ◌∙◌, subst, ℤ, pos, negsuc, ◌+ℤ◌}
use Rattle.std.proofs.lemmas.List.Elements.{All-nil, All-cons, All-append, All-set, All-take, All-drop}
use Rattle.rvt_num.specs.declared.kinds.Kind.{Kind}
use Rattle.rvt_num.specs.declared.values.Trap.TheVariants as T
use Rattle.rvt_num.specs.declared.values.Value.{Value}
use Rattle.rvt_num.specs.declared.values.Value.TheVariants.{Num, Null, At}
use Rattle.rvt_tree.specs.declared.expressions.Variable.{Variable}
use Rattle.rvt_tree.specs.declared.expressions.Variable.TheVariants as V
use Rattle.rvt_tree.specs.declared.types.CType.{CType}
use Rattle.rvt_tree.specs.declared.types.CType.TheVariants as C
use Rattle.rvt_tree.specs.declared.types.Pointee.{Pointee}
use Rattle.rvt_tree.specs.declared.pairings.Pairing.{Pairing}
use Rattle.rvt_tree.specs.declared.programs.Program.{Program}
use Rattle.rvt_tree.specs.declared.programs.Object.{Object}
use Rattle.rvt_tree.specs.Same.{ArePaired, SamePointee, SameVariable}
use Rattle.c_types.specs.Layout.{Plan, Shape, AnArray, AStruct, repeated, is_whole, plan_with, plan_of, shape_of}
use Rattle.c_meaning.specs.Outcomes.{State, Done, Manner, unless_trapped}
use Rattle.c_meaning.specs.Stores.{Location, stored, first_cell, objects_of, cells_in, with_cells_in, overwritten, with_object, cells_of, locals_with, store_with, with_cells, length_of, object_length, within, moved, plan_of_object, begins_in_plan, begins_at, target, cleared, pointer_into, pointer_to}
use Rattle.c_meaning.specs.Expressions.{looked_up}
use Rattle.c_meaning.specs.Statements.{put, put_cells, cleared_cells, locals_without, left_scope}
use Rattle.c_meaning.specs.Runs.{zero_cells, is_owner, for_owned, opened, closed}
use Rattle.c_meaning.specs.Outcomes.{Normally}
use Rattle.c_meaning.specs.Twins.{SameType, struct_cells}
use Rattle.twin_laws.specs.Tables.{SameButForContents, AreSameButForContents, SameNumber, SameNumbers, SameContents, HoldTheSame}
use Rattle.twin_laws.specs.Touches.{is_addressable, TouchesPaired, PointsOpenly}
use Rattle.twin_laws.proofs.Alike.{Anything, WhereOk, one_of, IsHeld, Alike, unless_alike}

-- one table, with the same contents in what is paired
pub record OneTable (pairing : Pairing) (program program' : Program) : Type 0 where
  pub objects : (a b : ℕ) → ArePaired pairing.objects a b → a ≡ b
  pub contents : HoldTheSame pairing program program'
  pub table : AreSameButForContents pairing program program' (objects_of program) (objects_of program')
  pub structs : (a b : ℕ) → ArePaired pairing.structs a b → struct_cells program a ≡ struct_cells program' b

-- ---- cells of types

repeated_cells : (n : ℕ) (plan plan' : Plan) → plan.cells ≡ plan'.cells → (repeated n plan).cells ≡ (repeated n plan').cells
repeated_cells zero plan plan' e = refl
repeated_cells (suc n) plan plan' e = ap₂ (λ a b. a ++ b) e (repeated_cells n plan plan' e)

abbrev cells_in_plan : Option Plan → Option (List (Option Kind))
cells_in_plan = option_map (λ plan. plan.cells)

some_cells : (a b : List (Option Kind)) → ◌≡◌ {A = Option (List (Option Kind))} (Some a) (Some b) → a ≡ b
some_cells a b e = cc

array_cells : (r r' : Option Plan) (shape shape' : Shape) (n m : ℕ) → n ≡ m → cells_in_plan r ≡ cells_in_plan r' →
    cells_in_plan (option_map (λ plan. is_whole shape (repeated n plan)) r) ≡ cells_in_plan (option_map (λ plan. is_whole shape' (repeated m plan)) r')
array_cells None None shape shape' n m l e = refl
array_cells None (Some plan') shape shape' n m l e = cc
array_cells (Some plan) None shape shape' n m l e = cc
array_cells (Some plan) (Some plan') shape shape' n m l e =
    ap Some (repeated_cells n plan plan' (some_cells plan.cells plan'.cells e) ∙ ap (λ k. (repeated k plan').cells) l)

whole_cells : (r : Option Plan) (shape : Shape) → cells_in_plan (option_map (is_whole shape) r) ≡ cells_in_plan r
whole_cells None shape = refl
whole_cells (Some plan) shape = refl

-- types that are the same have the same cells, if structs that are paired have
type_cells : (pairing : Pairing) (known known' : ℕ → Option Plan) → ((a b : ℕ) → ArePaired pairing.structs a b → cells_in_plan (known a) ≡ cells_in_plan (known' b)) →
    (a b : CType) → SameType pairing a b → cells_in_plan (plan_with known a) ≡ cells_in_plan (plan_with known' b)
type_cells pairing known known' h (C.Word a) (C.Word b) e = ap (λ kind. Some (Some kind ∷ [])) e
type_cells pairing known known' h (C.Word a) _ e = absurd e
type_cells pairing known known' h (C.Pointer a to_constant) (C.Pointer b to_constant') e = refl
type_cells pairing known known' h (C.Pointer a to_constant) _ e = absurd e
type_cells pairing known known' h (C.Array' p a n) (C.Array' q b m) e =
    array_cells (plan_with known a) (plan_with known' b) (AnArray (shape_of a) n) (AnArray (shape_of b) m) n m e.1 (type_cells pairing known known' h a b e.0)
type_cells pairing known known' h (C.Array' p a n) _ e = absurd e
type_cells pairing known known' h (C.Struct a) (C.Struct b) e = whole_cells (known a) (AStruct a) ∙ h a b e ∙ sym (whole_cells (known' b) (AStruct b))
type_cells pairing known known' h (C.Struct a) _ e = absurd e

zeros_of : (r r' : Option Plan) → cells_in_plan r ≡ cells_in_plan r' → zero_cells r ≡ zero_cells r'
zeros_of None None e = refl
zeros_of None (Some plan') e = cc
zeros_of (Some plan) None e = cc
zeros_of (Some plan) (Some plan') e = ap (map _) (some_cells plan.cells plan'.cells e)

-- ---- objects

chosen : {A : Type 0} (c c' : Bool) (m m' n n' : A) → c ≡ c' → (c ≡ true → m ≡ m') → n ≡ n' → (if c then m else n) ≡ (if c' then m' else n')
chosen true true m m' n n' e h k = h refl
chosen true false m m' n n' e h k = cc
chosen false true m m' n n' e h k = cc
chosen false false m m' n n' e h k = k

module _ (pairing : Pairing) (program program' : Program) where
  -- what stands under one number in the two tables
  abbrev SameEntry : Option Object → Option Object → Type 0
  SameEntry None None = Unit {0}
  SameEntry (Some a) (Some b) = SameButForContents pairing program program' a b
  SameEntry _ _ = ⊥

  entry_at : (objects objects' : List Object) → AreSameButForContents pairing program program' objects objects' → (number : ℕ) → SameEntry (slice_get objects number) (slice_get objects' number)
  entry_at [] [] h number = tt
  entry_at [] (b ∷ objects') h number = absurd h
  entry_at (a ∷ objects) [] h number = absurd h
  entry_at (a ∷ objects) (b ∷ objects') h zero = h.0
  entry_at (a ∷ objects) (b ∷ objects') h (suc number) = entry_at objects objects' h.1 number

  stored_same : (a b : Object) → SameButForContents pairing program program' a b → stored a ≡ stored b
  stored_same a b h = chosen a.constant b.constant 0 0 (length a.initial) (length b.initial) h.constant (λ _. refl) h.count

  first_same : (objects objects' : List Object) → AreSameButForContents pairing program program' objects objects' → (number : ℕ) → first_cell objects number ≡ first_cell objects' number
  first_same [] [] h number = refl
  first_same [] (b ∷ objects') h number = absurd h
  first_same (a ∷ objects) [] h number = absurd h
  first_same (a ∷ objects) (b ∷ objects') h zero = refl
  first_same (a ∷ objects) (b ∷ objects') h (suc number) = ap₂ (λ m n. m + n) (stored_same a b h.0) (first_same objects objects' h.1 number)

  with_cells_in_same : (store : List Value) (first : ℕ) (a b : Option Object) (cells : List Value) → SameEntry a b → with_cells_in store first a cells ≡ with_cells_in store first b cells
  with_cells_in_same store first None None cells h = refl
  with_cells_in_same store first None (Some b) cells h = absurd h
  with_cells_in_same store first (Some a) None cells h = absurd h
  with_cells_in_same store first (Some a) (Some b) cells h =
      ap (λ c. if c then store else overwritten store first cells) h.constant

  length_same : (a b : Option Object) → SameEntry a b → length_of a ≡ length_of b
  length_same None None h = refl
  length_same None (Some b) h = absurd h
  length_same (Some a) None h = absurd h
  length_same (Some a) (Some b) h = h.count

  begins_same : (pointee pointee' : Pointee) (cell : ℕ) → SamePointee pairing pointee pointee' → (a b : Option Object) → SameEntry a b → begins_in_plan pointee cell (plan_of_object program a) ≡ begins_in_plan pointee' cell (plan_of_object program' b)
  begins_same pointee pointee' cell p None None h = refl
  begins_same pointee pointee' cell p None (Some b) h = absurd h
  begins_same pointee pointee' cell p (Some a) None h = absurd h
  begins_same pointee pointee' cell p (Some a) (Some b) h = h.begins pointee pointee' cell p

  owned_same : (f g : ℕ) → ArePaired pairing.functions f g → (objects objects' : List Object) → AreSameButForContents pairing program program' objects objects' →
      (change : List Value → List Value → List Value) (before store : List Value) → for_owned f objects change before store ≡ for_owned g objects' change before store
  owned_same f g p [] [] h change before store = refl
  owned_same f g p [] (b ∷ objects') h change before store = absurd h
  owned_same f g p (a ∷ objects) [] h change before store = absurd h
  owned_same f g p (a ∷ objects) (b ∷ objects') h change before store =
      ap₂ (λ c n. (if c then change (take n before) (take n store) else take n store) ++ for_owned f objects change (drop n before) (drop n store)) (h.0.owner f g p) (stored_same a b h.0)
      ∙ ap (λ rest. (if is_owner g b.owner then change (take (stored b) before) (take (stored b) store) else take (stored b) store) ++ rest)
      (owned_same f g p objects objects' h.1 change (drop (stored b) before) (drop (stored b) store))

  module _ (one : OneTable pairing program program') where
    entry : (number : ℕ) → SameEntry (slice_get (objects_of program) number) (slice_get (objects_of program') number)
    entry = entry_at (objects_of program) (objects_of program') one.table

    first : (number : ℕ) → first_cell (objects_of program) number ≡ first_cell (objects_of program') number
    first = first_same (objects_of program) (objects_of program') one.table

    pub with_object_same : (store : List Value) (number : ℕ) (cells : List Value) → with_object program store number cells ≡ with_object program' store number cells
    with_object_same store number cells =
        ap (λ k. with_cells_in store k (slice_get (objects_of program) number) cells) (first number) ∙ with_cells_in_same store _ _ _ cells (entry number)

    store_with_same : (variable : Variable) (cells store : List Value) → store_with program variable cells store ≡ store_with program' variable cells store
    store_with_same (V.Local number) cells store = refl
    store_with_same (V.Object number) cells store = with_object_same store number cells

    with_cells_same : {X : Type 0} (variable : Variable) (cells : List Value) (s : State X) → with_cells program variable cells s ≡ with_cells program' variable cells s
    with_cells_same variable cells s = ap (λ store. record { locals = locals_with variable cells s.locals; store = store; kept = s.kept }) (store_with_same variable cells s.store)

    pub moved_same : (v : Value) (by : ℤ) → moved program v by ≡ moved program' v by
    moved_same (At number cell) by = ap (λ n. within number n (pos cell +ℤ by)) (length_same _ _ (entry number))
    moved_same Null by = refl
    moved_same (Num n) by = refl

    target_same : (pointee pointee' : Pointee) → SamePointee pairing pointee pointee' → (v : Value) → target program pointee v ≡ target program' pointee' v
    target_same pointee pointee' p (At number cell) =
        ap (λ b. if b then Ok (record { variable = V.Object number; cell = cell }) else Err T.Place) (begins_same pointee pointee' cell p _ _ (entry number))
    target_same pointee pointee' p Null = refl
    target_same pointee pointee' p (Num n) = refl

    pub variable_same : (a b : Variable) → SameVariable pairing a b → a ≡ b
    variable_same (V.Local a) (V.Local b) h = ap V.Local h
    variable_same (V.Local a) (V.Object b) h = absurd h
    variable_same (V.Object a) (V.Local b) h = absurd h
    variable_same (V.Object a) (V.Object b) h = ap V.Object (one.objects a b h)

    pub zeros_same : (a b : CType) → SameType pairing a b → zero_cells (plan_of program.structs a) ≡ zero_cells (plan_of program'.structs b)
    zeros_same a b h = zeros_of _ _ (type_cells pairing _ _ one.structs a b h)

    pub opened_same : (f g : ℕ) → ArePaired pairing.functions f g → (store : List Value) → opened program f store ≡ opened program' g store
    opened_same f g p store = owned_same f g p (objects_of program) (objects_of program') one.table _ store store

    pub closed_same : (f g : ℕ) → ArePaired pairing.functions f g → (before store : List Value) → closed program f before store ≡ closed program' g before store
    closed_same f g p before store = owned_same f g p (objects_of program) (objects_of program') one.table _ before store

    -- ---- what is named, and what is held

    abbrev pub Open : Value → Type 0
    Open = PointsOpenly pairing program

    -- a local, or an object that is paired
    abbrev pub IsNamed : Variable → Type 0
    IsNamed (V.Local number) = Unit {0}
    IsNamed (V.Object number) = ArePaired pairing.objects number number

    abbrev pub IsPlaced : Location → Type 0
    IsPlaced place = IsNamed place.variable

    pub named : (a b : Variable) → SameVariable pairing a b → IsNamed a
    named (V.Local a) (V.Local b) h = tt
    named (V.Local a) (V.Object b) h = absurd h
    named (V.Object a) (V.Local b) h = absurd h
    named (V.Object a) (V.Object b) h = subst (λ n. ArePaired pairing.objects a n) (sym (one.objects a b h)) h

    -- ---- cells

    number_same : (a b : Value) → SameNumber a b → a ≡ b
    number_same (Num m) (Num n) h = ap Num h
    number_same (Num m) Null h = absurd h
    number_same (Num m) (At number cell) h = absurd h
    number_same Null b h = absurd h
    number_same (At number cell) b h = absurd h

    number_open : (a b : Value) → SameNumber a b → Open a
    number_open (Num m) b h = tt
    number_open Null b h = absurd h
    number_open (At number cell) b h = absurd h

    numbers_same : (cells cells' : List Value) → SameNumbers cells cells' → cells ≡ cells'
    numbers_same [] [] h = refl
    numbers_same (a ∷ cells) (b ∷ cells') h = ap₂ (λ v rest. v ∷ rest) (number_same a b h.0) (numbers_same cells cells' h.1)
    numbers_same [] (b ∷ cells') h = absurd h
    numbers_same (a ∷ cells) [] h = absurd h

    numbers_open : (cells cells' : List Value) → SameNumbers cells cells' → All Open cells
    numbers_open [] [] h = All-nil Open
    numbers_open (a ∷ cells) (b ∷ cells') h = All-cons Open a cells (number_open a b h.0) (numbers_open cells cells' h.1)
    numbers_open [] (b ∷ cells') h = absurd h
    numbers_open (a ∷ cells) [] h = absurd h

    cells_in_same : (store : List Value) (first_one : ℕ) (a b : Option Object) → SameEntry a b → SameContents a b → cells_in store first_one a ≡ cells_in store first_one b
    cells_in_same store first_one None None h e = refl
    cells_in_same store first_one None (Some b) h e = absurd h
    cells_in_same store first_one (Some a) None h e = absurd h
    cells_in_same store first_one (Some a) (Some b) h e =
        chosen a.constant b.constant a.initial b.initial _ _ h.constant (λ constant. numbers_same a.initial b.initial (e constant)) (ap (λ n. take n (drop first_one store)) h.count)

    chosen_open : (c : Bool) (m n : List Value) → (c ≡ true → All Open m) → All Open n → All Open (if c then m else n)
    chosen_open true m n h k = h refl
    chosen_open false m n h k = k

    cells_in_open : (store : List Value) (first_one : ℕ) (a b : Option Object) → SameEntry a b → SameContents a b → All Open store → All Open (cells_in store first_one a)
    cells_in_open store first_one None b h e held = All-nil Open
    cells_in_open store first_one (Some a) None h e held = absurd h
    cells_in_open store first_one (Some a) (Some b) h e held =
        chosen_open a.constant a.initial _ (λ constant. numbers_open a.initial b.initial (e constant))
        (All-take Open (length a.initial) (drop first_one store) (All-drop Open first_one store held))

    cells_same : (variable : Variable) → IsNamed variable → (locals : List (List Value)) (store : List Value) → cells_of program variable locals store ≡ cells_of program' variable locals store
    cells_same (V.Local number) h locals store = refl
    cells_same (V.Object number) h locals store =
        ap (λ k. cells_in store k (slice_get (objects_of program) number)) (first number) ∙ cells_in_same store _ _ _ (entry number) (one.contents number h)

    cells_open : (variable : Variable) → IsNamed variable → (locals : List (List Value)) (store : List Value) → All (All Open) locals → All Open store → All Open (cells_of program variable locals store)
    cells_open (V.Local number) h locals store held held' = one_of (All Open) locals number [] (All-nil Open) held
    cells_open (V.Object number) h locals store held held' = cells_in_open store _ _ _ (entry number) (one.contents number h) held'

    -- ---- stores

    with_cells_in_open : (store : List Value) (first_one : ℕ) (a : Option Object) (cells : List Value) → All Open cells → All Open store → All Open (with_cells_in store first_one a cells)
    with_cells_in_open store first_one None cells h held = held
    with_cells_in_open store first_one (Some a) cells h held =
        chosen_open a.constant store (overwritten store first_one cells) (λ _. held)
        (All-append Open (take first_one store ++ cells) (drop (first_one + length cells) store)
        (All-append Open (take first_one store) cells (All-take Open first_one store held) h) (All-drop Open (first_one + length cells) store held))

    pub with_object_open : (store : List Value) (number : ℕ) (cells : List Value) → All Open cells → All Open store → All Open (with_object program store number cells)
    with_object_open store number cells h held = with_cells_in_open store _ _ cells h held

    locals_with_open : (variable : Variable) (cells : List Value) (locals : List (List Value)) → All Open cells → All (All Open) locals → All (All Open) (locals_with variable cells locals)
    locals_with_open (V.Local number) cells locals h held = All-set (All Open) locals number cells h held
    locals_with_open (V.Object number) cells locals h held = held

    store_with_open : (variable : Variable) (cells store : List Value) → All Open cells → All Open store → All Open (store_with program variable cells store)
    store_with_open (V.Local number) cells store h held = held
    store_with_open (V.Object number) cells store h held = with_object_open store number cells h held

    with_cells_held : {X : Type 0} (variable : Variable) (cells : List Value) (s : State X) → All Open cells → IsHeld Open s → IsHeld Open (with_cells program variable cells s)
    with_cells_held variable cells s h held = record {
      locals = locals_with_open variable cells s.locals h held.locals;
      store = store_with_open variable cells s.store h held.store;
    }

    pub cleared_open : (v : Value) → Open (cleared v)
    cleared_open (Num n) = tt
    cleared_open Null = tt
    cleared_open (At number cell) = tt

    pub all_cleared : (cells : List Value) → All Open (map cleared cells)
    all_cleared [] = All-nil Open
    all_cleared (v ∷ cells) = All-cons Open (cleared v) (map cleared cells) (cleared_open v) (all_cleared cells)

    -- ---- reading and writing

    pub looked_up_alike : {X : Type 0} (place : Location) → IsPlaced place → Alike Open Open (looked_up {X = X} program place) (looked_up program' place)
    looked_up_alike place h = record {
      same = λ s held. ap (λ cells. Done (get_or cells place.cell Null) s) (cells_same place.variable h s.locals s.store);
      leaves = λ s held. (one_of Open (cells_of program place.variable s.locals s.store) place.cell Null tt (cells_open place.variable h s.locals s.store held.locals held.store), held);
    }

    pub put_alike : {X : Type 0} (place : Location) → IsPlaced place → (v : Value) → Open v → Alike Open Anything (put {X = X} program place v) (put program' place v)
    put_alike place h v openly = record {
      same = λ s held.
          ap (Done tt) (ap (λ cells. with_cells program place.variable (set cells place.cell v) s) (cells_same place.variable h s.locals s.store) ∙ with_cells_same place.variable _ s);
      leaves = λ s held. (tt, with_cells_held place.variable _ s (All-set Open (cells_of program place.variable s.locals s.store) place.cell v openly (cells_open place.variable h s.locals s.store held.locals held.store)) held);
    }

    pub put_cells_alike : {X : Type 0} (variable : Variable) (cells : List Value) → All Open cells → Alike Open Anything (put_cells {X = X} program variable cells) (put_cells program' variable cells)
    put_cells_alike variable cells h = record {
      same = λ s held. ap (Done Normally) (with_cells_same variable cells s);
      leaves = λ s held. (tt, with_cells_held variable cells s h held);
    }

    pub cleared_cells_alike : {X : Type 0} (variable : Variable) → IsNamed variable → Alike Open (All Open) (cleared_cells {X = X} program variable) (cleared_cells program' variable)
    cleared_cells_alike variable h = record {
      same = λ s held. ap (λ cells. Done (map cleared cells) s) (cells_same variable h s.locals s.store);
      leaves = λ s held. (all_cleared (cells_of program variable s.locals s.store), held);
    }

    locals_without_open : (variables : List Variable) (locals : List (List Value)) → All (All Open) locals → All (All Open) (locals_without variables locals)
    locals_without_open [] locals held = held
    locals_without_open (V.Local number ∷ rest) locals held =
        locals_without_open rest _ (All-set (All Open) locals number (map cleared (get_or locals number [])) (all_cleared (get_or locals number [])) held)
    locals_without_open (V.Object number ∷ rest) locals held = locals_without_open rest locals held

    pub left_scope_alike : {X : Type 0} (variables : List Variable) (manner : Manner) → Alike Open {X = X} Anything (left_scope variables manner) (left_scope variables manner)
    left_scope_alike variables manner = record {
      same = λ s held. refl;
      leaves = λ s held. (tt, record { locals = locals_without_open variables s.locals held.locals; store = held.store });
    }

    -- ---- pointers

    into : (number : ℕ) (b : Bool) (cell : ℕ) → Open (At number cell) → WhereOk Open (if b then Ok (At number cell) else Err T.Range)
    into number true cell h = h
    into number false cell h = tt

    within_open : (number len : ℕ) (at_cell : ℤ) → Open (At number 0) → WhereOk Open (within number len at_cell)
    within_open number len (pos cell) h = into number (nat_le cell len) cell h
    within_open number len (negsuc n) h = tt

    pub moved_open : (v : Value) (by : ℤ) → Open v → WhereOk Open (moved program v by)
    moved_open (At number cell) by h = within_open number (object_length program number) (pos cell +ℤ by) h
    moved_open Null by h = tt
    moved_open (Num n) by h = tt

    either_way : (P : Type 0) (b : Bool) → (b ≡ true → P) → (b ≡ false → P) → P
    either_way P true h k = h refl
    either_way P false h k = k refl

    aimed : (number cell : ℕ) (b : Bool) → (b ≡ true → ArePaired pairing.objects number number) → WhereOk IsPlaced (if b then Ok (record { variable = V.Object number; cell = cell }) else Err T.Place)
    aimed number cell true h = h refl
    aimed number cell false h = tt

    target_placed : (pointee : Pointee) → TouchesPaired pairing program pointee → (v : Value) → Open v → WhereOk IsPlaced (target program pointee v)
    target_placed pointee touch (At number cell) h =
        aimed number cell (begins_at program pointee number cell) (λ begin.
        either_way (ArePaired pairing.objects number number) (is_addressable (slice_get (objects_of program) number)) (λ yes. touch number cell yes begin) h)
    target_placed pointee touch Null h = tt
    target_placed pointee touch (Num n) h = tt

    pub target_alike : {X : Type 0} (pointee pointee' : Pointee) → SamePointee pairing pointee pointee' → TouchesPaired pairing program pointee → (v : Value) → Open v →
        Alike Open {X = X} IsPlaced (unless_trapped (target program pointee v)) (unless_trapped (target program' pointee' v))
    target_alike pointee pointee' p touch v h = unless_alike Open IsPlaced _ _ (target_same pointee pointee' p v) (target_placed pointee touch v h)

    named_open : (variable : Variable) (cell : ℕ) → IsNamed variable → Open (pointer_into variable cell)
    named_open (V.Local number) cell h = tt
    named_open (V.Object number) cell h = λ hidden. h

    pub placed_open : (place : Location) → IsPlaced place → Open (pointer_to place)
    placed_open place h = named_open place.variable place.cell h

    -- ---- entry and return

    for_owned_open : (f : ℕ) (objects : List Object) (change : List Value → List Value → List Value) →
        ((a b : List Value) → All Open a → All Open b → All Open (change a b)) →
        (before store : List Value) → All Open before → All Open store → All Open (for_owned f objects change before store)
    for_owned_open f [] change good before store h k = k
    for_owned_open f (a ∷ objects) change good before store h k =
        All-append Open (if is_owner f a.owner then change (take (stored a) before) (take (stored a) store) else take (stored a) store) _
        (chosen_open (is_owner f a.owner) _ _ (λ _. good _ _ (All-take Open (stored a) before h) (All-take Open (stored a) store k)) (All-take Open (stored a) store k))
        (for_owned_open f objects change good (drop (stored a) before) (drop (stored a) store) (All-drop Open (stored a) before h) (All-drop Open (stored a) store k))

    pub opened_open : (f : ℕ) (store : List Value) → All Open store → All Open (opened program f store)
    opened_open f store h = for_owned_open f (objects_of program) (λ before now. map cleared now) (λ a b _ _. all_cleared b) store store h h

    pub closed_open : (f : ℕ) (before store : List Value) → All Open before → All Open store → All Open (closed program f before store)
    closed_open f before store h k = for_owned_open f (objects_of program) (λ saved now. saved) (λ a b saved _. saved) before store h k
