-- Types that are alike in two programs have the same cells, and alike values begin at them.
use Rattle.std.proofs.Common.{◌≡◌, ℕ, zero, suc, ◌+◌, ◌<◌, List, [], ◌∷◌, ◌++◌, map, length, slice_get, Bool, true, false, nat_eq, ◌&&◌, ◌||◌, if◌then◌else◌, Option, Some, None, option_map, option_and_then, refl, sym, ap, ap₂, ◌∙◌, subst, arith}
use Rattle.rvt_tree.specs.declared.types.CType.{CType}
use Rattle.rvt_tree.specs.declared.types.CType.TheVariants as C
use Rattle.rvt_tree.specs.declared.types.Pointee.{Pointee}
use Rattle.rvt_tree.specs.declared.types.Pointee.TheVariants as P
use Rattle.rvt_tree.specs.declared.pairings.Pairing.{Pairing}
use Rattle.rvt_tree.specs.declared.programs.StructDef.{StructDef}
use Rattle.rvt_tree.specs.declared.programs.Structs.{Structs}
use Rattle.rvt_tree.specs.Same.{ArePaired, SamePointee}
use Rattle.c_types.specs.Layout.{Shape, AWord, APointer, AnArray, AStruct, shape_of, Begin, Plan, further, followed_by, repeated, is_whole, plan_with, plan_in_order, plan_of_definition, plan_of_struct, plan_of, same_kind, is_of_pointee, begins_in}
use Rattle.c_meaning.specs.Stores.{begins_in_plan}
use Rattle.joint_programs.specs.Parts.{field_parts}
use Rattle.joint_laws.proofs.Tests.{tests_alike}

module _ (pairing : Pairing) where
  -- ---- what begins: a word of one kind, or two structs that are paired; a pointer points to no array and to no pointer

  abbrev pub WhatAlike : Shape → Shape → Type 0
  WhatAlike (AWord a) (AWord b) = a ≡ b
  WhatAlike (APointer a c) (APointer b c') = Unit {0}
  WhatAlike (AnArray a n) (AnArray b m) = Unit {0}
  WhatAlike (AStruct a) (AStruct b) = ArePaired pairing.structs a b
  WhatAlike _ _ = ⊥

  abbrev pub StartsAlike : List Begin → List Begin → Type 0
  StartsAlike [] [] = Unit {0}
  StartsAlike (a ∷ starts) (b ∷ starts') = (WhatAlike a.what b.what × (a.cell ≡ b.cell)) × StartsAlike starts starts'
  StartsAlike _ _ = ⊥

  pub record PlansAlike (p q : Plan) : Type 0 where
    pub cells : p.cells ≡ q.cells
    pub starts : StartsAlike p.starts q.starts

  abbrev pub Alike : Option Plan → Option Plan → Type 0
  Alike None None = Unit {0}
  Alike (Some p) (Some q) = PlansAlike p q
  Alike _ _ = ⊥

  append_alike : (a a' b b' : List Begin) → StartsAlike a a' → StartsAlike b b' → StartsAlike (a ++ b) (a' ++ b')
  append_alike [] [] b b' h k = k
  append_alike (x ∷ a) (y ∷ a') b b' h k = (h.0, append_alike a a' b b' h.1 k)
  append_alike [] (y ∷ a') b b' h k = absurd h
  append_alike (x ∷ a) [] b b' h k = absurd h

  further_alike : (n m : ℕ) (a a' : List Begin) → n ≡ m → StartsAlike a a' → StartsAlike (map (further n) a) (map (further m) a')
  further_alike n m [] [] e h = tt
  further_alike n m (x ∷ a) (y ∷ a') e h = ((h.0.0, ap₂ (λ i j. i + j) e h.0.1), further_alike n m a a' e h.1)
  further_alike n m [] (y ∷ a') e h = absurd h
  further_alike n m (x ∷ a) [] e h = absurd h

  follows_alike : (p p' q q' : Plan) → PlansAlike p p' → PlansAlike q q' → PlansAlike (followed_by p q) (followed_by p' q')
  follows_alike p p' q q' h k = record {
    cells = ap₂ (λ x y. x ++ y) h.cells k.cells;
    starts =
        append_alike p.starts p'.starts (map (further (length p.cells)) q.starts) (map (further (length p'.cells)) q'.starts) h.starts
        (further_alike (length p.cells) (length p'.cells) q.starts q'.starts (ap length h.cells) k.starts);
  }

  repeated_alike : (n : ℕ) (p q : Plan) → PlansAlike p q → PlansAlike (repeated n p) (repeated n q)
  repeated_alike zero p q h = record { cells = refl; starts = tt }
  repeated_alike (suc n) p q h = follows_alike p q (repeated n p) (repeated n q) h (repeated_alike n p q h)

  whole_alike : (s t : Shape) (p q : Plan) → WhatAlike s t → PlansAlike p q → PlansAlike (is_whole s p) (is_whole t q)
  whole_alike s t p q w h = record { cells = h.cells; starts = ((w, refl), h.starts) }

  array_alike : (s t : Shape) (i j : ℕ) (p q : Option Plan) → i ≡ j → Alike p q →
      Alike (option_map (λ plan. is_whole (AnArray s i) (repeated i plan)) p) (option_map (λ plan. is_whole (AnArray t j) (repeated j plan)) q)
  array_alike s t i j None None e h = tt
  array_alike s t i j (Some p) (Some q) e h =
      whole_alike (AnArray s i) (AnArray t j) (repeated i p) (repeated j q) tt (subst (λ c. PlansAlike (repeated i p) (repeated c q)) e (repeated_alike i p q h))
  array_alike s t i j None (Some q) e h = absurd h
  array_alike s t i j (Some p) None e h = absurd h

  struct_alike : (a b : ℕ) (p q : Option Plan) → ArePaired pairing.structs a b → Alike p q → Alike (option_map (is_whole (AStruct a)) p) (option_map (is_whole (AStruct b)) q)
  struct_alike a b None None e h = tt
  struct_alike a b (Some p) (Some q) e h = whole_alike (AStruct a) (AStruct b) p q e h
  struct_alike a b None (Some q) e h = absurd h
  struct_alike a b (Some p) None e h = absurd h

  order_alike : (p p' q q' : Option Plan) → Alike p p' → Alike q q' →
      Alike (option_and_then (λ first. option_map (followed_by first) q) p) (option_and_then (λ first. option_map (followed_by first) q') p')
  order_alike None None q q' h k = tt
  order_alike (Some p) (Some p') None None h k = tt
  order_alike (Some p) (Some p') (Some q) (Some q') h k = follows_alike p p' q q' h k
  order_alike None (Some p') q q' h k = absurd h
  order_alike (Some p) None q q' h k = absurd h
  order_alike (Some p) (Some p') None (Some q') h k = absurd k
  order_alike (Some p) (Some p') (Some q) None h k = absurd k

  complete_alike : (c c' : Bool) (p q : Option Plan) → c ≡ c' → Alike p q → Alike (if c then p else None) (if c' then q else None)
  complete_alike true true p q e h = h
  complete_alike false false p q e h = tt
  complete_alike true false p q e h = absurd (let no : true ≡ false = e in cc)
  complete_alike false true p q e h = absurd (let no : false ≡ true = e in cc)

  -- ---- types: their structs are paired, and stand before these in their programs

  abbrev pub TypeAlike : ℕ → ℕ → Shape → Shape → Type 0
  TypeAlike n m (AWord a) (AWord b) = a ≡ b
  TypeAlike n m (APointer a c) (APointer b c') = Unit {0}
  TypeAlike n m (AnArray a i) (AnArray b j) = TypeAlike n m a b × (i ≡ j)
  TypeAlike n m (AStruct a) (AStruct b) = ArePaired pairing.structs a b × (a < n) × (b < m)
  TypeAlike n m _ _ = ⊥

  abbrev pub FieldsAlike : ℕ → ℕ → List (List ℕ × Shape) → List (List ℕ × Shape) → Type 0
  FieldsAlike n m [] [] = Unit {0}
  FieldsAlike n m (a ∷ fields) (b ∷ fields') = TypeAlike n m a.1 b.1 × FieldsAlike n m fields fields'
  FieldsAlike n m _ _ = ⊥

  module _ (n m : ℕ) (known known' : ℕ → Option Plan) (alike : (a b : ℕ) → ArePaired pairing.structs a b → a < n → b < m → Alike (known a) (known' b)) where
    type_alike : (x y : CType) → TypeAlike n m (shape_of x) (shape_of y) → Alike (plan_with known x) (plan_with known' y)
    type_alike (C.Word a) (C.Word b) h = record { cells = ap (λ kind. Some kind ∷ []) h; starts = ((h, refl), tt) }
    type_alike (C.Word a) _ h = absurd h
    type_alike (C.Pointer a c) (C.Pointer b c') h = record { cells = refl; starts = ((tt, refl), tt) }
    type_alike (C.Pointer a c) _ h = absurd h
    type_alike (C.Array' p a i) (C.Array' q b j) h = array_alike (shape_of a) (shape_of b) i j (plan_with known a) (plan_with known' b) h.1 (type_alike a b h.0)
    type_alike (C.Array' p a i) _ h = absurd h
    type_alike (C.Struct a) (C.Struct b) h = struct_alike a b (known a) (known' b) h.0 (alike a b h.0 h.1 h.2)
    type_alike (C.Struct a) _ h = absurd h

    fields_alike : (a b : List (List ℕ × CType)) → FieldsAlike n m (map field_parts a) (map field_parts b) → Alike (plan_in_order known (map (λ field. field.1) a)) (plan_in_order known' (map (λ field. field.1) b))
    fields_alike [] [] h = record { cells = refl; starts = tt }
    fields_alike (a ∷ fields) (b ∷ fields') h =
        order_alike (plan_with known a.1) (plan_with known' b.1) (plan_in_order known (map (λ field. field.1) fields)) (plan_in_order known' (map (λ field. field.1) fields'))
        (type_alike a.1 b.1 h.0) (fields_alike fields fields' h.1)
    fields_alike [] (b ∷ fields') h = absurd h
    fields_alike (a ∷ fields) [] h = absurd h

    definition_alike : (s s' : StructDef) → s.complete ≡ s'.complete → FieldsAlike n m (map field_parts s.fields) (map field_parts s'.fields) → Alike (plan_of_definition known (Some s)) (plan_of_definition known' (Some s'))
    definition_alike s s' e h =
        complete_alike s.complete s'.complete (plan_in_order known (map (λ field. field.1) s.fields)) (plan_in_order known' (map (λ field. field.1) s'.fields)) e
        (fields_alike s.fields s'.fields h)

  -- ---- structs

  pub record StructsAlike (list list' : List StructDef) (a b : ℕ) : Type 0 where
    pub first : StructDef
    pub second : StructDef
    pub here : slice_get list a ≡ Some first
    pub there : slice_get list' b ≡ Some second
    pub complete : first.complete ≡ second.complete
    pub fields : FieldsAlike a b (map field_parts first.fields) (map field_parts second.fields)

  module _ (structs structs' : Structs) (alike : (a b : ℕ) → ArePaired pairing.structs a b → StructsAlike structs.list structs'.list a b) where
    pub struct_plans : (d d' a b : ℕ) → ArePaired pairing.structs a b → a < d → b < d' → Alike (plan_of_struct structs d a) (plan_of_struct structs' d' b)
    struct_plans zero d' a b p h k = absurd (let no : ⊥ = omega (arith, h) in no)
    struct_plans (suc d) zero a b p h k = absurd (let no : ⊥ = omega (arith, k) in no)
    struct_plans (suc d) (suc d') a b p h k =
        let x : StructsAlike structs.list structs'.list a b = alike a b p in
        subst (λ o. Alike (plan_of_definition (plan_of_struct structs d) o) (plan_of_definition (plan_of_struct structs' d') (slice_get structs'.list b))) (sym x.here)
        (subst (λ o. Alike (plan_of_definition (plan_of_struct structs d) (Some x.first)) (plan_of_definition (plan_of_struct structs' d') o)) (sym x.there)
        (definition_alike a b (plan_of_struct structs d) (plan_of_struct structs' d')
        (λ a' b' q l l'. struct_plans d d' a' b' q (let low : a' < d = omega (arith, l, h) in low) (let low : b' < d' = omega (arith, l', k) in low))
        x.first x.second x.complete x.fields))

    pub type_plans : (x y : CType) → TypeAlike (length structs.list) (length structs'.list) (shape_of x) (shape_of y) → Alike (plan_of structs x) (plan_of structs' y)
    type_plans x y h =
        type_alike (length structs.list) (length structs'.list) (plan_of_struct structs (length structs.list)) (plan_of_struct structs' (length structs'.list))
        (λ a b p l l'. struct_plans (length structs.list) (length structs'.list) a b p l l') x y h

  -- ---- what pointers may point to

  one_partner : (a b b' : ℕ) → ArePaired pairing.structs a b → ArePaired pairing.structs a b' → b ≡ b'
  one_partner a b b' h k = let same : Some (Some b) ≡ Some (Some b') = sym h ∙ k in cc

  module _ (injective : (a a' b : ℕ) → ArePaired pairing.structs a b → ArePaired pairing.structs a' b → a ≡ a') where
    structs_tell : (a b s t : ℕ) → ArePaired pairing.structs a b → ArePaired pairing.structs s t → nat_eq a s ≡ nat_eq b t
    structs_tell a b s t p q =
        tests_alike a s b t
        (λ e. one_partner s b t (subst (λ n. ArePaired pairing.structs n b) e p) q)
        (λ e. injective a s t (subst (λ n. ArePaired pairing.structs a n) e p) q)

    words_tell : (k k' : Pointee) (s t : Shape) → SamePointee pairing k k' → WhatAlike s t → is_of_pointee k s ≡ is_of_pointee k' t
    words_tell (P.Word k) (P.Word k') (AWord a) (AWord b) e h = ap₂ same_kind e h
    words_tell (P.Word k) (P.Word k') (APointer a c) (APointer b c') e h = refl
    words_tell (P.Word k) (P.Word k') (AnArray a i) (AnArray b j) e h = refl
    words_tell (P.Word k) (P.Word k') (AStruct a) (AStruct b) e h = refl
    words_tell (P.Struct k) (P.Struct k') (AWord a) (AWord b) e h = refl
    words_tell (P.Struct k) (P.Struct k') (APointer a c) (APointer b c') e h = refl
    words_tell (P.Struct k) (P.Struct k') (AnArray a i) (AnArray b j) e h = refl
    words_tell (P.Struct k) (P.Struct k') (AStruct a) (AStruct b) e h = structs_tell k k' a b e h
    words_tell (P.Word k) (P.Struct k') s t e h = absurd e
    words_tell (P.Struct k) (P.Word k') s t e h = absurd e
    words_tell k k' (AWord a) _ e h = absurd h
    words_tell k k' (APointer a c) _ e h = absurd h
    words_tell k k' (AnArray a i) _ e h = absurd h
    words_tell k k' (AStruct a) _ e h = absurd h

    starts_tell : (k k' : Pointee) (cell : ℕ) (a b : List Begin) → SamePointee pairing k k' → StartsAlike a b → begins_in k cell a ≡ begins_in k' cell b
    starts_tell k k' cell [] [] e h = refl
    starts_tell k k' cell (x ∷ a) (y ∷ b) e h =
        ap₂ (λ test rest. test || rest) (ap₂ (λ place what. nat_eq cell place && what) h.0.1 (words_tell k k' x.what y.what e h.0.0)) (starts_tell k k' cell a b e h.1)
    starts_tell k k' cell [] (y ∷ b) e h = absurd h
    starts_tell k k' cell (x ∷ a) [] e h = absurd h

    pub plans_tell : (k k' : Pointee) (cell : ℕ) (p q : Option Plan) → SamePointee pairing k k' → Alike p q → begins_in_plan k cell p ≡ begins_in_plan k' cell q
    plans_tell k k' cell None None e h = refl
    plans_tell k k' cell (Some p) (Some q) e h = starts_tell k k' cell p.starts q.starts e h.starts
    plans_tell k k' cell None (Some q) e h = absurd h
    plans_tell k k' cell (Some p) None e h = absurd h
