-- Types that are the same have the same plans in files with the same structs, where a struct is paired with itself alone.
use Rattle.std.proofs.Common.{◌≡◌, ℕ, zero, suc, List, [], ◌∷◌, length, map, slice_get, if◌then◌else◌, Option, Some, None, option_map, option_and_then, refl, ap, ap₂, ◌∙◌}
use Rattle.rvt_tree.specs.declared.types.CType.{CType}
use Rattle.rvt_tree.specs.declared.types.CType.TheVariants as C
use Rattle.rvt_tree.specs.declared.types.Pointee.{Pointee}
use Rattle.rvt_tree.specs.declared.types.Pointee.TheVariants as P
use Rattle.rvt_tree.specs.declared.pairings.Pairing.{Pairing}
use Rattle.rvt_tree.specs.declared.programs.StructDef.{StructDef}
use Rattle.rvt_tree.specs.declared.programs.Structs.{Structs}
use Rattle.rvt_tree.specs.Same.{ArePaired, SamePointee}
use Rattle.c_types.specs.Layout.{Shape, AWord, APointer, AnArray, AStruct, shape_of, Plan, one_cell, is_whole, repeated, followed_by, plan_with, plan_in_order, plan_of_definition, plan_of_struct, plan_of}
use Rattle.c_meaning.specs.Twins.{SameShape, SameType}
use Rattle.one_table.specs.Tables.{SameFields, SameStruct, SameStructs}

-- each number is paired with itself alone
abbrev pub PairsItself : List (Option ℕ) → Type 0
PairsItself list = (a b : ℕ) → ArePaired list a b → a ≡ b

pub as_many : (pairing : Pairing) (a b : List StructDef) → SameStructs pairing a b → length a ≡ length b
as_many pairing [] [] h = refl
as_many pairing (a ∷ structs) (b ∷ structs') h = ap suc (as_many pairing structs structs' h.1)
as_many pairing [] (b ∷ structs') h = absurd h
as_many pairing (a ∷ structs) [] h = absurd h

module _ (pairing : Pairing) (itself : PairsItself pairing.structs) where
  pub pointee_same : (a b : Pointee) → SamePointee pairing a b → a ≡ b
  pointee_same (P.Word a) (P.Word b) h = ap P.Word h
  pointee_same (P.Word a) (P.Struct b) h = absurd h
  pointee_same (P.Struct a) (P.Word b) h = absurd h
  pointee_same (P.Struct a) (P.Struct b) h = ap P.Struct (itself a b h)

  shape_same : (a b : Shape) → SameShape pairing a b → a ≡ b
  shape_same (AWord a) (AWord b) h = ap AWord h
  shape_same (AWord a) _ h = absurd h
  shape_same (APointer a to_constant) (APointer b to_constant') h = ap₂ APointer (pointee_same a b h.0) h.1
  shape_same (APointer a to_constant) _ h = absurd h
  shape_same (AnArray a n) (AnArray b m) h = ap₂ AnArray (shape_same a b h.0) h.1
  shape_same (AnArray a n) _ h = absurd h
  shape_same (AStruct a) (AStruct b) h = ap AStruct (itself a b h)
  shape_same (AStruct a) _ h = absurd h

  module _ (known known' : ℕ → Option Plan) (alike : (number : ℕ) → known number ≡ known' number) where
    type_plan : (a b : CType) → SameType pairing a b → plan_with known a ≡ plan_with known' b
    type_plan (C.Word a) (C.Word b) h = ap (λ kind. Some (one_cell (AWord kind) (Some kind))) h
    type_plan (C.Word a) _ h = absurd h
    type_plan (C.Pointer a to_constant) (C.Pointer b to_constant') h =
        ap₂ (λ pointee constant. Some (one_cell (APointer pointee constant) None)) (pointee_same a b h.0) h.1
    type_plan (C.Pointer a to_constant) _ h = absurd h
    type_plan (C.Array' p a n) (C.Array' q b m) h =
        ap₂ (λ shape count. option_map (λ plan. is_whole (AnArray shape count) (repeated count plan)) (plan_with known a)) (shape_same (shape_of a) (shape_of b) h.0) h.1
        ∙ ap (λ r. option_map (λ plan. is_whole (AnArray (shape_of b) m) (repeated m plan)) r) (type_plan a b h.0)
    type_plan (C.Array' p a n) _ h = absurd h
    type_plan (C.Struct a) (C.Struct b) h =
        ap (λ number. option_map (is_whole (AStruct number)) (known number)) (itself a b h) ∙ ap (λ r. option_map (is_whole (AStruct b)) r) (alike b)
    type_plan (C.Struct a) _ h = absurd h

    fields_plan : (a b : List (List ℕ × CType)) → SameFields pairing a b → plan_in_order known (map (λ field. field.1) a) ≡ plan_in_order known' (map (λ field. field.1) b)
    fields_plan [] [] h = refl
    fields_plan (a ∷ fields) (b ∷ fields') h =
        ap₂ (λ first rest. option_and_then (λ plan. option_map (followed_by plan) rest) first) (type_plan a.1 b.1 h.0.1) (fields_plan fields fields' h.1)
    fields_plan [] (b ∷ fields') h = absurd h
    fields_plan (a ∷ fields) [] h = absurd h

    definition_plan : (a b : StructDef) → SameStruct pairing a b → plan_of_definition known (Some a) ≡ plan_of_definition known' (Some b)
    definition_plan a b h = ap₂ (λ complete plan. if complete then plan else None) h.complete (fields_plan a.fields b.fields h.fields)

    entry_plan : (a b : List StructDef) → SameStructs pairing a b → (number : ℕ) → plan_of_definition known (slice_get a number) ≡ plan_of_definition known' (slice_get b number)
    entry_plan [] [] h number = refl
    entry_plan (a ∷ structs) (b ∷ structs') h zero = definition_plan a b h.0
    entry_plan (a ∷ structs) (b ∷ structs') h (suc number) = entry_plan structs structs' h.1 number
    entry_plan [] (b ∷ structs') h number = absurd h
    entry_plan (a ∷ structs) [] h number = absurd h

  module _ (a b : Structs) (same : SameStructs pairing a.list b.list) where
    pub struct_plan : (depth number : ℕ) → plan_of_struct a depth number ≡ plan_of_struct b depth number
    struct_plan zero number = refl
    struct_plan (suc depth) number = entry_plan (plan_of_struct a depth) (plan_of_struct b depth) (struct_plan depth) a.list b.list same number

    pub plan_same : (x y : CType) → SameType pairing x y → plan_of a x ≡ plan_of b y
    plan_same x y h =
        ap (λ depth. plan_with (plan_of_struct a depth) x) (as_many pairing a.list b.list same)
        ∙ type_plan (plan_of_struct a (length b.list)) (plan_of_struct b (length b.list)) (struct_plan (length b.list)) x y h
