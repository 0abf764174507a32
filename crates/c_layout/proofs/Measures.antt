-- The size of a type is the number of cells of its plan, as far as it is counted.
use Rattle.std.proofs.Common.{◌≡◌, ℕ, zero, suc, ◌+◌, ◌*◌, List, [], ◌∷◌, ◌++◌, map, length, Bool, true, false, Option, Some, None, refl, ap, ◌∙◌, arith, length-append}
use Rattle.std.specs.Prelude.{option_map, option_and_then, slice_get, if◌then◌else◌}
use Rattle.rvt_tree.specs.declared.types.CType.{CType}
use Rattle.rvt_tree.specs.declared.types.CType.TheVariants.{Word, Pointer, Array', Struct}
use Rattle.rvt_tree.specs.declared.programs.StructDef.{StructDef}
use Rattle.rvt_tree.specs.declared.programs.Structs.{Structs}
use Rattle.c_types.specs.Layout.{Plan, Shape, AnArray, AStruct, shape_of, is_whole, repeated, followed_by, plan_with, plan_in_order, plan_of_definition, plan_of_struct, plan_of}
use Rattle.c_layout.specs.Sizes.{limited, size_of_plan, size_with, size_in_order, size_of_definition, size_of_struct}

pub repeated_size : (n : ℕ) (p : Plan) → limited (length (repeated n p).cells) ≡ limited (n * limited (length p.cells))
repeated_size zero p = omega arith
repeated_size (suc n) p =
    let m = limited (length p.cells) in
    let d : suc n * m ≡ m + n * m = grind arith in
    let r = repeated_size n p in
    let s = length-append p.cells (repeated n p).cells in
    omega (arith, d, r, s)

followed_size : (a b : Plan) → limited (length (a.cells ++ b.cells)) ≡ limited (limited (length a.cells) + limited (length b.cells))
followed_size a b = let s = length-append a.cells b.cells in omega (arith, s)

array_size : (shape : Shape) (n : ℕ) (o : Option Plan) →
    option_map size_of_plan (option_map (λ plan. is_whole shape (repeated n plan)) o) ≡ option_map (λ size. limited (n * size)) (option_map size_of_plan o)
array_size shape n None = refl
array_size shape n (Some p) = ap Some (repeated_size n p)

whole_size : (shape : Shape) (o : Option Plan) → option_map size_of_plan (option_map (is_whole shape) o) ≡ option_map size_of_plan o
whole_size shape None = refl
whole_size shape (Some p) = refl

joined_size : (a b : Option Plan) →
    option_map size_of_plan (option_and_then (λ first. option_map (followed_by first) b) a)
    ≡ option_and_then (λ first. option_map (λ rest. limited (first + rest)) (option_map size_of_plan b)) (option_map size_of_plan a)
joined_size None b = refl
joined_size (Some p) None = refl
joined_size (Some p) (Some q) = ap Some (followed_size p q)

pub plan_size : (plans : ℕ → Option Plan) (sizes : ℕ → Option ℕ) → ((s : ℕ) → option_map size_of_plan (plans s) ≡ sizes s) →
    (ty : CType) → option_map size_of_plan (plan_with plans ty) ≡ size_with sizes ty
plan_size plans sizes h (Word kind) = refl
plan_size plans sizes h (Pointer pointee constant) = refl
plan_size plans sizes h (Array' p element count) =
    array_size (AnArray (shape_of element) count) count (plan_with plans element) ∙ ap (option_map (λ size. limited (count * size))) (plan_size plans sizes h element)
plan_size plans sizes h (Struct number) = whole_size (AStruct number) (plans number) ∙ h number

pub order_size : (plans : ℕ → Option Plan) (sizes : ℕ → Option ℕ) → ((s : ℕ) → option_map size_of_plan (plans s) ≡ sizes s) →
    (types : List CType) → option_map size_of_plan (plan_in_order plans types) ≡ size_in_order sizes types
order_size plans sizes h [] = refl
order_size plans sizes h (ty ∷ types) =
    joined_size (plan_with plans ty) (plan_in_order plans types)
    ∙ ap (λ b. option_and_then (λ first. option_map (λ rest. limited (first + rest)) b) (option_map size_of_plan (plan_with plans ty))) (order_size plans sizes h types)
    ∙ ap (λ a. option_and_then (λ first. option_map (λ rest. limited (first + rest)) (size_in_order sizes types)) a) (plan_size plans sizes h ty)

chosen_size : (b : Bool) (o : Option Plan) (s : Option ℕ) → option_map size_of_plan o ≡ s →
    option_map size_of_plan (if b then o else None) ≡ (if b then s else None)
chosen_size true o s h = h
chosen_size false o s h = refl

definition_size : (plans : ℕ → Option Plan) (sizes : ℕ → Option ℕ) → ((s : ℕ) → option_map size_of_plan (plans s) ≡ sizes s) →
    (definition : Option StructDef) → option_map size_of_plan (plan_of_definition plans definition) ≡ size_of_definition sizes definition
definition_size plans sizes h None = refl
definition_size plans sizes h (Some d) = chosen_size d.complete _ _ (order_size plans sizes h (map (λ field. field.1) d.fields))

pub struct_size : (structs : Structs) (depth number : ℕ) → option_map size_of_plan (plan_of_struct structs depth number) ≡ size_of_struct structs depth number
struct_size structs zero number = refl
struct_size structs (suc depth) number = definition_size (plan_of_struct structs depth) (size_of_struct structs depth) (struct_size structs depth) (slice_get structs.list number)

pub type_size : (structs : Structs) (ty : CType) → option_map size_of_plan (plan_of structs ty) ≡ size_with (size_of_struct structs (length structs.list)) ty
type_size structs ty = plan_size (plan_of_struct structs (length structs.list)) (size_of_struct structs (length structs.list)) (struct_size structs (length structs.list)) ty

pub no_plan : (o : Option Plan) → option_map size_of_plan o ≡ None → o ≡ None
no_plan None h = refl
no_plan (Some p) h = absurd (cc)
