-- A struct is complete only where the structs in its fields are.
use Rattle.std.proofs.Common.{◌≡◌, ℕ, zero, suc, ◌+◌, ◌*◌, List, [], ◌∷◌, Bool, true, false, Option, Some, None, refl, ap, ◌∙◌, subst}
use Rattle.std.specs.Prelude.{option_map, option_and_then, slice_get, if◌then◌else◌}
use Rattle.rvt_tree.specs.declared.types.CType.{CType}
use Rattle.rvt_tree.specs.declared.types.CType.TheVariants.{Word, Pointer, Array', Struct}
use Rattle.rvt_tree.specs.declared.programs.StructDef.{StructDef}
use Rattle.rvt_tree.specs.declared.programs.Structs.{Structs}
use Rattle.c_layout.specs.Sizes.{At, limited, size_with, size_in_order, size_of_definition, size_of_struct, struct_in, types_of, Needs}

pub type_needs : (known : ℕ → Option ℕ) (ty : CType) (s : ℕ) → struct_in ty ≡ Some s → known s ≡ None → size_with known ty ≡ None
type_needs known (Word kind) s h e = absurd (cc)
type_needs known (Pointer pointee constant) s h e = absurd (cc)
type_needs known (Array' p element count) s h e = ap (option_map (λ size. limited (count * size))) (type_needs known element s h e)
type_needs known (Struct number) s h e = let same : s ≡ number = cc in subst (λ n. known n ≡ None) same e

none_first : (a b : Option ℕ) → a ≡ None → option_and_then (λ first. option_map (λ rest. limited (first + rest)) b) a ≡ None
none_first None b h = refl
none_first (Some x) b h = absurd (cc)

none_rest : (a b : Option ℕ) → b ≡ None → option_and_then (λ first. option_map (λ rest. limited (first + rest)) b) a ≡ None
none_rest None b h = refl
none_rest (Some x) None h = refl
none_rest (Some x) (Some y) h = absurd (cc)

pub order_needs : (known : ℕ → Option ℕ) (types : List CType) (i : ℕ) (ty : CType) → At types i ty → size_with known ty ≡ None → size_in_order known types ≡ None
order_needs known [] i ty h e = absurd (cc)
order_needs known (first ∷ types) zero ty h e = let same : ty ≡ first = cc in none_first (size_with known first) (size_in_order known types) (subst (λ t. size_with known t ≡ None) same e)
order_needs known (first ∷ types) (suc i) ty h e = none_rest (size_with known first) (size_in_order known types) (order_needs known types i ty h e)

chosen_none : (b : Bool) (o : Option ℕ) → o ≡ None → (if b then o else None) ≡ None
chosen_none true o h = h
chosen_none false o h = refl

pub field_needs : (structs : Structs) (outer inner : ℕ) (definition : StructDef) (i : ℕ) (ty : CType) →
    At structs.list outer definition → At (types_of definition.fields) i ty → struct_in ty ≡ Some inner → Needs structs outer inner
field_needs structs outer inner definition i ty there field h depth e =
    ap (size_of_definition (size_of_struct structs depth)) there
    ∙ chosen_none definition.complete _ (order_needs (size_of_struct structs depth) (types_of definition.fields) i ty field (type_needs (size_of_struct structs depth) ty inner h e))

-- a struct that isn't there, or isn't complete, has no size
pub none_absent : (structs : Structs) (number : ℕ) → slice_get structs.list number ≡ None → (depth : ℕ) → size_of_struct structs depth number ≡ None
none_absent structs number h zero = refl
none_absent structs number h (suc depth) = ap (size_of_definition (size_of_struct structs depth)) h

chosen_else : (b : Bool) (o : Option ℕ) → b ≡ false → (if b then o else None) ≡ None
chosen_else true o h = absurd (cc)
chosen_else false o h = refl

pub none_incomplete : (structs : Structs) (number : ℕ) (definition : StructDef) → At structs.list number definition → definition.complete ≡ false →
    (depth : ℕ) → size_of_struct structs depth number ≡ None
none_incomplete structs number definition there h zero = refl
none_incomplete structs number definition there h (suc depth) =
    ap (size_of_definition (size_of_struct structs depth)) there ∙ chosen_else definition.complete _ h

chosen_then : (b : Bool) (o : Option ℕ) → b ≡ true → (if b then o else None) ≡ o
chosen_then true o h = refl
chosen_then false o h = absurd (cc)

pub complete_size : (structs : Structs) (number : ℕ) (definition : StructDef) → At structs.list number definition → definition.complete ≡ true →
    (depth : ℕ) → size_of_struct structs (suc depth) number ≡ size_in_order (size_of_struct structs depth) (types_of definition.fields)
complete_size structs number definition there h depth =
    ap (size_of_definition (size_of_struct structs depth)) there ∙ chosen_then definition.complete _ h
