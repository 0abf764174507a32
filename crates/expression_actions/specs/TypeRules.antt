-- What each action on types makes of what was read: `None` where a value is missing.
use Rattle.std.specs.Prelude.{ℕ, true, false, List, [], ◌∷◌, ◌++◌, Option, Some, None}
use Rattle.rvt_tree.specs.declared.places.Place.{Place}
use Rattle.c_syntax.specs.declared.bases.Pointer.{Pointer}
use Rattle.c_syntax.specs.declared.bases.Specifier.{Specifier}
use Rattle.c_syntax.specs.declared.bases.Specifier.TheVariants as S
use Rattle.c_syntax.specs.Syntax as syntax
use Rattle.c_syntax.specs.Syntax.{Dimension, dimensions_of}
use Rattle.c_tokens.specs.declared.tokens.TokenClass.{TokenClass}
use Rattle.expression_actions.specs.declared.half_bases.HalfBase.{HalfBase}
use Rattle.expression_actions.specs.Bases.{empty_base, begun_at, base_of}
use Rattle.expression_actions.specs.Operators.{type_word_of}
use Rattle.expression_actions.specs.Stacks.{TypeValues, word_at}

-- before the first token
abbrev pub no_types_read : TypeValues
no_types_read = record { bases = []; pointers = []; dims = []; names = [] }

-- ---- bases

abbrev pub new_base : TypeValues → Option TypeValues
new_base v = Some (record v { bases = empty_base ∷ v.bases })

-- the base that is being read becomes another
abbrev pub base_becomes : (HalfBase → HalfBase) → List HalfBase → TypeValues → Option TypeValues
base_becomes changed [] v = None
base_becomes changed (base ∷ bases) v = Some (record v { bases = changed base ∷ bases })

-- the word `struct` or `enum`
abbrev pub begin : Place → TypeValues → Option TypeValues
begin place v = base_becomes (begun_at place) v.bases v

-- `const` in a base
abbrev pub constant : Place → TypeValues → Option TypeValues
constant place v = base_becomes (λ base. record (begun_at place base) { constant = true }) v.bases v

abbrev pub type_word : TokenClass → Place → TypeValues → Option TypeValues
type_word class place v = base_becomes (λ base. record (begun_at place base) { words = base.words ++ type_word_of class ∷ [] }) v.bases v

-- the name of a typedef
abbrev pub named : List ℕ → Place → TypeValues → Option TypeValues
named text place v = base_becomes (λ base. record (begun_at place base) { tag = Some (S.Named (word_at text place)) }) v.bases v

abbrev pub tag : Specifier → TypeValues → Option TypeValues
tag specifier v = base_becomes (λ base. record base { tag = Some specifier }) v.bases v

abbrev pub struct_tag : List ℕ → Place → TypeValues → Option TypeValues
struct_tag text place v = tag (S.Struct (Some (word_at text place))) v

abbrev pub no_struct_tag : TypeValues → Option TypeValues
no_struct_tag v = tag (S.Struct None) v

abbrev pub enum_tag : List ℕ → Place → TypeValues → Option TypeValues
enum_tag text place v = tag (S.Enum (Some (word_at text place))) v

abbrev pub no_enum_tag : TypeValues → Option TypeValues
no_enum_tag v = tag (S.Enum None) v

-- ---- pointers

-- the `*` of a declarator
abbrev pub pointer : Place → TypeValues → Option TypeValues
pointer place v = Some (record v { pointers = Some (record { place = place; constant = false }) ∷ v.pointers })

abbrev pub no_pointer : TypeValues → Option TypeValues
no_pointer v = Some (record v { pointers = None ∷ v.pointers })

-- `const` after it
abbrev pub constant_pointer : Option Pointer → Option Pointer
constant_pointer None = None
constant_pointer (Some p) = Some (record { place = p.place; constant = true })

abbrev pub pointer_constant_by : List (Option Pointer) → TypeValues → Option TypeValues
pointer_constant_by [] v = None
pointer_constant_by (p ∷ pointers) v = Some (record v { pointers = constant_pointer p ∷ pointers })

abbrev pub pointer_constant : TypeValues → Option TypeValues
pointer_constant v = pointer_constant_by v.pointers v

-- ---- dimensions and types

abbrev pub no_dims : TypeValues → Option TypeValues
no_dims v = Some (record v { dims = [] ∷ v.dims })

abbrev pub add_dim_by : Dimension → List (List Dimension) → TypeValues → Option TypeValues
add_dim_by dimension [] v = None
add_dim_by dimension (list ∷ lists) v = Some (record v { dims = (list ++ dimension ∷ []) ∷ lists })

abbrev pub add_dim : Dimension → TypeValues → Option TypeValues
add_dim dimension v = add_dim_by dimension v.dims v

-- a type that is named in an expression (C 6.7.7)
abbrev pub type_name_by : List HalfBase → List (Option Pointer) → List (List Dimension) → TypeValues → Option TypeValues
type_name_by [] pointers lists v = None
type_name_by (half ∷ bases) [] lists v = None
type_name_by (half ∷ bases) (p ∷ pointers) [] v = None
type_name_by (half ∷ bases) (p ∷ pointers) (list ∷ lists) v =
    Some (record { bases = bases; pointers = pointers; dims = lists; names = syntax.type_name (base_of half) p (dimensions_of list) ∷ v.names })

abbrev pub type_name : TypeValues → Option TypeValues
type_name v = type_name_by v.bases v.pointers v.dims v
