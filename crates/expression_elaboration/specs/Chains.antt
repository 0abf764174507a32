-- Chains of suffixes, of casts and of arguments, part by part.
use Rattle.std.specs.Prelude.{List, [], ◌∷◌, Option, Some, None, ℤ}
use Rattle.rvt_tree.specs.declared.places.Place.{Place}
use Rattle.rvt_tree.specs.declared.expressions.Expr.{Expr}
use Rattle.rvt_tree.specs.Syntax.{no_arguments, Arguments as TypedArguments}
use Rattle.rvt_tree.specs.Views.{exprs_before}
use Rattle.c_syntax.specs.Syntax.{Suffixes, Suffixes as s, Casts, Casts as c, Dimension, unsized, sized}
use Rattle.expression_typing.specs.Entities.{Scope}
use Rattle.expression_typing.specs.Operands.{Operand}
use Rattle.expression_typing.specs.Outcomes.{Checking, give, and_then}
use Rattle.expression_typing.specs.TypeNames.{WrittenType}
use Rattle.expression_typing.specs.CastOperators.{cast_to}
use Rattle.expression_typing.specs.Expressions.{written_type, constant}

-- ---- suffixes

-- a suffix after others, of a chain that ends with it
abbrev pub after : Suffixes → Suffixes → Suffixes
after (s.index at i _) before = s.index at i before
after (s.dot at word _) before = s.dot at word before
after (s.arrow at word _) before = s.arrow at word before
after s.no_suffixes before = before

-- suffixes after others, the last one first
abbrev pub stacked : List Suffixes → Suffixes → Suffixes
stacked [] before = before
stacked (suffix ∷ earlier) before = after suffix (stacked earlier before)

-- ---- casts

-- a cast at its place
pub record CastTo : Type 0 where
  pub place : Place
  pub type : WrittenType

-- the types of casts, in order
abbrev pub types_in_turn : Scope → Casts → Checking (List CastTo)
types_in_turn scope c.no_casts = give []
types_in_turn scope (c.cast at name rest) =
    and_then (written_type scope name) (λ written.
    and_then (types_in_turn scope rest) (λ others.
    give (record { place = at; type = written } ∷ others)))

-- casts of an operand, the last one first
abbrev pub cast_back : List CastTo → Operand → Checking Operand
cast_back [] operand = give operand
cast_back (first ∷ others) operand = and_then (cast_back others operand) (cast_to first.place first.type)

-- ---- lengths and arguments

-- the length of one dimension
abbrev pub length_of : Scope → Dimension → Checking (Option ℤ)
length_of scope (unsized at) = give None
length_of scope (sized at x) = and_then (constant scope x) (λ n. give (Some n.value))

abbrev pub values_of : List Expr → TypedArguments
values_of values = exprs_before values no_arguments
