-- A chain of casts: the types from the first to the last, then the operand, then the casts from the last to the first.
use Rattle.std.proofs.Common.{◌≡◌, ◌∙◌, List, [], ◌∷◌, ◌++◌, ap, refl, sym, append_assoc}
use Rattle.std.proofs.Math.Path.{fun_ext}
use Rattle.rvt_tree.specs.declared.places.Place.{Place}
use Rattle.c_syntax.specs.Syntax.{Casts, Casts as c, TypeName}
use Rattle.expression_typing.specs.Entities.{Scope}
use Rattle.expression_typing.specs.Progress.{Notes}
use Rattle.expression_typing.specs.Operands.{Operand}
use Rattle.expression_typing.specs.CastOperators.{cast_to}
use Rattle.expression_typing.specs.Outcomes.{Cause, Outcome, Made, Broken, Checking, go_on, give, broken, and_then}
use Rattle.expression_typing.specs.TypeNames.{WrittenType}
use Rattle.expression_typing.specs.Expressions.{written_type, cast_in_turn}
use Rattle.expression_elaboration.specs.Chains.{CastTo, types_in_turn, cast_back}
use Rattle.expression_elaboration.proofs.Outcomes.{on_given, in_two_steps}

module _ (scope : Scope) (operand : Checking Operand) where
  abbrev pub types_then_casts : Casts → Checking Operand
  types_then_casts chain = and_then (types_in_turn scope chain) (λ types. and_then operand (cast_back types))

  cast_outside : (first : CastTo) (types : Outcome (List CastTo))
      → go_on (cast_to first.place first.type) (go_on (λ others. and_then operand (cast_back others)) types)
      ≡ go_on (λ all. and_then operand (cast_back all)) (go_on (λ others. give (first ∷ others)) types)
  cast_outside first (Made others m) = in_two_steps (cast_back others) (cast_to first.place first.type) (operand m)
  cast_outside first (Broken cause at) = refl

  one_more : (at : Place) (rest : Casts) → ((m : Notes) → cast_in_turn scope operand rest m ≡ types_then_casts rest m) → (written : Outcome WrittenType)
      → go_on (λ w. and_then (cast_in_turn scope operand rest) (cast_to at w)) written
      ≡ go_on (λ all. and_then operand (cast_back all)) (go_on (λ w. and_then (types_in_turn scope rest) (λ others. give (record { place = at; type = w } ∷ others))) written)
  one_more at rest others (Made w m) = ap (go_on (cast_to at w)) (others m) ∙ cast_outside (record { place = at; type = w }) (types_in_turn scope rest m)
  one_more at rest others (Broken cause place) = refl

  pub chain_of_casts : (chain : Casts) (n : Notes) → cast_in_turn scope operand chain n ≡ types_then_casts chain n
  chain_of_casts c.no_casts n = sym (on_given (operand n))
  chain_of_casts (c.cast at name rest) n = one_more at rest (λ m. chain_of_casts rest m) (written_type scope name n)

-- ---- the loop that applies them

last_first : (casts : List CastTo) (last : CastTo) (x : Operand) (n : Notes)
    → cast_back (casts ++ last ∷ []) x n ≡ and_then (cast_to last.place last.type x) (cast_back casts) n
last_first [] last x n = sym (on_given (cast_to last.place last.type x n))
last_first (first ∷ casts) last x n =
    ap (go_on (cast_to first.place first.type)) (last_first casts last x n)
    ∙ in_two_steps (cast_back casts) (cast_to first.place first.type) (cast_to last.place last.type x n)

pub cast_step : (whole : Checking Operand) (all casts : List CastTo) (last : CastTo) (x y : Operand)
    → whole ≡ cast_back all x → all ≡ casts ++ last ∷ [] → cast_to last.place last.type x ≡ give y → whole ≡ cast_back casts y
cast_step whole all casts last x y is all_is made =
    is ∙ ap (λ l. cast_back l x) all_is ∙ fun_ext (λ n. last_first casts last x n) ∙ ap (λ r. and_then r (cast_back casts)) made

pub cast_fails : (whole : Checking Operand) (all casts : List CastTo) (last : CastTo) (x : Operand) (cause : Cause) (at : Place)
    → whole ≡ cast_back all x → all ≡ casts ++ last ∷ [] → cast_to last.place last.type x ≡ broken cause at → whole ≡ broken cause at
cast_fails whole all casts last x cause at is all_is made =
    is ∙ ap (λ l. cast_back l x) all_is ∙ fun_ext (λ n. last_first casts last x n) ∙ ap (λ r. and_then r (cast_back casts)) made

-- ---- the loop that goes over the types

types_more : (before : List CastTo) (one : CastTo) (o : Outcome (List CastTo))
    → go_on (λ others. give (before ++ others)) (go_on (λ others. give (one ∷ others)) o) ≡ go_on (λ others. give ((before ++ one ∷ []) ++ others)) o
types_more before one (Made others m) = ap (λ l. Made l m) (sym (append_assoc before (one ∷ []) others))
types_more before one (Broken cause at) = refl

pub types_step : (scope : Scope) (whole : Outcome (List CastTo)) (chain rest : Casts) (at : Place) (name : TypeName) (made : List CastTo) (written : WrittenType) (n m : Notes)
    → whole ≡ and_then (types_in_turn scope chain) (λ others. give (made ++ others)) n → chain ≡ c.cast at name rest → written_type scope name n ≡ Made written m
    → whole ≡ and_then (types_in_turn scope rest) (λ others. give ((made ++ record { place = at; type = written } ∷ []) ++ others)) m
types_step scope whole chain rest at name made written n m is chain_is written_is =
    is ∙ ap (λ l. and_then (types_in_turn scope l) (λ others. give (made ++ others)) n) chain_is
    ∙ ap (λ o. go_on (λ others. give (made ++ others)) (go_on (λ w. and_then (types_in_turn scope rest) (λ others. give (record { place = at; type = w } ∷ others))) o)) written_is
    ∙ types_more made (record { place = at; type = written }) (types_in_turn scope rest m)
