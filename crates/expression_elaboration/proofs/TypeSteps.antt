-- The name of a type, part by part, and the lists of types and lengths.
use Rattle.std.proofs.Common.{◌≡◌, ◌∙◌, List, [], ◌∷◌, ◌++◌, map, Option, Err, ℤ, ap, sym}
use Rattle.std.proofs.lemmas.List.{map-append}
use Rattle.c_syntax.specs.declared.bases.Base.{Base}
use Rattle.c_syntax.specs.declared.bases.Pointer.{Pointer}
use Rattle.c_syntax.specs.Syntax.{Casts, Casts as c, TypeName, type_name, Dimension, Dimensions, Dimensions as d}
use Rattle.expression_typing.specs.Entities.{Scope, QualifiedType}
use Rattle.expression_typing.specs.Progress as g
use Rattle.expression_typing.specs.Outcomes.{Outcome, Made, go_on, give, and_then}
use Rattle.expression_typing.specs.TypeNames.{WrittenType, Lengths, base_type, pointed}
use Rattle.expression_typing.specs.Expressions.{written_type, lengths}
use Rattle.typing_base.specs.declared.faults.Fault.{Fault}
use Rattle.typing_base.specs.declared.faults.Fault.TheVariants as F
use Rattle.typing_base.specs.declared.notes.Notes.{Notes}
use Rattle.typing_base.specs.Follows.{Becomes, Gives}
use Rattle.expression_elaboration.specs.declared.chains.CastTo.{CastTo}
use Rattle.operator_rules.specs.Views.{written_view}
use Rattle.expression_elaboration.specs.Views.{cast_view}
use Rattle.expression_elaboration.specs.Chains.{types_in_turn, length_of}
use Rattle.expression_elaboration.specs.Chains as h
use Rattle.expression_elaboration.proofs.CastChains.{types_step}
use Rattle.expression_elaboration.proofs.Lists.{dimension_then}

pub types_step_of : (scope : Scope) (whole : Outcome (List h.CastTo)) (chain rest : Casts) (name : TypeName) (new made : List CastTo) (one : CastTo) (n m : g.Notes)
    → whole ≡ and_then (types_in_turn scope chain) (λ others. give (map cast_view made ++ others)) n → chain ≡ c.cast one.place name rest
    → written_type scope name n ≡ Made (written_view one.ty) m → new ≡ made ++ one ∷ []
    → whole ≡ and_then (types_in_turn scope rest) (λ others. give (map cast_view new ++ others)) m
types_step_of scope whole chain rest name new made one n m is chain_is written_is new_is =
    types_step scope whole chain rest one.place name (map cast_view made) (written_view one.ty) n m is chain_is written_is
    ∙ ap (λ l. and_then (types_in_turn scope rest) (λ others. give (l ++ others)) m) (sym (ap (map cast_view) new_is ∙ map-append cast_view made (one ∷ [])))

pub base_fails : {A B : Type 0} (view : B → QualifiedType) (other : A → WrittenType) (scope : Scope) (base : Base) (pointer : Option Pointer) (dims : Dimensions) (n : g.Notes) (fault : Fault) (k : Notes)
    → Gives view (base_type scope base) (Err fault) → Becomes other (written_type scope (type_name base pointer dims) n) (Err fault) k
base_fails view other scope base pointer dims n (F.Broken b) k failed =
    ap (λ r. and_then r (λ type. and_then (lengths scope dims) (λ numbers. give (record { place = base.place; type = pointed pointer type; lengths = numbers }))) n) failed
base_fails view other scope base pointer dims n F.Memory k failed = tt

after_base : (scope : Scope) (base : Base) (pointer : Option Pointer) (dims : Dimensions) (type : QualifiedType) (n : g.Notes) → base_type scope base ≡ give type
    → written_type scope (type_name base pointer dims) n ≡ and_then (lengths scope dims) (λ numbers. give (record { place = base.place; type = pointed pointer type; lengths = numbers })) n
after_base scope base pointer dims type n is =
    ap (λ r. and_then r (λ type. and_then (lengths scope dims) (λ numbers. give (record { place = base.place; type = pointed pointer type; lengths = numbers }))) n) is

pub dims_fail : {A B : Type 0} (view : B → Lengths) (other : A → WrittenType) (scope : Scope) (base : Base) (pointer : Option Pointer) (dims : Dimensions) (type : QualifiedType) (n : g.Notes) (fault : Fault) (m k : Notes)
    → base_type scope base ≡ give type → Becomes view (lengths scope dims n) (Err fault) m → Becomes other (written_type scope (type_name base pointer dims) n) (Err fault) k
dims_fail view other scope base pointer dims type n (F.Broken b) m k is failed =
    after_base scope base pointer dims type n is ∙ ap (go_on (λ numbers. give (record { place = base.place; type = pointed pointer type; lengths = numbers }))) failed
dims_fail view other scope base pointer dims type n F.Memory m k is failed = tt

pub type_written : (scope : Scope) (base : Base) (pointer : Option Pointer) (dims : Dimensions) (type whole : QualifiedType) (numbers : Lengths) (n m : g.Notes)
    → base_type scope base ≡ give type → lengths scope dims n ≡ Made numbers m → whole ≡ pointed pointer type
    → written_type scope (type_name base pointer dims) n ≡ Made (record { place = base.place; type = whole; lengths = numbers }) m
type_written scope base pointer dims type whole numbers n m is numbers_is whole_is =
    after_base scope base pointer dims type n is ∙ ap (go_on (λ numbers. give (record { place = base.place; type = pointed pointer type; lengths = numbers }))) numbers_is
    ∙ ap (λ t. Made (record { place = base.place; type = t; lengths = numbers }) m) (sym whole_is)

pub length_fails : {A B : Type 0} (view : B → Option ℤ) (other : A → Lengths) (scope : Scope) (whole : Outcome Lengths) (all rest : Dimensions) (dimension : Dimension) (made : Lengths) (n : g.Notes) (fault : Fault) (m k : Notes)
    → whole ≡ and_then (lengths scope all) (λ others. give (made ++ others)) n → all ≡ d.dimension dimension rest
    → Becomes view (length_of scope dimension n) (Err fault) m → Becomes other whole (Err fault) k
length_fails view other scope whole all rest dimension made n (F.Broken b) m k is all_is failed =
    is ∙ ap (λ l. and_then (lengths scope l) (λ others. give (made ++ others)) n) all_is
    ∙ ap (go_on (λ others. give (made ++ others))) (dimension_then scope dimension rest n)
    ∙ ap (λ o. go_on (λ others. give (made ++ others)) (go_on (λ one. and_then (lengths scope rest) (λ others. give (one ∷ others))) o)) failed
length_fails view other scope whole all rest dimension made n F.Memory m k is all_is failed = tt
