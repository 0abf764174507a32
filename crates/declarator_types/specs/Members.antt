-- An initializer of one member, and those in braces of any type.
use Rattle.std.specs.Prelude.{ℕ}
use Rattle.rvt_tree.specs.Syntax as t
use Rattle.c_types.specs.Layout.{Shape, AWord, APointer, AnArray, AStruct}
use Rattle.c_syntax.specs.Syntax as s
use Rattle.expression_typing.specs.Entities.{Scope}
use Rattle.expression_typing.specs.Outcomes.{Checking, give, and_then, wanted, wrong_type}
use Rattle.file_typing.specs.Initializers.{Asked, member_of, size_of, first_token_of, no_members, typed_alone, typed_initializer, typed_members}

-- the initializer, and the size of the member
abbrev pub typed_member : Scope → Asked → Shape → ℕ → s.Initializer → Checking (t.Initializer × ℕ)
typed_member scope asked shape number i =
    and_then (wanted wrong_type (first_token_of i) (member_of scope.structs shape number)) (λ member.
    and_then (typed_initializer scope asked member i) (λ first. give (first, size_of scope.structs member)))

abbrev pub typed_braces : Scope → Asked → Shape → s.Initializers → Checking t.Initializers
typed_braces scope asked (AWord kind) members = typed_alone scope asked kind members
typed_braces scope asked (APointer pointee to_constant) members = and_then (no_members members) (λ _. give t.no_initializers)
typed_braces scope asked (AnArray item count) members = typed_members scope asked (AnArray item count) 0 members
typed_braces scope asked (AStruct structure) members = typed_members scope asked (AStruct structure) 0 members
