-- Parts of rules of declarations.
use Rattle.std.specs.Prelude.{ℤ, ◌+ℤ◌, pos, Bool}
use Rattle.c_syntax.specs.Syntax as s
use Rattle.expression_typing.specs.Entities.{QualifiedType, Scope}
use Rattle.expression_typing.specs.Expressions.{lengths}
use Rattle.expression_typing.specs.Outcomes.{Checking, give, and_then}
use Rattle.expression_typing.specs.TypeNames.{base_type, pointed}
use Rattle.file_typing.specs.Blocks.{unless_declared}
use Rattle.file_typing.specs.DeclaratorTypes.{ValueType, adjusted, as_parameter, declared_type, value_type}
use Rattle.file_typing.specs.Enumerations.{value_or, is_int, with_constant}
use Rattle.file_typing.specs.FileScope.{FileScope, scope_of_file}
use Rattle.file_typing.specs.FunctionDeclarators.{place_of_parameter, unless_nameless}
use Rattle.file_typing.specs.Structs.{Members, typed_fields}

-- one constant of an enum, and the value of the next one unless it has its own
abbrev pub one_constant : FileScope → ℤ → s.EnumerationConstant → Checking (FileScope × ℤ)
one_constant file next one =
    and_then (value_or file next one.value) (λ value.
    and_then (is_int one.word value) (λ _.
    and_then (unless_declared file.names one.word.name one.word.place) (λ _.
    give (with_constant one.word value file, value +ℤ pos 1))))

-- one line of a struct's fields
abbrev pub typed_line : FileScope → Members → s.FieldDeclaration → Checking Members
typed_line file members line =
    and_then (base_type (scope_of_file file) line.base) (λ base. typed_fields file base members line.declarators)

-- the type of a parameter whose base has this type
abbrev pub type_on_base : Bool → Scope → QualifiedType → s.Parameter → Checking ValueType
type_on_base with_names scope base p =
    and_then (lengths scope p.dimensions) (λ counts.
    and_then (unless_nameless with_names p) (λ _.
    and_then (declared_type as_parameter scope.structs (place_of_parameter p) (pointed p.pointer base) counts) (λ type.
    and_then (value_type (place_of_parameter p) type) (λ type.
    give (adjusted type type.shape)))))
