-- Typedefs (C 6.7.8).
use Rattle.std.specs.Prelude.{List, [], ◌∷◌}
use Rattle.c_syntax.specs.Syntax as s
use Rattle.expression_typing.specs.Entities.{QualifiedType, a_typedef}
use Rattle.expression_typing.specs.Expressions.{lengths}
use Rattle.expression_typing.specs.Outcomes.{Checking, give, and_then}
use Rattle.expression_typing.specs.TypeNames.{pointed}
use Rattle.file_typing.specs.Blocks.{unless_declared}
use Rattle.file_typing.specs.DeclaratorTypes.{as_typedef, declared_type}
use Rattle.file_typing.specs.FileScope.{FileScope, structures, scope_of_file, with_name}

abbrev pub typed_typedef : FileScope → QualifiedType → s.Declarator → Checking FileScope
typed_typedef file base declarator =
    and_then (lengths (scope_of_file file) declarator.dimensions) (λ counts.
    and_then (declared_type as_typedef (structures file) declarator.word.place (pointed declarator.pointer base) counts) (λ type.
    and_then (unless_declared file.names declarator.word.name declarator.word.place) (λ _.
    give (with_name (record { name = declarator.word.name; entity = a_typedef type }) file))))

abbrev pub typed_typedefs : FileScope → QualifiedType → List s.Declarator → Checking FileScope
typed_typedefs file base [] = give file
typed_typedefs file base (declarator ∷ rest) = and_then (typed_typedef file base declarator) (λ file. typed_typedefs file base rest)
