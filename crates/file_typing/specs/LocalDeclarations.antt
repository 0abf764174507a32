-- Declarations in a block (C 6.7): each declarator is a declaration of its own.
use Rattle.std.specs.Prelude.{ℕ, List, [], ◌∷◌, ◌++◌, Option, Some, None}
use Rattle.rvt_tree.specs.declared.expressions.Variable.TheVariants as V
use Rattle.rvt_tree.specs.Syntax as t
use Rattle.c_syntax.specs.Syntax as s
use Rattle.expression_typing.specs.Entities.{a_local, QualifiedType, Structure}
use Rattle.expression_typing.specs.Outcomes.{Checking, give, and_then}
use Rattle.expression_typing.specs.Progress.{Local}
use Rattle.expression_typing.specs.TypeNames.{base_type}
use Rattle.file_typing.specs.Blocks.{Block, scope_of, with_binding, unless_declared}
use Rattle.file_typing.specs.FunctionNotes.{numbered}
use Rattle.file_typing.specs.DeclaratorTypes.{as_local, ValueType, type_of_declarator}
use Rattle.file_typing.specs.Initializers.{typed_initializer, anything, size_of}

-- ---- one declarator

abbrev pub local_of : s.InitDeclarator → List Structure → ValueType → Local
local_of init structs type =
    record {
      name = init.declarator.word.name;
      place = init.declarator.word.place;
      type = type.shape;
      cells = size_of structs type.shape;
      constant = type.constant;
    }

-- a local is in scope from its own initializer on
abbrev pub with_local_named : ℕ → Local → Block → Block
with_local_named number local block = with_binding (record { name = local.name; entity = a_local number local.type local.constant }) block

abbrev pub initialized : Block → ℕ → Local → Option s.Initializer → Checking t.Statement
initialized block number local None = give (t.declaration (V.Local number))
initialized block number local (Some i) =
    and_then (typed_initializer (scope_of block) anything local.type i) (λ i. give (t.declaration_with (V.Local number) i))

-- ---- declarations

-- what has been declared, and the block from there on
pub record Declared : Type 0 where
  pub block : Block
  pub statements : List t.Statement

-- the lengths, the type, the name, and then the initializer
abbrev pub typed_declarator : Block → QualifiedType → s.InitDeclarator → Checking Declared
typed_declarator block base init =
    and_then (type_of_declarator as_local (scope_of block) base init) (λ type.
    and_then (unless_declared block.here init.declarator.word.name init.declarator.word.place) (λ _.
    and_then (numbered (local_of init block.structs type)) (λ number.
    and_then (initialized (with_local_named number (local_of init block.structs type) block) number (local_of init block.structs type) init.value) (λ made.
    give (record { block = with_local_named number (local_of init block.structs type) block; statements = made ∷ [] })))))

abbrev pub typed_declarators : Block → QualifiedType → List s.InitDeclarator → Checking Declared
typed_declarators block base [] = give (record { block = block; statements = [] })
typed_declarators block base (init ∷ rest) =
    and_then (typed_declarator block base init) (λ first.
    and_then (typed_declarators first.block base rest) (λ others.
    give (record { block = others.block; statements = first.statements ++ others.statements })))

abbrev pub typed_declaration : Block → s.Declaration → Checking Declared
typed_declaration block declaration =
    and_then (base_type (scope_of block) declaration.base) (λ base. typed_declarators block base declaration.inits)
