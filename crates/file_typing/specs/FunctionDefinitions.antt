-- Prototypes and definitions of functions (C 6.9.1).
use Rattle.std.specs.Prelude.{ℕ, [], Bool, true, false, if◌then◌else◌, Option, Some, is_some}
use Rattle.rvt_num.specs.declared.kinds.Kind.{Kind}
use Rattle.rvt_tree.specs.Syntax as t
use Rattle.c_syntax.specs.Syntax as s
use Rattle.c_syntax.specs.declared.bases.Word.{Word}
use Rattle.expression_typing.specs.Entities.{QualifiedType, in_scope}
use Rattle.expression_typing.specs.Outcomes.{Checking, Made, give, broken, and_then, noting, declared_twice}
use Rattle.file_typing.specs.Blocks.{Block}
use Rattle.file_typing.specs.DeclaratorTypes.{result_kind}
use Rattle.file_typing.specs.FileScope.{FileScope, FunctionEntry, Interface, Body, structures}
use Rattle.file_typing.specs.FunctionDeclarators.{typed_parameters, parameters_noted, may_name_function, unless_unlike, function_declared, number_of_function, entry_of, with_entry}
use Rattle.file_typing.specs.FunctionNotes.{of_no_function}
use Rattle.file_typing.specs.Statements.{typed_statement, typed_items}

-- the block of a function's parameters
abbrev pub outermost : FileScope → Option Kind → Block
outermost file result =
    record { here = []; around = file.names; tags = file.tags; structs = structures file; result = result; in_loop = false; in_switch = false }

-- a function that is declared, and the block in which its parameters are
pub record Header : Type 0 where
  pub file : FileScope
  pub block : Block
  pub interface : Interface

abbrev pub header : Word → Interface → Block → FileScope → Header
header word interface block file =
    record { file = function_declared word interface file; block = block; interface = interface }

-- the result, the name, the parameters, and then whether it is the type of the declarations before
abbrev pub typed_header : Bool → FileScope → QualifiedType → Word → s.Parameters → Checking Header
typed_header with_names file type word params =
    and_then (result_kind word.place type.named) (λ result.
    and_then (may_name_function file word) (λ _.
    and_then (noting of_no_function) (λ _.
    and_then (typed_parameters with_names (outermost file result) params) (λ block.
    and_then parameters_noted (λ params.
    and_then (unless_unlike word (record { params = params; result = result }) (in_scope file.names word.name)) (λ _.
    give (header word (record { params = params; result = result }) block file)))))))

abbrev pub typed_prototype : FileScope → QualifiedType → Word → s.Parameters → Checking FileScope
typed_prototype file type word params =
    and_then (typed_header false file type word params) (λ header. and_then (noting of_no_function) (λ _. give header.file))

-- ---- bodies

-- a function has one body
abbrev pub unless_defined : Word → FunctionEntry → Checking (Unit {0})
unless_defined word entry = if is_some entry.body then broken (declared_twice word.name) word.place else give tt

-- the parameters, and what the outermost block of the body declares, are one scope; round it is the file with this function
abbrev pub block_of_body : Header → Block
block_of_body header =
    record {
      here = header.block.here;
      around = header.file.names;
      tags = header.block.tags;
      structs = header.block.structs;
      result = header.block.result;
      in_loop = false;
      in_switch = false;
    }

abbrev pub typed_body : Block → s.Statement → Checking t.Statement
typed_body block (s.compound at items) = and_then (typed_items block items) (λ body. give (t.compound body))
typed_body block body = typed_statement block body

abbrev pub body_noted : t.Statement → Checking Body
body_noted statement notes = Made (record { statement = statement; locals = notes.locals; calls = notes.calls; taken = notes.taken }) (of_no_function notes)

-- a definition gives the names of the parameters
abbrev pub with_body : Interface → Body → FunctionEntry → FunctionEntry
with_body interface body entry = record { name = entry.name; interface = Some interface; body = Some body }

abbrev pub defined_numbered : Word → Header → Body → ℕ → FileScope
defined_numbered word header body number = with_entry number (with_body header.interface body (entry_of header.file number word)) header.file

abbrev pub typed_definition : FileScope → QualifiedType → Word → s.Parameters → s.Statement → Checking FileScope
typed_definition file type word params body =
    and_then (typed_header true file type word params) (λ header.
    and_then (unless_defined word (entry_of header.file (number_of_function header.file word) word)) (λ _.
    and_then (typed_body (block_of_body header) body) (λ made.
    and_then (body_noted made) (λ body.
    give (defined_numbered word header body (number_of_function header.file word))))))
