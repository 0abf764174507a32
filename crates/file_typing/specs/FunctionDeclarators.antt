-- Functions and their parameters (C 6.7.6.3).
use Rattle.std.specs.Prelude.{ℕ, List, [], ◌∷◌, ◌++◌, map, count_by, set, nat_le, Bool, true, false, ◌&&◌, if◌then◌else◌, Option, Some, None, is_some, unwrap_or, slice_get}
use Rattle.rvt_num.specs.declared.kinds.Kind.{Kind}
use Rattle.rvt_tree.specs.declared.places.Place.{Place}
use Rattle.c_types.specs.Layout.{Shape, same_shape, same_kind}
use Rattle.c_syntax.specs.Syntax as s
use Rattle.c_syntax.specs.declared.bases.Word.{Word}
use Rattle.expression_typing.specs.Entities.{Entity, a_local, an_object, a_function, a_constant, the_null, a_typedef, in_scope}
use Rattle.expression_typing.specs.Limits.{most_functions}
use Rattle.expression_typing.specs.Outcomes.{Checking, Made, give, broken, and_then, declared_twice, wrong_type, beyond_a_limit}
use Rattle.expression_typing.specs.Progress.{Local}
use Rattle.expression_typing.specs.Expressions.{lengths}
use Rattle.expression_typing.specs.TypeNames.{base_type, pointed}
use Rattle.file_typing.specs.Blocks.{Block, scope_of, with_binding, unless_declared}
use Rattle.file_typing.specs.DeclaratorTypes.{as_parameter, ValueType, declared_type, value_type, adjusted}
use Rattle.file_typing.specs.FileScope.{FileScope, FunctionEntry, Interface, undeclared, function_number, with_name, with_functions}
use Rattle.file_typing.specs.FunctionNotes.{numbered}

-- ---- parameters

-- where a parameter is declared: at its name, or without one at the first token of its base
abbrev pub place_of_parameter : s.Parameter → Place
place_of_parameter p = place_or p.base.place p.word where
  place_or : Place → Option Word → Place
  place_or first None = first
  place_or first (Some word) = word.place

abbrev pub name_or_none : Option Word → List ℕ
name_or_none None = []
name_or_none (Some word) = word.name

-- the parameters of a definition have names (C 6.9.1)
abbrev pub unless_nameless : Bool → s.Parameter → Checking (Unit {0})
unless_nameless true p = if is_some p.word then give tt else broken wrong_type p.base.place
unless_nameless false p = give tt

abbrev pub unless_repeated : Block → Option Word → Checking (Unit {0})
unless_repeated block None = give tt
unless_repeated block (Some word) = unless_declared block.here word.name word.place

abbrev pub parameter_of : s.Parameter → ValueType → Local
parameter_of p type = record { name = name_or_none p.word; place = place_of_parameter p; type = type.shape; cells = 1; constant = type.constant }

abbrev pub with_parameter : Option Word → ℕ → Local → Block → Block
with_parameter None number local block = block
with_parameter (Some word) number local block = with_binding (record { name = word.name; entity = a_local number local.type local.constant }) block

-- the type of a parameter: its lengths, and then what it may be
abbrev pub type_of_parameter : Bool → Block → s.Parameter → Checking ValueType
type_of_parameter with_names block p =
    and_then (base_type (scope_of block) p.base) (λ base.
    and_then (lengths (scope_of block) p.dimensions) (λ counts.
    and_then (unless_nameless with_names p) (λ _.
    and_then (declared_type as_parameter block.structs (place_of_parameter p) (pointed p.pointer base) counts) (λ type.
    and_then (value_type (place_of_parameter p) type) (λ type.
    give (adjusted type type.shape))))))

-- a parameter is in scope from the next one on
abbrev pub typed_parameter : Bool → Block → s.Parameter → Checking Block
typed_parameter with_names block p =
    and_then (type_of_parameter with_names block p) (λ type.
    and_then (unless_repeated block p.word) (λ _.
    and_then (numbered (parameter_of p type)) (λ number.
    give (with_parameter p.word number (parameter_of p type) block))))

abbrev pub typed_list : Bool → Block → List s.Parameter → Checking Block
typed_list with_names block [] = give block
typed_list with_names block (p ∷ rest) = and_then (typed_parameter with_names block p) (λ block. typed_list with_names block rest)

-- the block in which the parameters are declared; their types are noted in order
abbrev pub typed_parameters : Bool → Block → s.Parameters → Checking Block
typed_parameters with_names block s.nothing = give block
typed_parameters with_names block s.only_void = give block
typed_parameters with_names block (s.parameters list) = typed_list with_names block list

abbrev pub parameters_noted : Checking (List Local)
parameters_noted notes = Made notes.locals notes

-- ---- the name of a function

-- a name at file scope is that of a function, or is not declared yet
abbrev pub unless_other : Word → Option Entity → Checking (Unit {0})
unless_other word None = give tt
unless_other word (Some (a_function number params result)) = give tt
unless_other word (Some (a_local number shape constant)) = broken (declared_twice word.name) word.place
unless_other word (Some (an_object number shape constant)) = broken (declared_twice word.name) word.place
unless_other word (Some (a_constant n)) = broken (declared_twice word.name) word.place
unless_other word (Some the_null) = broken (declared_twice word.name) word.place
unless_other word (Some (a_typedef type)) = broken (declared_twice word.name) word.place

abbrev pub functions_declared : List FunctionEntry → ℕ
functions_declared functions = count_by (λ entry. is_some entry.interface) functions

-- one more function, where the name is a new one
abbrev pub unless_too_many : FileScope → Word → Option Entity → Checking (Unit {0})
unless_too_many file word None = if nat_le most_functions (functions_declared file.functions) then broken beyond_a_limit word.place else give tt
unless_too_many file word (Some entity) = give tt

abbrev pub may_name_function : FileScope → Word → Checking (Unit {0})
may_name_function file word =
    and_then (unless_other word (in_scope file.names word.name)) (λ _. unless_too_many file word (in_scope file.names word.name))

-- ---- all declarations of a function have one type

abbrev pub same_shapes : List Shape → List Shape → Bool
same_shapes [] [] = true
same_shapes (a ∷ others) (b ∷ rest) = same_shape a b && same_shapes others rest
same_shapes _ _ = false

abbrev pub same_result : Option Kind → Option Kind → Bool
same_result None None = true
same_result (Some a) (Some b) = same_kind a b
same_result _ _ = false

abbrev pub shapes_of : List Local → List Shape
shapes_of params = map (λ param. param.type) params

abbrev pub unless_unlike : Word → Interface → Option Entity → Checking (Unit {0})
unless_unlike word interface (Some (a_function number params result)) =
    if same_shapes params (shapes_of interface.params) && same_result result interface.result then give tt else broken wrong_type word.place
unless_unlike word interface _ = give tt

-- ---- a function is declared

-- the functions of the file, among which one of this name gets its number
abbrev pub with_function : Word → FileScope → FileScope
with_function word file = with_numbered file word (function_number file.functions word.name) where
  with_numbered : FileScope → Word → Option ℕ → FileScope
  with_numbered file word (Some number) = file
  with_numbered file word None = with_functions (file.functions ++ undeclared word.name ∷ []) file

abbrev pub number_of_function : FileScope → Word → ℕ
number_of_function file word = unwrap_or (function_number file.functions word.name) 0

abbrev pub entry_of : FileScope → ℕ → Word → FunctionEntry
entry_of file number word = unwrap_or (slice_get file.functions number) (undeclared word.name)

abbrev pub interface_or : Option Interface → Interface → Option Interface
interface_or None interface = Some interface
interface_or (Some first) interface = Some first

-- a prototype without a body: the first one gives the parameters
abbrev pub with_interface : Interface → FunctionEntry → FunctionEntry
with_interface interface entry = record { name = entry.name; interface = interface_or entry.interface interface; body = entry.body }

abbrev pub with_entry : ℕ → FunctionEntry → FileScope → FileScope
with_entry number entry file = with_functions (set file.functions number entry) file

abbrev pub named_function : Word → ℕ → Interface → Option Entity → FileScope → FileScope
named_function word number interface (Some entity) file = file
named_function word number interface None file =
    with_name (record { name = word.name; entity = a_function number (shapes_of interface.params) interface.result }) file

abbrev pub declared_numbered : Word → Interface → ℕ → FileScope → FileScope
declared_numbered word interface number file =
    with_entry number (with_interface interface (entry_of file number word)) (named_function word number interface (in_scope file.names word.name) file)

abbrev pub function_declared : Word → Interface → FileScope → FileScope
function_declared word interface file =
    declared_numbered word interface (number_of_function (with_function word file) word) (with_function word file)
