-- What the header of a function declares, and the names of its parameters, which the body sees once more.
use Rattle.std.specs.Prelude.{List, [], ◌∷◌, ◌++◌, map, Bool, Option, Some, None}
use Rattle.rvt_num.specs.declared.kinds.Kind.{Kind}
use Rattle.c_types.specs.Layout.{shape_of}
use Rattle.c_syntax.specs.Syntax as s
use Rattle.c_syntax.specs.declared.bases.Word.{Word}
use Rattle.expression_typing.specs.Entities.{Binding, Entity, a_local, in_scope}
use Rattle.expression_typing.specs.Outcomes.{Checking, give, and_then}
use Rattle.file_typing.specs.Blocks.{Block, with_binding}
use Rattle.file_typing.specs.FileScope.{FileScope}
use Rattle.file_typing.specs.FunctionDeclarators.{typed_parameters, parameters_noted, unless_unlike}
use Rattle.file_typing.specs.FunctionDefinitions as d
use Rattle.file_typing.specs.FunctionDefinitions.{outermost}
use Rattle.file_state.specs.declared.states.FileState.{FileState}
use Rattle.file_state.specs.Views.{file_state_view, interface_view}
use Rattle.file_items.specs.declared.headers.Header.{Header}
use Rattle.file_items.specs.declared.parameters.Parameter.{Parameter}

abbrev pub parameter_binding : Parameter → Binding
parameter_binding p = record { name = p.name; entity = a_local p.number (shape_of p.ty) p.constant }

-- these names are declared one after another
abbrev pub with_bindings : List Binding → Block → Block
with_bindings [] block = block
with_bindings (binding ∷ rest) block = with_bindings rest (with_binding binding block)

-- the block of a function whose parameters are these
abbrev pub block_of_parameters : FileScope → Option Kind → List Parameter → Block
block_of_parameters file result parameters = with_bindings (map parameter_binding parameters) (outermost file result)

-- what a header makes of the file that is there before it
abbrev pub header_view : FileScope → FileState → Header → d.Header
header_view before state header =
    record {
      file = file_state_view state;
      block = block_of_parameters before header.interface.result header.parameters.items;
      interface = interface_view header.interface;
    }

-- what follows the name of a function: the parameters, and then whether it is the type of the declarations before
abbrev pub header_behind : Bool → FileScope → Option Kind → Word → s.Parameters → Checking d.Header
header_behind with_names file result word params =
    and_then (typed_parameters with_names (outermost file result) params) (λ block.
    and_then parameters_noted (λ params.
    and_then (unless_unlike word (record { params = params; result = result }) (in_scope file.names word.name)) (λ _.
    give (d.header word (record { params = params; result = result }) block file))))

-- ---- parameters by their names

abbrev pub list_of : s.Parameters → List s.Parameter
list_of s.nothing = []
list_of s.only_void = []
list_of (s.parameters list) = list

abbrev pub found_as : Word → Option Entity → List Binding
found_as word None = []
found_as word (Some entity) = record { name = word.name; entity = entity } ∷ []

-- what a parameter's name stands for
abbrev pub binding_in : List Binding → Option Word → List Binding
binding_in names None = []
binding_in names (Some word) = found_as word (in_scope names word.name)

abbrev pub bindings_in : List Binding → List s.Parameter → List Binding
bindings_in names [] = []
bindings_in names (p ∷ rest) = binding_in names p.word ++ bindings_in names rest
