-- What the values of a file's state stand for.
use Rattle.std.specs.Prelude.{map, option_map}
use Rattle.rvt_tree.specs.Views.{stmt_view}
use Rattle.file_typing.specs.FileScope as f
use Rattle.file_typing.specs.Structs as s
use Rattle.file_typing.specs.Programs.{object_view}
use Rattle.typing_base.specs.NoteViews.{local_view, call_view, taken_view}
use Rattle.typing_base.specs.Views.{binding_view, field_view, structure_view, tag_view}
use Rattle.typing_base.specs.declared.structures.Structure.{Structure}
use Rattle.file_state.specs.declared.entries.Interface.{Interface}
use Rattle.file_state.specs.declared.entries.FunctionBody.{FunctionBody}
use Rattle.file_state.specs.declared.entries.FunctionEntry.{FunctionEntry}
use Rattle.file_state.specs.declared.entries.Members.{Members}
use Rattle.file_state.specs.declared.states.FileState.{FileState}

abbrev pub struct_entry_view : Structure → f.StructEntry
struct_entry_view s = record { tag = s.tag; tagged = s.tagged; structure = structure_view s; contents = s.contents.items }

abbrev pub members_view : Members → s.Members
members_view m = record { fields = map field_view m.fields.items; contents = m.contents.items }

abbrev pub interface_view : Interface → f.Interface
interface_view i = record { params = map local_view i.params.items; result = i.result }

abbrev pub body_view : FunctionBody → f.Body
body_view b =
    record {
      statement = stmt_view b.statement;
      locals = map local_view b.locals.items;
      calls = map call_view b.calls.items;
      taken = map taken_view b.taken;
    }

abbrev pub function_entry_view : FunctionEntry → f.FunctionEntry
function_entry_view e = record { name = e.name; interface = option_map interface_view e.interface; body = option_map body_view e.body }

abbrev pub file_state_view : FileState → f.FileScope
file_state_view s =
    record {
      names = map binding_view s.environment.names;
      tags = map tag_view s.environment.tags;
      structs = map struct_entry_view s.environment.structs.items;
      bodies = s.bodies;
      functions = map function_entry_view s.functions.items;
      objects = map object_view s.objects.items;
    }
