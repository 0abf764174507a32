-- What is noted of a function.
use Rattle.c_types.specs.Layout.{shape_of}
use Rattle.expression_typing.specs.Progress as p
use Rattle.typing_base.specs.declared.locals.Local.{Local}
use Rattle.typing_base.specs.declared.notes.Call.{Call}
use Rattle.typing_base.specs.declared.addresses.Taken.{Taken}

abbrev pub local_view : Local → p.Local
local_view local = record { name = local.name; place = local.place; type = shape_of local.ty; cells = local.cells; constant = local.constant }

abbrev pub call_view : Call → p.Call
call_view call = record { function = call.function; name = call.name; place = call.place }

abbrev pub taken_view : Taken → p.Taken
taken_view taken = record { variable = taken.variable; place = taken.place }
