-- Where an expression begins, and what is called.
use Rattle.std.specs.Prelude.{map}
use Rattle.c_types.specs.Layout.{shape_of}
use Rattle.expression_typing.specs.Operands as x
use Rattle.expression_typing.specs.FunctionCalls as f
use Rattle.place_rules.specs.declared.operands.Ends.{Ends}
use Rattle.place_rules.specs.declared.function_calls.CalledFunction.{CalledFunction}

abbrev pub ends_view : Ends → x.Ends
ends_view ends = record { first = ends.first; array_name = ends.array_name }

abbrev pub callee_view : CalledFunction → f.Callee
callee_view callee = record { function = callee.function; params = map shape_of callee.params.now; result = callee.result }
