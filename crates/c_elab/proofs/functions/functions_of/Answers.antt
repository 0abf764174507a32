use Rattle.std.proofs.Common.{map, refl}
use Rattle.file_state.specs.Views.{struct_entry_view}
use Rattle.c_elab.proofs.FunctionLists.{next_function, next_objects}
use Rattle.c_elab.proofs.functions.functions_of.Goals as goal

pub functions-preserved : goal.functions-preserved
functions-preserved c =
    let structs = map struct_entry_view c.args.structs.now in
    let before = c.functions.objects.items in
    let after = c.with_objects.new.objects.items in
    let more = c.in_ok-function.ensures.objects in
    record {
      functions = next_function structs c.functions.number c.in-Some.entry before after more _ _ c.in_ok-function.function _ _ _ c.in_ok-push.ensures.items c.in-Some.ensures.steps.0 c.in_ok-function.ensures.function c.functions.invariant.functions;
      objects = next_objects structs c.functions.number c.in-Some.entry before after more _ _ _ _ refl c.in-Some.ensures.steps.0 c.functions.invariant.objects;
    }
