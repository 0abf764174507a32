use Rattle.std.proofs.Common.{◌≡◌, ◌++◌, map, length}
use Rattle.c_syntax.specs.Views.{item_view}
use Rattle.file_typing.specs.FileScope.{definitions, with_functions}
use Rattle.file_state.specs.Indexes.{IsIndexed}
use Rattle.file_state.specs.Views.{file_state_view}
use Rattle.file_state.proofs.outline.add_definitions.Given as goal

abbrev pub invariant-items : goal.invariant-items
invariant-items l = record {
  whole : with_functions ((file_state_view l.state).functions ++ definitions (map item_view l.rest)) (file_state_view l.state)
      ≡ with_functions ((file_state_view l.initial.state).functions ++ definitions (map item_view l.fn.items)) (file_state_view l.initial.state);
  indexed : IsIndexed l.state;
}

abbrev pub decreases-items : goal.decreases-items
decreases-items l = length l.rest
