use Rattle.std.proofs.Common.{◌≡◌, map, length}
use Rattle.c_syntax.specs.Views.{item_view}
use Rattle.file_typing.specs.Items.{typed_items}
use Rattle.typing_base.specs.Views.{notes_view}
use Rattle.file_state.specs.Indexes.{IsIndexed}
use Rattle.file_state.specs.Views.{file_state_view}
use Rattle.file_items.proofs.items.typed_items.Given as goal

abbrev pub invariant-items : goal.invariant-items
invariant-items l = record {
  indexed : IsIndexed l.state;
  same_outcome : typed_items (file_state_view l.initial.state) (map item_view l.fn.items) (notes_view l.initial.notes)
      ≡ typed_items (file_state_view l.state) (map item_view l.rest) (notes_view l.notes);
}

abbrev pub decreases-items : goal.decreases-items
decreases-items l = length l.rest
