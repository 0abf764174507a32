use Rattle.std.proofs.Common.{ap, map, sym}
use Rattle.c_syntax.specs.Views.{item_view}
use Rattle.file_typing.specs.Items.{typed_items}
use Rattle.typing_base.specs.Views.{notes_view}
use Rattle.file_state.specs.Views.{file_state_view}
use Rattle.file_items.proofs.Steps.{fails_as}
use Rattle.file_items.proofs.items.all_items.Goals as goal

pub returns-in_err-typed_items-clause-typed : goal.returns-in_err-typed_items-clause-typed
returns-in_err-typed_items-clause-typed c =
    fails_as (λ (_ : Unit {0}). file_state_view c.typed_items.new.state) file_state_view
    _ _ c.in_err-typed_items.field-0.0 c.from_residual-in_err-typed_items.result c.typed_items.new.notes c.typed_items.new.notes c.from_residual-in_err-typed_items.ensures.1
    (ap (λ file. typed_items file (map item_view c.args.items.now) (notes_view c.args.notes.now)) (sym c.in_ok-state.ensures.beginning)) c.in_err-typed_items.ensures.typed
