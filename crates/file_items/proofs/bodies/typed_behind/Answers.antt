use Rattle.std.proofs.Common.{ap, ◌∙◌}
use Rattle.rvt_tree.specs.Views.{stmt_view}
use Rattle.c_syntax.specs.Views as s
use Rattle.file_typing.specs.FunctionDefinitions.{typed_body}
use Rattle.typing_base.specs.Views.{notes_view}
use Rattle.file_items.proofs.ParametersAgain.{block_again}
use Rattle.file_items.proofs.Steps.{fails_as}
use Rattle.file_items.proofs.bodies.typed_behind.Goals as goal

pub returns-in_err-made-clause-typed : goal.returns-in_err-made-clause-typed
returns-in_err-made-clause-typed c =
    let block = block_again c.args.state.now c.height-height.result c.args.header.now.interface.result c.height-height.ensures c.args.header.now.parameters.items c.deref.result.now _
    c.deref.ensures.value c.in_ok-declare_parameters.ensures.declared in
    fails_as stmt_view stmt_view _ _ c.in_err-made.field-0.0 c.from_residual-in_err-made.result c.typed_body.new.notes c.typed_body.new.notes c.from_residual-in_err-made.ensures.1
    (ap (λ b. typed_body b (s.stmt_view c.args.body.now) (notes_view c.args.notes.now)) block) c.in_err-made.ensures.typed

pub returns-clause-typed : goal.returns-clause-typed
returns-clause-typed c =
    let block = block_again c.args.state.now c.height-height.result c.args.header.now.interface.result c.height-height.ensures c.args.header.now.parameters.items c.deref.result.now _
    c.deref.ensures.value c.in_ok-declare_parameters.ensures.declared in
    ap (λ b. typed_body b (s.stmt_view c.args.body.now) (notes_view c.args.notes.now)) block ∙ c.in_ok-made.ensures.typed
