use Rattle.std.proofs.Common.{ap, map, ◌∙◌}
use Rattle.rvt_tree.specs.Views as t
use Rattle.c_syntax.specs.Views.{params_view, stmt_view}
use Rattle.file_typing.specs.FunctionDeclarators.{entry_of, with_entry}
use Rattle.file_typing.specs.FunctionDefinitions.{typed_body, with_body}
use Rattle.typing_base.specs.Views.{notes_view, qualified_view}
use Rattle.file_state.specs.Views.{body_view, file_state_view, interface_view}
use Rattle.file_items.specs.FunctionHeaders.{block_of_parameters, header_view, parameter_binding}
use Rattle.file_items.proofs.BodyBlocks.{block_behind}
use Rattle.file_items.proofs.DefinitionSteps.{after_body, definition_new, definition_made}
use Rattle.file_items.proofs.Steps.{fails_within}
use Rattle.file_items.proofs.definitions.typed_definition.Goals as goal

pub returns-in_err-statement-clause-typed : goal.returns-in_err-statement-clause-typed
returns-in_err-statement-clause-typed c =
    let before = file_state_view c.args.state.now in
    let after = file_state_view c.typed_header.new.state in
    let type = qualified_view c.args.ty.now in
    let params = params_view c.args.params.now in
    let body = stmt_view c.args.body.now in
    let header = c.in_ok-header.header in
    let made = header_view before c.typed_header.new.state header in
    let block = block_of_parameters after header.interface.result header.parameters.items in
    let behind = block_behind before after header.interface.result (map parameter_binding header.parameters.items) (interface_view header.interface) c.in_ok-header.ensures.tags c.in_ok-header.ensures.structs in
    fails_within t.stmt_view (λ (_ : Unit {0}). file_state_view c.typed_behind.new.state) (typed_body block body (notes_view c.typed_header.new.notes))
    (after_body before type c.args.word.now params body made) _ c.in_err-statement.field-0.0 c.from_residual-in_err-statement.result c.typed_behind.new.notes _ c.from_residual-in_err-statement.ensures.1
    (definition_new before type c.args.word.now params body made (notes_view c.args.notes.now) (notes_view c.typed_header.new.notes) c.in_ok-header.ensures.typed header.number c.in_ok-header.ensures.number
    c.in_ok-unless_defined.ensures block behind)
    c.in_err-statement.ensures.typed

pub returns-clause-typed : goal.returns-clause-typed
returns-clause-typed c =
    let before = file_state_view c.args.state.now in
    let after = file_state_view c.typed_header.new.state in
    let type = qualified_view c.args.ty.now in
    let params = params_view c.args.params.now in
    let body = stmt_view c.args.body.now in
    let header = c.in_ok-header.header in
    let made = header_view before c.typed_header.new.state header in
    let block = block_of_parameters after header.interface.result header.parameters.items in
    let behind = block_behind before after header.interface.result (map parameter_binding header.parameters.items) (interface_view header.interface) c.in_ok-header.ensures.tags c.in_ok-header.ensures.structs in
    let noted = body_view c.body_noted-body.result in
    definition_made before type c.args.word.now params body made (notes_view c.args.notes.now) (notes_view c.typed_header.new.notes) c.in_ok-header.ensures.typed header.number c.in_ok-header.ensures.number
    c.in_ok-unless_defined.ensures block behind (t.stmt_view c.in_ok-statement.statement) noted (notes_view c.typed_behind.new.notes) _ _ c.in_ok-statement.ensures.typed c.body_noted-body.ensures
    (c.in_ok-with_body.ensures.defined
    ∙ ap (λ state. with_entry header.number (with_body (interface_view header.interface) noted (entry_of (file_state_view state) header.number c.args.word.now)) (file_state_view state)) c.in_ok-statement.ensures.same)
