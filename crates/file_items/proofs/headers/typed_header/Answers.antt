use Rattle.c_syntax.specs.Views.{params_view}
use Rattle.file_typing.specs.FunctionDeclarators.{may_name_function}
use Rattle.typing_base.specs.Views.{notes_view, qualified_view}
use Rattle.file_state.specs.Views.{file_state_view}
use Rattle.file_items.specs.FunctionHeaders.{header_view}
use Rattle.file_items.proofs.HeaderSteps.{after_name, header_kind, header_named}
use Rattle.file_items.proofs.Steps.{rule_fails_within, becomes_same}
use Rattle.file_items.proofs.headers.typed_header.Goals as goal

pub returns-in_err-may_name_function-clause-typed : goal.returns-in_err-may_name_function-clause-typed
returns-in_err-may_name_function-clause-typed c =
    let file = file_state_view c.args.state.now in
    let type = qualified_view c.args.ty.now in
    let params = params_view c.args.params.now in
    rule_fails_within (λ (x : Unit {0}). x) (header_view file c.args.state.now) (may_name_function file c.args.word.now) (notes_view c.args.notes.now)
    (λ _. after_name c.args.with_names file type c.args.word.now params c.in_ok-kind.kind) _ c.in_err-may_name_function.field-0.0 c.from_residual-in_err-may_name_function.result _
    c.from_residual-in_err-may_name_function.ensures.1
    (header_kind c.args.with_names file type c.args.word.now params (notes_view c.args.notes.now) c.in_ok-kind.kind c.in_ok-kind.ensures) c.in_err-may_name_function.ensures

pub returns-clause-typed : goal.returns-clause-typed
returns-clause-typed c =
    let file = file_state_view c.args.state.now in
    becomes_same (header_view file c.header_behind.new.state) _ _ c.header_behind.result c.header_behind.new.notes
    (header_named c.args.with_names file (qualified_view c.args.ty.now) c.args.word.now (params_view c.args.params.now) (notes_view c.args.notes.now) c.in_ok-kind.kind c.in_ok-kind.ensures
    c.in_ok-may_name_function.ensures (notes_view c.end_function.new.self) c.end_function.ensures.left)
    c.header_behind.ensures.typed
