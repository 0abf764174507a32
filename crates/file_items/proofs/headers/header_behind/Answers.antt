use Rattle.std.proofs.Common.{◌≡◌, Err, ap, subst, sym, ◌∙◌}
use Rattle.c_syntax.specs.Views.{params_view}
use Rattle.expression_typing.specs.Entities.{in_scope}
use Rattle.expression_typing.specs.Outcomes.{Made, give}
use Rattle.file_typing.specs.FileScope.{Interface}
use Rattle.file_typing.specs.FunctionDeclarators.{function_declared, unless_unlike}
use Rattle.file_typing.specs.FunctionDefinitions.{header}
use Rattle.typing_base.specs.Follows.{Gives}
use Rattle.typing_base.specs.Views.{notes_view}
use Rattle.file_state.specs.Views.{file_state_view, interface_view}
use Rattle.file_items.specs.FunctionHeaders.{block_of_parameters, header_view}
use Rattle.file_items.proofs.BodyBlocks.{tags_kept, structs_kept}
use Rattle.file_items.proofs.HeaderSteps.{behind_alike, behind_made}
use Rattle.file_items.proofs.Steps.{rule_fails_within}
use Rattle.file_items.proofs.headers.header_behind.Goals as goal

pub returns-in_err-unless_unlike_in_file-clause-typed : goal.returns-in_err-unless_unlike_in_file-clause-typed
returns-in_err-unless_unlike_in_file-clause-typed c =
    let file = file_state_view c.args.state.now in
    let block = block_of_parameters file c.args.kind c.in_ok-parameters.parameters.items in
    let interface = interface_view c.in_ok-interface.interface in
    rule_fails_within (λ (x : Unit {0}). x) (header_view file c.parameters_of_header.new.state) (unless_unlike c.args.word.now interface (in_scope file.names c.args.word.now.name))
    (notes_view c.parameters_of_header.new.notes) (λ _. give (header c.args.word.now interface block file)) _ c.in_err-unless_unlike_in_file.field-0.0
    c.from_residual-in_err-unless_unlike_in_file.result _ c.from_residual-in_err-unless_unlike_in_file.ensures.1
    (behind_alike c.args.with_names file c.args.kind c.args.word.now (params_view c.args.params.now) (notes_view c.args.notes.now) block (notes_view c.parameters_of_header.new.notes)
    c.in_ok-parameters.ensures.typed interface c.in_ok-interface.ensures)
    (subst (λ state. Gives (λ (x : Unit {0}). x) (unless_unlike c.args.word.now interface (in_scope (file_state_view state).names c.args.word.now.name)) (Err c.in_err-unless_unlike_in_file.field-0.0))
    c.in_ok-parameters.ensures.same c.in_err-unless_unlike_in_file.ensures)

pub returns-clause-typed : goal.returns-clause-typed
returns-clause-typed c =
    let file = file_state_view c.args.state.now in
    let block = block_of_parameters file c.in_ok-interface.interface.result c.in_ok-parameters.parameters.items in
    let interface = interface_view c.in_ok-interface.interface in
    behind_made c.args.with_names file c.args.kind c.args.word.now (params_view c.args.params.now) (notes_view c.args.notes.now) block (notes_view c.parameters_of_header.new.notes)
    (c.in_ok-parameters.ensures.typed
    ∙ ap (λ kind. Made (block_of_parameters file kind c.in_ok-parameters.parameters.items) (notes_view c.parameters_of_header.new.notes)) (sym (ap (λ (i : Interface). i.result) c.in_ok-interface.ensures)))
    interface c.in_ok-interface.ensures (file_state_view c.function_declared.new.state)
    (c.in_ok-number.ensures.declared ∙ ap (λ state. function_declared c.args.word.now interface (file_state_view state)) c.in_ok-parameters.ensures.same)
    (subst (λ state. unless_unlike c.args.word.now interface (in_scope (file_state_view state).names c.args.word.now.name) ≡ give tt) c.in_ok-parameters.ensures.same
    c.in_ok-unless_unlike_in_file.ensures)

pub returns-clause-tags : goal.returns-clause-tags
returns-clause-tags c =
    ap (λ file. file.tags) c.in_ok-number.ensures.declared
    ∙ tags_kept c.args.word.now (interface_view c.in_ok-interface.interface) (file_state_view c.parameters_of_header.new.state)
    ∙ ap (λ state. (file_state_view state).tags) c.in_ok-parameters.ensures.same

pub returns-clause-structs : goal.returns-clause-structs
returns-clause-structs c =
    ap (λ file. file.structs) c.in_ok-number.ensures.declared
    ∙ structs_kept c.args.word.now (interface_view c.in_ok-interface.interface) (file_state_view c.parameters_of_header.new.state)
    ∙ ap (λ state. (file_state_view state).structs) c.in_ok-parameters.ensures.same
