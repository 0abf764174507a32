use Rattle.file_state.specs.Views.{file_state_view, interface_view}
use Rattle.file_state.proofs.EntryChanges.{number_stays}
use Rattle.file_state.proofs.declarations.function_declared.Goals as goal

pub returns-clause-number : goal.returns-clause-number
returns-clause-number c =
    number_stays c.args.word.now (interface_view c.args.interface.now) (file_state_view c.args.state.now) (file_state_view c.with_function.new.state)
    (file_state_view c.named_function.new.state) (file_state_view c.with_interface.new.state) c.in_ok-number.number
    c.in_ok-number.ensures.number c.in_ok-number.ensures.added c.in_ok-named_function.ensures.named c.in_ok-with_interface.ensures.given
