use Rattle.std.proofs.Common.{rules, ◌≡◌, ◌<◌, List, length, get_or, ap}
use Rattle.file_typing.specs.FileScope.{FunctionEntry, undeclared, with_functions}
use Rattle.file_typing.specs.FunctionDeclarators.{with_interface}
use Rattle.file_state.specs.Views.{file_state_view, interface_view}
use Rattle.file_state.proofs.EntryChanges.{entry_changed, still_numbered, more_declared}
use Rattle.file_state.proofs.declarations.with_interface.Goals as goal

pub returns-clause-given : goal.returns-clause-given
returns-clause-given c =
    let within : c.args.number < length c.args.state.now.functions.items = search rules in
    let read : c.index_mut.result.now ≡ get_or c.args.state.now.functions.items c.args.number c.index_mut.result.now = search rules in
    ap (λ (es : List FunctionEntry). with_functions es (file_state_view c.args.state.now))
    (entry_changed c.args.state.now.functions.items c.args.number c.index_mut.result.now c.give_interface.new.entry within read
    (with_interface (interface_view c.args.interface.now)) (undeclared c.args.word.now.name) c.in_ok-more.ensures.given)

pub returns-clause-indexed : goal.returns-clause-indexed
returns-clause-indexed c =
    let within : c.args.number < length c.args.state.now.functions.items = search rules in
    let read : c.index_mut.result.now ≡ get_or c.args.state.now.functions.items c.args.number c.index_mut.result.now = search rules in
    record {
      structs = c.requires.indexed.structs;
      functions = still_numbered c.args.state.now.functions.items c.args.number c.index_mut.result.now c.give_interface.new.entry within read
          c.args.state.now.function_numbers c.in_ok-more.ensures.name c.requires.indexed.functions;
      declared = more_declared c.args.state.now.functions.items c.args.number c.index_mut.result.now c.give_interface.new.entry within read
          c.args.state.now.declared c.in_ok-more.more c.in_ok-more.ensures.count c.requires.indexed.declared;
    }
