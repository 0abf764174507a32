use Rattle.std.proofs.Common.{rules, ◌≡◌, ◌<◌, List, length, get_or, ap}
use Rattle.file_typing.specs.FileScope.{FunctionEntry, undeclared, with_functions}
use Rattle.file_typing.specs.FunctionDefinitions.{with_body}
use Rattle.file_state.specs.Views.{body_view, file_state_view, interface_view}
use Rattle.file_state.proofs.EntryChanges.{entry_changed, still_numbered, more_declared}
use Rattle.file_state.proofs.declarations.with_body.Goals as goal

pub returns-clause-defined : goal.returns-clause-defined
returns-clause-defined c =
    let within : c.args.number < length c.args.state.now.functions.items = search rules in
    let read : c.index_mut.result.now ≡ get_or c.args.state.now.functions.items c.args.number c.index_mut.result.now = search rules in
    ap (λ (es : List FunctionEntry). with_functions es (file_state_view c.args.state.now))
    (entry_changed c.args.state.now.functions.items c.args.number c.index_mut.result.now c.give_body-more.new.entry within read
    (with_body (interface_view c.args.interface) (body_view c.args.body)) (undeclared c.args.word.now.name) c.give_body-more.ensures.given)

pub returns-clause-indexed : goal.returns-clause-indexed
returns-clause-indexed c =
    let within : c.args.number < length c.args.state.now.functions.items = search rules in
    let read : c.index_mut.result.now ≡ get_or c.args.state.now.functions.items c.args.number c.index_mut.result.now = search rules in
    record {
      structs = c.requires.indexed.structs;
      functions = still_numbered c.args.state.now.functions.items c.args.number c.index_mut.result.now c.give_body-more.new.entry within read
          c.args.state.now.function_numbers c.give_body-more.ensures.name c.requires.indexed.functions;
      declared = more_declared c.args.state.now.functions.items c.args.number c.index_mut.result.now c.give_body-more.new.entry within read
          c.args.state.now.declared c.give_body-more.result c.give_body-more.ensures.count c.requires.indexed.declared;
    }
