use Rattle.std.proofs.Common.{rules, ◌≡◌, ◌<◌, length, get_or}
use Rattle.file_state.specs.Views.{members_view}
use Rattle.file_state.proofs.Completed.{still_numbered}
use Rattle.file_state.proofs.structs.body_ended.Goals as goal

pub returns-then-place-len-clause-indexed : goal.returns-then-place-len-clause-indexed
returns-then-place-len-clause-indexed c =
    let within : c.args.number < length c.args.state.now.environment.structs.items = search rules in
    let read : c.index_mut.result.now ≡ get_or c.args.state.now.environment.structs.items c.args.number c.index_mut.result.now = search rules in
    record {
      structs = still_numbered c.args.state.now.struct_numbers c.args.state.now.environment.structs.items c.args.number c.index_mut.result.now c.complete.new.structure
          (members_view c.args.members) within read c.complete.ensures c.requires.indexed.structs;
      functions = c.requires.indexed.functions;
      declared = c.requires.indexed.declared;
    }
