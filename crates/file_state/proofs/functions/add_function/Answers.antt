use Rattle.std.proofs.Common.{rules, refl}
use Rattle.file_state.proofs.Numbered.{function_numbered, still_declared}
use Rattle.file_state.proofs.functions.add_function.Goals as goal

pub returns-clause-indexed : goal.returns-clause-indexed
returns-clause-indexed c =
    record {
      structs = c.requires.indexed.structs;
      functions = function_numbered c.args.state.now.function_numbers c.number_first.new.numbers c.args.state.now.functions.items c.push.new.self.items _ c.args.name.now _
          c.requires.indexed.functions (search rules) c.in_ok-number_first.ensures c.in_ok-push.ensures.items (search rules);
      declared = still_declared c.args.state.now.declared c.args.state.now.functions.items c.push.new.self.items _ c.requires.indexed.declared c.in_ok-push.ensures.items refl;
    }
