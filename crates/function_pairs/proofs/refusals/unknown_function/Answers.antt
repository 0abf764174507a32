use Rattle.function_pairs.proofs.Unknown.{unknown_same}
use Rattle.std.proofs.Common.{◌∙◌}
use Rattle.function_pairs.proofs.refusals.unknown_function.Goals as goal

pub returns : goal.returns
returns c = c.first_unknown_in.ensures ∙ unknown_same c.args.old.now c.args.new.now c.in_ok-old_numbers.old_numbers c.in_ok-new_numbers.new_numbers c.in_ok-old_numbers.ensures c.in_ok-new_numbers.ensures c.args.lines.now
