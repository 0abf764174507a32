use Rattle.std.proofs.Common.{◌≡◌, length}
use Rattle.c_parser.specs.Names.{with_names}
use Rattle.c_parser.proofs.names.Names.add_all.Given as goal

abbrev pub invariant-loop-name : goal.invariant-loop-name
invariant-loop-name l = with_names l.names l.self ≡ with_names l.initial.names l.initial.self

abbrev pub decreases-loop-name : goal.decreases-loop-name
decreases-loop-name l = length l.names
