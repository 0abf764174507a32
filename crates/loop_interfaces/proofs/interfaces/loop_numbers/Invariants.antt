use Rattle.std.proofs.Common.{◌≡◌, map, take}
use Rattle.rvt_tree.specs.Views.{stmt_view}
use Rattle.loop_interfaces.specs.Loops.{number_of}
use Rattle.loop_interfaces.proofs.interfaces.loop_numbers.Given as goal

abbrev pub invariant-loops : goal.invariant-loops
invariant-loops l = l.numbers.items ≡ map number_of (map (λ s. stmt_view s.now) (take l.statement-index l.statement-items))
