use Rattle.std.proofs.Common.{map, take}
use Rattle.rvt_tree.specs.Views.{stmt_view}
use Rattle.loop_interfaces.specs.NameOrder.{AreInterfaces}
use Rattle.loop_interfaces.proofs.interfaces.loop_interfaces.Given as goal

abbrev pub invariant-loops : goal.invariant-loops
invariant-loops l = AreInterfaces l.function (map (λ s. stmt_view s.now) (take l.statement-index l.statement-items)) l.interfaces.items
