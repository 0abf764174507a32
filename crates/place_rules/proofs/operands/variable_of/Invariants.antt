use Rattle.std.proofs.Common.{◌≡◌}
use Rattle.rvt_tree.specs.Views.{lvalue_view}
use Rattle.expression_typing.specs.Operands.{variable_of}
use Rattle.place_rules.proofs.operands.variable_of.Given as goal

abbrev pub invariant-outward : goal.invariant-outward
invariant-outward l = variable_of (lvalue_view l.fn.lvalue) ≡ variable_of (lvalue_view l.rest)
