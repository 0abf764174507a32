use Rattle.std.proofs.Common.{◌≡◌, map, length}
use Rattle.expression_typing.specs.Entities.{field_in}
use Rattle.typing_base.specs.Views.{field_view}
use Rattle.place_rules.proofs.members.field_in.Given as goal

abbrev pub invariant-loop-rest : goal.invariant-loop-rest
invariant-loop-rest l = field_in (map field_view l.rest) l.name ≡ field_in (map field_view l.fn.fields) l.name

abbrev pub decreases-loop-rest : goal.decreases-loop-rest
decreases-loop-rest l = length l.rest
