use Rattle.std.proofs.Common.{◌≡◌, ap, ◌∙◌}
use Rattle.joint_objects.specs.Indexes.{keys_view}
use Rattle.joint_objects.specs.Counts.{declared_views}
use Rattle.joint_objects.proofs.KeyLemmas.{on_ok, declarations_numbered}
use Rattle.joint_objects.proofs.declarations.declaration_numbers.Goals as goal

pub returns : goal.returns
returns c = on_ok c.numbers.result (λ table are. declarations_numbered table c.as_slice.result.now (declared_views c.args.list.now) are (ap keys_view c.as_slice.ensures.value ∙ c.in_ok-keys.ensures)) c.numbers.ensures
