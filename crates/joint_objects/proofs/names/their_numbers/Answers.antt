use Rattle.std.proofs.Common.{◌≡◌, ap, ◌∙◌}
use Rattle.joint_objects.specs.Indexes.{keys_view}
use Rattle.joint_objects.specs.Names.{pair_views}
use Rattle.joint_objects.proofs.KeyLemmas.{on_ok, theirs_numbered}
use Rattle.joint_objects.proofs.names.their_numbers.Goals as goal

pub returns : goal.returns
returns c = on_ok c.numbers.result (λ table are. theirs_numbered table c.as_slice.result.now (pair_views c.args.pairs.now) are (ap keys_view c.as_slice.ensures.value ∙ c.in_ok-keys.ensures)) c.numbers.ensures
