use Rattle.std.proofs.Common.{◌≡◌, ap, ◌∙◌}
use Rattle.joint_objects.specs.Indexes.{keys_view}
use Rattle.joint_objects.proofs.KeyLemmas.{on_ok, structs_numbered}
use Rattle.joint_objects.proofs.structs.struct_numbers.Goals as goal

pub returns : goal.returns
returns c = on_ok c.numbers.result (λ table are. structs_numbered table c.as_slice.result.now c.args.structs.now are (ap keys_view c.as_slice.ensures.value ∙ c.in_ok-keys.ensures)) c.numbers.ensures
