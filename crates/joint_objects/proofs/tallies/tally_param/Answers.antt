use Rattle.std.proofs.Common.{◌≡◌, ℕ, Option, nat_eq, ap, ◌∙◌}
use Rattle.indexmap.specs.IndexMap.{get}
use Rattle.rvt_tree.specs.declared.types.Pointee.{Pointee}
use Rattle.joint_objects.specs.Tallies.{with_pointee, tally_in}
use Rattle.joint_objects.proofs.TallyLemmas.{with_put}
use Rattle.joint_objects.proofs.tallies.tally_param.Goals as goal

pub returns : goal.returns
returns c = λ p.
    with_put (λ (n : ℕ). get nat_eq c.args.table.now n) c.in-Some.pointee c.args.function c.place_of-place.result p c.tally_at.result c.in_ok-more.more (get nat_eq c.insert.new.self p)
    c.place_of-place.ensures c.tally_at.ensures c.in_ok-more.ensures (c.in_ok-insert.ensures.updates.0 p)
    ∙ ap (λ (o : Option Pointee). with_pointee p c.args.function o (tally_in c.args.table.now p)) c.in-Some.ensures
