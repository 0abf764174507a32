use Rattle.rvt_run.proofs.Alike.{greatest_is}
use Rattle.rvt_run.proofs.loop_twins.loop_twins.Goals as goal

pub returns : goal.returns
returns c =
    greatest_is c.args.joint.now c.args.twins c.take_out_renamed.new.pairing c.closed_twins.result c.requires c.in_ok-take_out_renamed.ensures
    c.closed_twins.ensures.closed c.closed_twins.ensures.within c.closed_twins.ensures.greatest
