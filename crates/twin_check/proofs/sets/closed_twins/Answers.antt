use Rattle.twin_check.proofs.Taken.{every_trans, within_trans}
use Rattle.twin_check.proofs.sets.closed_twins.Goals as goal

pub passes-preserved : goal.passes-preserved
passes-preserved c = record {
  within = within_trans _ _ _ c.take_out_others.ensures.within c.passes.invariant.within;
  every = every_trans c.args.old.now c.args.other.now c.args.pairing c.passes.twins c.take_out_others.new.pairing c.passes.invariant.every c.take_out_others.ensures.every;
}
