use Rattle.std.proofs.Common.{◌≡◌, List, sym, ap, ◌∙◌}
use Rattle.rvt_tree.specs.declared.programs.Local.{Local}
use Rattle.joint_objects.specs.Tallies.{with_params, tally_in}
use Rattle.joint_objects.proofs.tallies.tally_params.Goals as goal

pub params-preserved : goal.params-preserved
params-preserved c = λ place.
    ap (with_params place c.args.function c.in-Some.rest.now) (c.in_ok-tally_param.ensures place)
    ∙ ap (λ (l : List Local). with_params place c.args.function l (tally_in c.params.table place)) (sym c.in-Some.ensures.cases.0)
    ∙ c.params.invariant place
