use Rattle.std.proofs.Common.{◌≡◌, ℕ, List, sym, ap, ◌∙◌}
use Rattle.rvt_tree.specs.declared.programs.Local.{Local}
use Rattle.rvt_tree.specs.declared.programs.Function.{Function}
use Rattle.joint_objects.specs.Tallies.{place_of, with_params, with_functions, tally_in}
use Rattle.joint_objects.proofs.TallyLemmas.{most_at_end}
use Rattle.joint_objects.proofs.tallies.tallies.Goals as goal

pub functions-preserved : goal.functions-preserved
functions-preserved c = λ place.
    ap (with_functions place c.in_ok-after.after c.in-Some.rest.now) (c.in_ok-tally_params.ensures place)
    ∙ ap (λ (ps : List Local). with_functions place c.in_ok-after.after c.in-Some.rest.now (with_params place c.in_ok-after.after ps (tally_in c.functions.table place))) c.as_slice.ensures
    ∙ ap (λ (n : ℕ). with_functions place n c.in-Some.rest.now (with_params place n c.in-Some.first.now.params (tally_in c.functions.table place))) c.in_ok-after.ensures
    ∙ ap (λ (l : List Function). with_functions place c.functions.number l (tally_in c.functions.table place)) (sym c.in-Some.ensures.cases.0)
    ∙ c.functions.invariant place

pub returns : goal.returns
returns c = λ p.
    most_at_end p c.functions.number c.args.functions.now c.functions.left.now (tally_in c.functions.table (place_of p)) c.in_default.ensures.cases (c.functions.invariant (place_of p))
