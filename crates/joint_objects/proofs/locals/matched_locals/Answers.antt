use Rattle.std.proofs.Common.{◌≡◌, ◌∙◌}
use Rattle.std.specs.Option.{option_copied}
use Rattle.joint_objects.proofs.LoopLemmas.{locals_step}
use Rattle.joint_objects.proofs.locals.matched_locals.Goals as goal

pub functions-preserved : goal.functions-preserved
functions-preserved c =
    locals_step c.args.structs.now c.args.pairs.now c.args.theirs.now c.functions.found.items c.add_locals.new.found.items c.functions.left.now c.in-Some.rest.now c.in-Some.first.now
    c.functions.number c.in_ok-after.after (option_copied c.paired_function-other.result)
    c.in-Some.ensures.cases.0 c.in_ok-after.ensures c.paired_function-other.ensures c.in_ok-add_locals.ensures
    ∙ c.functions.invariant
