use Rattle.std.proofs.Common.{◌≡◌, ◌++◌, refl, ◌∙◌}
use Rattle.joint_objects.specs.Extras.{arrays_of_new_structs}
use Rattle.joint_objects.proofs.LoopLemmas.{new_structs_step, drained}
use Rattle.joint_objects.proofs.arrays.add_arrays_of_new.Goals as goal

pub structs-preserved : goal.structs-preserved
structs-preserved c = λ g a.
    new_structs_step g c.args.partners.now c.structs.out.items c.add_arrays_of_new_struct.new.out.items c.structs.left.now c.in-Some.rest.now c.in-Some.first.now
    c.structs.number c.in_ok-after.after c.partner_of-partner.result
    c.in-Some.ensures.cases.0 c.in_ok-after.ensures c.partner_of-partner.ensures (c.in_ok-add_arrays_of_new_struct.ensures g a)
    ∙ c.structs.invariant g a

pub returns : goal.returns
returns c = λ g a.
    drained (arrays_of_new_structs g c.args.partners.now c.structs.number) c.structs.out.items (c.args.out.now.items ++ arrays_of_new_structs g c.args.partners.now 0 c.args.structs.now) c.structs.left.now
    refl c.in_default.ensures.cases (c.structs.invariant g a)
