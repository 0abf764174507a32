use Rattle.std.proofs.Common.{◌≡◌, ◌++◌, refl, ◌∙◌}
use Rattle.joint_objects.specs.Extras.{arrays_of_old_structs}
use Rattle.joint_objects.proofs.LoopLemmas.{old_structs_step, drained}
use Rattle.joint_objects.proofs.arrays.add_arrays_of_old.Goals as goal

pub structs-preserved : goal.structs-preserved
structs-preserved c = λ f g a b.
    old_structs_step f g c.args.partners.now c.structs.out.items c.add_arrays_of_old_struct.new.out.items c.structs.left.now c.in-Some.rest.now c.in-Some.first.now
    c.structs.number c.in_ok-after.after c.partner_of-partner.result
    c.in-Some.ensures.cases.0 c.in_ok-after.ensures c.partner_of-partner.ensures (c.in_ok-add_arrays_of_old_struct.ensures f g a b)
    ∙ c.structs.invariant f g a b

pub returns : goal.returns
returns c = λ f g a b.
    drained (arrays_of_old_structs f g c.args.partners.now c.structs.number) c.structs.out.items (c.args.out.now.items ++ arrays_of_old_structs f g c.args.partners.now 0 c.args.structs.now) c.structs.left.now
    refl c.in_default.ensures.cases (c.structs.invariant f g a b)
