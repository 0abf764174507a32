use Rattle.std.proofs.Common.{◌≡◌, List, ◌++◌, refl, ap, ◌∙◌}
use Rattle.std.specs.List.{flat_map}
use Rattle.rvt_num.specs.declared.kinds.Kind.{Kind}
use Rattle.rvt_tree.specs.declared.types.Pointee.TheVariants as P
use Rattle.joint_objects.specs.Extras.{arrays_of_kind}
use Rattle.joint_objects.proofs.LoopLemmas.{kinds_step, drained}
use Rattle.joint_objects.proofs.arrays.add_arrays_of_kinds.Goals as goal

pub kinds-preserved : goal.kinds-preserved
kinds-preserved c = λ f g a b.
    kinds_step f g c.kinds.out.items c.add_arrays.new.out.items c.kinds.left.now c.in-Some.rest.now c.in-Some.first.now
    c.most_at-in_old.result c.most_at-in_new.result c.larger-count.result
    c.in-Some.ensures.cases.0 (c.most_at-in_old.ensures ∙ a (P.Word c.in-Some.first.now)) (c.most_at-in_new.ensures ∙ b (P.Word c.in-Some.first.now)) c.larger-count.ensures c.in_ok-add_arrays.ensures
    ∙ c.kinds.invariant f g a b

pub returns : goal.returns
returns c = λ f g a b.
    drained (flat_map (arrays_of_kind f g)) c.kinds.out.items (c.args.out.now.items ++ flat_map (arrays_of_kind f g) c.as_slice-left.result.now) c.kinds.left.now refl c.in_default.ensures.cases (c.kinds.invariant f g a b)
    ∙ ap (λ (l : List Kind). c.args.out.now.items ++ flat_map (arrays_of_kind f g) l) c.as_slice-left.ensures
