use Rattle.std.proofs.Common.{◌≡◌, List, ◌++◌, subst, ap, ◌∙◌}
use Rattle.std.specs.List.{flat_map}
use Rattle.rvt_tree.specs.declared.programs.Function.{Function}
use Rattle.rvt_tree.specs.declared.programs.StructDef.{StructDef}
use Rattle.joint_objects.specs.Extras.{kinds_in_order, arrays_of_kind, arrays_of_old_structs, arrays_of_new_structs}
use Rattle.joint_objects.specs.Tallies.{AreMost}
use Rattle.joint_objects.proofs.LoopLemmas.{extras_made}
use Rattle.joint_objects.proofs.joint.add_extras.Goals as goal

pub returns : goal.returns
returns c =
    let f : List Function = c.args.old.now.functions in
    let g : List Function = c.args.new.now.functions in
    let a : AreMost c.args.old.now.functions c.in_ok-in_old.in_old = subst (λ (l : List Function). AreMost l c.in_ok-in_old.in_old) c.as_slice.ensures c.in_ok-in_old.ensures in
    let b : AreMost c.args.new.now.functions c.in_ok-in_new.in_new = subst (λ (l : List Function). AreMost l c.in_ok-in_new.in_new) c.as_slice-2.ensures c.in_ok-in_new.ensures in
    extras_made c.args.table.now.items c.add_arrays_of_kinds.new.out.items c.add_arrays_of_old.new.out.items c.add_arrays_of_new.new.out.items
    (flat_map (arrays_of_kind c.args.old.now.functions c.args.new.now.functions) kinds_in_order)
    (arrays_of_old_structs c.args.old.now.functions c.args.new.now.functions c.args.old_structs.now 0 c.args.old.now.structs.list)
    (arrays_of_new_structs c.args.new.now.functions c.args.new_structs.now 0 c.args.new.now.structs.list)
    (c.in_ok-add_arrays_of_kinds.ensures f g a b)
    (c.in_ok-add_arrays_of_old.ensures f g a b ∙ ap (λ (l : List StructDef). c.add_arrays_of_kinds.new.out.items ++ arrays_of_old_structs c.args.old.now.functions c.args.new.now.functions c.args.old_structs.now 0 l) c.as_slice-3.ensures)
    (c.in_ok-add_arrays_of_new.ensures g b ∙ ap (λ (l : List StructDef). c.add_arrays_of_old.new.out.items ++ arrays_of_new_structs c.args.new.now.functions c.args.new_structs.now 0 l) c.as_slice-4.ensures)
