use Rattle.std.proofs.Common.{◌≡◌, List, ◌++◌, length, ap, ◌∙◌}
use Rattle.version_map.specs.declared.map.Added.{Added}
use Rattle.joint_objects.specs.Sides.{from_old, from_new}
use Rattle.joint_objects.specs.Globals.{globals_from}
use Rattle.joint_objects.specs.Locals.{locals_from}
use Rattle.joint_objects.specs.JointObjects.{all_globals, all_locals, extra_arrays, mapped_arrays}
use Rattle.joint_objects.proofs.LoopLemmas.{parts_made}
use Rattle.joint_objects.proofs.joint.add_all.Goals as goal

pub returns : goal.returns
returns c =
    let old = c.args.old.now in
    let new = c.args.new.now in
    let functions = c.args.functions.now in
    let map = c.args.map.now in
    parts_made c.args.table.now.items c.add_globals.new.table.items c.add_locals.new.table.items c.add_extras.new.table.items c.add_mapped.new.out.items
    (all_globals (globals_from c.args.of_old.now (from_old map.globals.items) new.table.objects 0 old.table.objects) (globals_from c.args.of_new.now (from_new map.globals.items) old.table.objects 0 new.table.objects))
    (all_locals (locals_from c.args.of_old.now functions.of_old new.functions 0 old.functions) (locals_from c.args.of_new.now functions.of_new old.functions 0 new.functions))
    (extra_arrays c.args.of_old.now c.args.of_new.now old new)
    (mapped_arrays (length map.objects.items))
    c.in_ok-add_globals.ensures c.in_ok-add_locals.ensures c.in_ok-add_extras.ensures
    (c.in_ok-add_mapped.ensures ∙ ap (λ (xs : List Added). c.add_extras.new.table.items ++ mapped_arrays (length xs)) c.as_slice.ensures.value)
