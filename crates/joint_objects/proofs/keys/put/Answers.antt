use Rattle.std.proofs.Common.{◌≡◌, ℕ, List, Option, Some, option_map, if◌then◌else◌, sym, ap, ◌∙◌}
use Rattle.joint_objects.specs.declared.keys.Key.{Key}
use Rattle.joint_objects.specs.Indexes.{is_key, key_view, numbered_as}
use Rattle.joint_objects.proofs.keys.put.Goals as goal

pub returns : goal.returns
returns c = λ wanted.
    let key : Key = record { name = record { ref_ptr = (0, 0); now = wanted.0 }; which = wanted.1 } in
    c.in_ok-insert.ensures.updates.0 key
    ∙ ap (λ (k : Option Key). if is_key wanted (option_map key_view k) then Some c.args.number else numbered_as wanted c.args.table.now) (sym c.in-Some.is)
