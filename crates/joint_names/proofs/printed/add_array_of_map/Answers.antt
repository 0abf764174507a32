use Rattle.std.proofs.Common.{codes}
use Rattle.std.specs.Option.{option_copied}
use Rattle.joint_names.specs.PrintedNames.{added_name}
use Rattle.joint_names.proofs.Appends.{two}
use Rattle.joint_names.proofs.printed.add_array_of_map.Goals as goal

pub returns : goal.returns
returns c =
    two c.args.text.now.items (codes "map.") (added_name (option_copied c.args.added)) c.in_ok-extend_from_slice.ensures.items c.in_ok-add_added_name.ensures
