use Rattle.std.proofs.Common.{codes, ◌++◌, ◌+◌}
use Rattle.std.specs.Fmt.{decimal}
use Rattle.joint_names.specs.PrintedNames.{element_prefix, element_text, extra_text}
use Rattle.joint_names.proofs.Appends.{two}
use Rattle.joint_names.proofs.printed.add_extra.Goals as goal

pub returns : goal.returns
returns c =
    two c.args.text.now.items (element_prefix c.args.element) (extra_text (element_text c.args.old.now c.args.new.now c.args.element) c.args.number) c.in_ok-add_element_prefix.ensures
    (two c.add_element_prefix.new.text.items (codes "extra.") (element_text c.args.old.now c.args.new.now c.args.element ++ (codes "." ++ decimal (c.args.number + 1))) c.in_ok-extend_from_slice.ensures.items
    (two c.extend_from_slice.new.self.items (element_text c.args.old.now c.args.new.now c.args.element) (codes "." ++ decimal (c.args.number + 1)) c.in_ok-add_element.ensures c.in_ok-add_count.ensures))
