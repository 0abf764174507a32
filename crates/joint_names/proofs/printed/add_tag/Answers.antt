use Rattle.std.proofs.Common.{ℕ, List, ◌++◌, ap, ◌∙◌}
use Rattle.joint_names.specs.PrintedNames.{struct_sort}
use Rattle.joint_names.proofs.Appends.{two}
use Rattle.joint_names.proofs.printed.add_tag.Goals as goal

pub returns : goal.returns
returns c =
    two c.args.text.now.items (struct_sort c.args.definition.now.tagged) c.args.definition.now.tag
    (c.in_ok-extend_from_slice.ensures.items ∙ ap (λ (part : List ℕ). c.args.text.now.items ++ part) c.struct_sort.ensures)
    (c.in_ok-extend_from_slice-2.ensures.items ∙ ap (λ (part : List ℕ). c.extend_from_slice.new.self.items ++ part) c.bytes.ensures)
