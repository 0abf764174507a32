use Rattle.std.proofs.Common.{ℕ, List, ◌++◌, ap, ◌∙◌}
use Rattle.joint_names.specs.PrintedNames.{brackets}
use Rattle.joint_names.proofs.Appends.{two}
use Rattle.joint_names.proofs.printed.add_function_name.Goals as goal

pub returns : goal.returns
returns c =
    two c.args.text.now.items c.args.name.now (brackets c.args.name.now)
    (c.in_ok-extend_from_slice.ensures.items ∙ ap (λ (part : List ℕ). c.args.text.now.items ++ part) c.bytes.ensures)
    (c.in_ok-extend_from_slice-2.ensures.items ∙ ap (λ (part : List ℕ). c.extend_from_slice.new.self.items ++ part) c.brackets.ensures)
