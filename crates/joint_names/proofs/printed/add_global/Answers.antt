use Rattle.std.proofs.Common.{ℕ, List, Option, ◌++◌, ap, ap₂, ◌∙◌, slice_get}
use Rattle.rvt_tree.specs.declared.programs.Program.{Program}
use Rattle.rvt_tree.specs.declared.programs.Object.{Object}
use Rattle.joint_names.specs.PrintedNames.{file_shown, number_shown, file_prefix, global_text, object_name}
use Rattle.joint_names.proofs.Appends.{two}
use Rattle.joint_names.proofs.printed.add_global.Goals as goal

pub returns : goal.returns
returns c =
    two c.args.text.now.items (file_prefix c.args.origin) (global_text (file_shown c.args.old.now c.args.new.now c.args.origin) (number_shown c.args.origin)) c.in_ok-add_prefix.ensures
    (c.in_ok-add_object_name.ensures
    ∙ ap (λ (object : Option Object). c.add_prefix.new.text.items ++ object_name object)
    (c.at.ensures ∙ ap₂ (λ (objects : List Object) (number : ℕ). slice_get objects number) (c.as_slice.ensures ∙ ap (λ (file : Program). file.table.objects) c.file_shown-file.ensures) c.number_shown.ensures))
