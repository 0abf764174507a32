use Rattle.std.proofs.Common.{◌≡◌, ℕ, List, Option, codes, ◌++◌, ap, ap₂, ◌∙◌, slice_get}
use Rattle.rvt_tree.specs.declared.programs.Program.{Program}
use Rattle.rvt_tree.specs.declared.programs.Object.{Object}
use Rattle.rvt_tree.specs.declared.programs.Function.{Function}
use Rattle.std.specs.Option.{option_copied}
use Rattle.joint_names.specs.PrintedNames.{file_shown, number_shown, file_prefix, local_text, owner_text, owner_of, object_name, declaration_text}
use Rattle.joint_names.proofs.Appends.{two}
use Rattle.joint_names.proofs.printed.add_local.Goals as goal

pub returns : goal.returns
returns c =
    let object : option_copied c.at-object.result ≡ slice_get (file_shown c.args.old.now c.args.new.now c.args.origin).table.objects (number_shown c.args.origin) =
    c.at-object.ensures ∙ ap₂ (λ (objects : List Object) (number : ℕ). slice_get objects number) (c.as_slice.ensures ∙ ap (λ (file : Program). file.table.objects) c.file_shown-file.ensures) c.number_shown.ensures in
    two c.args.text.now.items (file_prefix c.args.origin) (local_text (file_shown c.args.old.now c.args.new.now c.args.origin) (number_shown c.args.origin) c.args.declaration) c.in_ok-add_prefix.ensures
    (two c.add_prefix.new.text.items (owner_text (file_shown c.args.old.now c.args.new.now c.args.origin).functions (owner_of (slice_get (file_shown c.args.old.now c.args.new.now c.args.origin).table.objects (number_shown c.args.origin))))
    (codes "." ++ (object_name (slice_get (file_shown c.args.old.now c.args.new.now c.args.origin).table.objects (number_shown c.args.origin)) ++ declaration_text c.args.declaration))
    (c.in_ok-add_owner.ensures
    ∙ ap₂ (λ (functions : List Function) (owner : Option ℕ). c.add_prefix.new.text.items ++ owner_text functions owner)
    (c.as_slice-2.ensures ∙ ap (λ (file : Program). file.functions) c.file_shown-file.ensures) (c.owner_of.ensures ∙ ap owner_of object))
    (two c.add_owner.new.text.items (codes ".") (object_name (slice_get (file_shown c.args.old.now c.args.new.now c.args.origin).table.objects (number_shown c.args.origin)) ++ declaration_text c.args.declaration) c.in_ok-extend_from_slice.ensures.items
    (two c.extend_from_slice.new.self.items (object_name (slice_get (file_shown c.args.old.now c.args.new.now c.args.origin).table.objects (number_shown c.args.origin))) (declaration_text c.args.declaration)
    (c.in_ok-add_object_name.ensures ∙ ap (λ (o : Option Object). c.extend_from_slice.new.self.items ++ object_name o) object) c.in_ok-add_declaration.ensures)))
