use Rattle.std.proofs.Common.{◌≡◌, List, [], ◌∷◌, ◌++◌, Option, Some, sym, ap, ◌∙◌, Bor}
use Rattle.std.specs.Option.{option_copied}
use Rattle.rvt_tree.specs.declared.programs.Local.{Local}
use Rattle.rvt_tree.specs.declared.programs.Function.{Function}
use Rattle.joint_objects.specs.declared.declarations.Declared.{Declared}
use Rattle.joint_objects.specs.Locals.{declarations_in, declared_after}
use Rattle.joint_objects.specs.Counts.{declared_views, locals_declared}
use Rattle.joint_objects.proofs.DeclarationLemmas.{both_declared}
use Rattle.joint_objects.proofs.declarations.declarations.Goals as goal

pub returns : goal.returns
returns c =
    let function = c.in-Some.function.now in
    let one : declared_views c.declare.new.list.items ≡ declared_after [] function.params =
    c.in_ok-declare.ensures.added
    ∙ ap (λ (xs : List Declared). declared_views xs ++ declared_after (locals_declared xs) c.as_slice.result.now) c.new-list.ensures.items
    ∙ ap (declared_after []) c.as_slice.ensures in
    let two : declared_views c.declare-2.new.list.items ≡ declared_views c.declare.new.list.items ++ declared_after (locals_declared c.declare.new.list.items) function.locals =
    c.in_ok-declare-2.ensures.added
    ∙ ap (λ (locals : List Local). declared_views c.declare.new.list.items ++ declared_after (locals_declared c.declare.new.list.items) locals) c.as_slice-2.ensures in
    both_declared c.declare.new.list.items c.declare-2.new.list.items function.params function.locals one two
    ∙ ap (λ (o : Option (Bor Function)). declarations_in (option_copied o)) (sym c.in-Some.is)
