use Rattle.std.proofs.Common.{◌≡◌, List, ◌++◌, refl, sym, ap, ◌∙◌}
use Rattle.rvt_tree.specs.declared.programs.Local.{Local}
use Rattle.joint_objects.specs.declared.declarations.Declared.{Declared}
use Rattle.joint_objects.specs.Locals.{count_of, declared_after}
use Rattle.joint_objects.specs.Counts.{declared_views, locals_declared}
use Rattle.joint_objects.proofs.DeclarationLemmas.{declared_step}
use Rattle.joint_objects.proofs.declarations.declare.Goals as goal

pub locals-preserved : goal.locals-preserved
locals-preserved c =
    let list = c.locals.list.items in
    let one : Declared = record { local = c.in-Some.local; before = count_of c.in-Some.local.now.name (locals_declared c.locals.list.items) } in
    record {
      counts = c.in_ok-declare_one.ensures.counts;
      added =
          ap (λ (xs : List Declared). declared_views xs ++ declared_after (locals_declared xs) c.in-Some.rest.now) c.in_ok-declare_one.ensures.added
          ∙ declared_step list one c.in-Some.rest.now refl
          ∙ ap (λ (l : List Local). declared_views list ++ declared_after (locals_declared list) l) (sym c.in-Some.ensures.cases.0)
          ∙ c.locals.invariant.added;
    }
