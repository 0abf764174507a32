use Rattle.std.proofs.Common.{◌≡◌, ◌≤◌, ◌+◌, ◌*◌}
use Rattle.c_syntax.specs.Views.{values_view}
use Rattle.c_syntax.specs.declared.declarations.Value.{size-Value}
use Rattle.c_syntax.specs.declared.declarations.Values.{size-Values}
use Rattle.c_types.specs.Layout.{shape_of}
use Rattle.rvt_tree.specs.Views.{inits_before}
use Rattle.expression_typing.specs.Outcomes.{and_then, give}
use Rattle.file_typing.specs.Initializers.{typed_members}
use Rattle.typing_base.specs.Views.{notes_view, scope_view}
use Rattle.declarator_types.specs.Views.{asked_view}
use Rattle.declarator_types.proofs.initializers.+typed_initializer.Given as goal

-- what is left gives, behind what is made, what the whole gave from the start
abbrev pub invariant-typed_members-loop-rest : goal.invariant-typed_members-loop-rest
invariant-typed_members-loop-rest l = record {
  no_deeper : size-Values l.rest ≤ size-Values l.initial.rest;
  same_outcome : typed_members (scope_view l.scope) (asked_view l.asked) (shape_of l.ty) 0 (values_view l.initial.rest) (notes_view l.initial.notes)
      ≡ and_then (typed_members (scope_view l.scope) (asked_view l.asked) (shape_of l.ty) l.number (values_view l.rest)) (λ others. give (inits_before l.made.items others)) (notes_view l.notes);
}

-- along nesting
abbrev pub decreases-typed_initializer : goal.decreases-typed_initializer
decreases-typed_initializer l = 2 * size-Value l.i.now

abbrev pub decreases-typed_braces : goal.decreases-typed_braces
decreases-typed_braces l = 2 * size-Values l.members.now + 1

abbrev pub decreases-typed_members : goal.decreases-typed_members
decreases-typed_members l = 2 * size-Values l.members.now

abbrev pub decreases-typed_member : goal.decreases-typed_member
decreases-typed_member l = 2 * size-Value l.i.now + 1
