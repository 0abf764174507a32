use Rattle.std.proofs.Common.{◌≡◌, ◌≤◌, ◌+◌, ◌*◌, [], length}
use Rattle.rvt_tree.specs.Views.{stmts_before, groups_before}
use Rattle.c_syntax.specs.Views.{parts_view, groups_view}
use Rattle.c_syntax.specs.declared.statements.Groups.{size-Groups}
use Rattle.c_syntax.specs.declared.statements.Part.{size-Part}
use Rattle.c_syntax.specs.declared.statements.Parts.{size-Parts}
use Rattle.c_syntax.specs.declared.statements.Stmt.{size-Stmt}
use Rattle.expression_typing.specs.Outcomes.{and_then, give}
use Rattle.file_typing.specs.Statements.{typed_items, typed_groups}
use Rattle.typing_base.specs.Views.{notes_view}
use Rattle.statement_elaboration.specs.Views.{block_view, Extends}
use Rattle.statement_elaboration.proofs.statements.+typed_statement.Given as goal

-- what is left gives, behind what is made, what the whole gave from the start

abbrev pub invariant-typed_items-parts : goal.invariant-typed_items-parts
invariant-typed_items-parts l = record {
  no_deeper : size-Parts l.rest ≤ size-Parts l.initial.rest;
  within : l.block.height ≤ length l.environment.names;
  extends : Extends l.initial.environment l.environment;
  same_outcome : typed_items (block_view l.initial.environment l.block) (parts_view l.initial.rest) (notes_view l.initial.notes)
      ≡ and_then (typed_items (block_view l.environment l.block) (parts_view l.rest)) (λ others. give (stmts_before l.made.items others)) (notes_view l.notes);
}

abbrev pub invariant-typed_groups-groups : goal.invariant-typed_groups-groups
invariant-typed_groups-groups l = record {
  no_deeper : size-Groups l.rest ≤ size-Groups l.initial.rest;
  same : l.environment ≡ l.initial.environment;
  same_outcome : typed_groups (block_view l.initial.environment l.block) l.kind [] (groups_view l.initial.rest) (notes_view l.initial.notes)
      ≡ and_then (typed_groups (block_view l.environment l.block) l.kind l.before (groups_view l.rest)) (λ others. give (groups_before l.made.items others)) (notes_view l.notes);
}

-- how deep the tree is that each goes through; of those that go through the same tree, the caller first

abbrev pub decreases-typed_statement : goal.decreases-typed_statement
decreases-typed_statement l = 3 * size-Stmt l.s.now

abbrev pub decreases-typed_block : goal.decreases-typed_block
decreases-typed_block l = 3 * size-Parts l.parts.now + 1

abbrev pub decreases-typed_items : goal.decreases-typed_items
decreases-typed_items l = 3 * size-Parts l.parts.now

abbrev pub decreases-typed_item : goal.decreases-typed_item
decreases-typed_item l = 3 * size-Part l.part.now

abbrev pub decreases-typed_while : goal.decreases-typed_while
decreases-typed_while l = 3 * size-Stmt l.body.now + 1

abbrev pub decreases-typed_do : goal.decreases-typed_do
decreases-typed_do l = 3 * size-Stmt l.body.now + 1

abbrev pub decreases-typed_for : goal.decreases-typed_for
decreases-typed_for l = 3 * size-Stmt l.body.now + 1

abbrev pub decreases-typed_switch : goal.decreases-typed_switch
decreases-typed_switch l = 3 * size-Groups l.groups.now + 1

abbrev pub decreases-typed_groups : goal.decreases-typed_groups
decreases-typed_groups l = 3 * size-Groups l.groups.now

abbrev pub decreases-typed_group : goal.decreases-typed_group
decreases-typed_group l = 3 * size-Parts l.parts.now + 2
