use Rattle.std.proofs.Common.{◌≡◌, ◌++◌, map, length}
use Rattle.rvt_tree.specs.Views.{act_view}
use Rattle.c_syntax.specs.Views as s
use Rattle.expression_typing.specs.Outcomes.{and_then, give}
use Rattle.file_typing.specs.Statements.{typed_actions}
use Rattle.typing_base.specs.Views.{notes_view}
use Rattle.statement_elaboration.specs.Views.{block_view}
use Rattle.statement_elaboration.proofs.acts.typed_actions.Given as goal

abbrev pub invariant-actions : goal.invariant-actions
invariant-actions l = record {
  same_outcome : typed_actions (block_view l.environment l.block) (map s.act_view l.fn.acts) (notes_view l.initial.notes)
      ≡ and_then (typed_actions (block_view l.environment l.block) (map s.act_view l.rest)) (λ others. give (map act_view l.made.items ++ others)) (notes_view l.notes);
}

abbrev pub decreases-actions : goal.decreases-actions
decreases-actions l = length l.rest
