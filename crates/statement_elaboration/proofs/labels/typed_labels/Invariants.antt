use Rattle.std.proofs.Common.{◌≡◌, ◌++◌, map, length}
use Rattle.c_syntax.specs.Views.{label_view}
use Rattle.expression_typing.specs.Outcomes.{and_then, give}
use Rattle.file_typing.specs.Statements.{typed_labels}
use Rattle.typing_base.specs.Views.{notes_view}
use Rattle.statement_elaboration.specs.Views.{block_view}
use Rattle.statement_elaboration.proofs.labels.typed_labels.Given as goal

abbrev pub invariant-labels : goal.invariant-labels
invariant-labels l = record {
  before : l.before ≡ l.initial.before ++ l.made.items;
  same_outcome : typed_labels (block_view l.environment l.block) l.kind l.initial.before (map label_view l.fn.labels) (notes_view l.initial.notes)
      ≡ and_then (typed_labels (block_view l.environment l.block) l.kind l.before (map label_view l.rest)) (λ others. give (l.made.items ++ others)) (notes_view l.notes);
}

abbrev pub decreases-labels : goal.decreases-labels
decreases-labels l = length l.rest
