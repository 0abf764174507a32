use Rattle.std.proofs.Common.{◌≡◌, ◌≤◌, map, length}
use Rattle.rvt_tree.specs.Views.{stmt_view}
use Rattle.c_syntax.specs.Views.{init_view}
use Rattle.expression_typing.specs.Outcomes.{and_then}
use Rattle.file_typing.specs.LocalDeclarations.{typed_declarators}
use Rattle.typing_base.specs.Views.{notes_view, qualified_view}
use Rattle.statement_elaboration.specs.Parts.{declared_after}
use Rattle.statement_elaboration.specs.Views.{block_view, Extends}
use Rattle.statement_elaboration.proofs.declarations.typed_declarators.Given as goal

abbrev pub invariant-declarators : goal.invariant-declarators
invariant-declarators l = record {
  within : l.block.height ≤ length l.environment.names;
  extends : Extends l.initial.environment l.environment;
  same_outcome : typed_declarators (block_view l.initial.environment l.block) (qualified_view l.base) (map init_view l.fn.inits) (notes_view l.initial.notes)
      ≡ and_then (typed_declarators (block_view l.environment l.block) (qualified_view l.base) (map init_view l.rest)) (declared_after (map stmt_view l.made.items)) (notes_view l.notes);
}

abbrev pub decreases-declarators : goal.decreases-declarators
decreases-declarators l = length l.rest
