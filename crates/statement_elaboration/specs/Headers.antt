-- What the parts of a `for` header stand for.
use Rattle.std.specs.Prelude.{option_map}
use Rattle.rvt_tree.specs.Views.{stmts_view, acts_view, expr_view}
use Rattle.rvt_tree.specs.declared.statements.Stmts.{Stmts}
use Rattle.typing_base.specs.declared.scopes.Environment.{Environment}
use Rattle.statement_elaboration.specs.declared.acts.Header.{Header}
use Rattle.statement_elaboration.specs.declared.blocks.Block.{Block}
use Rattle.statement_elaboration.specs.Parts as p
use Rattle.statement_elaboration.specs.Views.{block_view}

abbrev pub start_view : Environment → Block → Stmts → p.Start
start_view environment block made = record { block = block_view environment block; first = stmts_view made }

abbrev pub header_view : Environment → Block → Header → p.Header
header_view environment block made =
    record { block = block_view environment block; first = stmts_view made.first; test = option_map expr_view made.test; last = acts_view made.last }
