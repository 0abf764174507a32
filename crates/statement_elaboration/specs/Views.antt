-- What the values of this crate stand for.
use Rattle.std.specs.Prelude.{◌≡◌, List, [], ◌∷◌, map, length, take, drop, ◌-◌}
use Rattle.rvt_tree.specs.Syntax as t
use Rattle.rvt_tree.specs.Views.{stmt_view, stmts_view, labels_view, expr_view}
use Rattle.rvt_tree.specs.declared.statements.Label.{Label}
use Rattle.rvt_tree.specs.declared.statements.Labels.{Labels}
use Rattle.rvt_tree.specs.declared.statements.Stmts.{Stmts}
use Rattle.rvt_tree.specs.declared.statements.Stmt.{Stmt}
use Rattle.file_typing.specs.Blocks as b
use Rattle.file_typing.specs.LocalDeclarations as d
use Rattle.file_typing.specs.Statements as s
use Rattle.typing_base.specs.declared.scopes.Environment.{Environment}
use Rattle.typing_base.specs.Views.{binding_view, tag_view, structures_view}
use Rattle.statement_elaboration.specs.declared.blocks.Block.{Block}
use Rattle.statement_elaboration.specs.declared.switches.Control.{Control}

-- the names declared since the block's height are its own
abbrev pub block_view : Environment → Block → b.Block
block_view environment block =
    record {
      here = map binding_view (take (length environment.names - block.height) environment.names);
      around = map binding_view (drop (length environment.names - block.height) environment.names);
      tags = map tag_view environment.tags;
      structs = structures_view environment.structs.items;
      result = block.result;
      in_loop = block.in_loop;
      in_switch = block.in_switch;
    }

-- a statement, and the block from there on
abbrev pub one_declared : Environment → Block → Stmt → d.Declared
one_declared environment block made = record { block = block_view environment block; statements = stmt_view made ∷ [] }

abbrev pub declared_view : Environment → Block → List Stmt → d.Declared
declared_view environment block made = record { block = block_view environment block; statements = map stmt_view made }

abbrev pub control_view : Control → s.Control
control_view control = record { kind = control.kind; value = expr_view control.value }

abbrev pub group_view : Labels × Stmts → List Label × t.Statements
group_view group = (labels_view group.0, stmts_view group.1)

-- what was declared before stays, below what is declared since
pub record Extends (old new : Environment) : Type 0 where
  pub names : drop (length new.names - length old.names) new.names ≡ old.names
  pub tags : new.tags ≡ old.tags
  pub structs : new.structs ≡ old.structs
