-- Functions in which each object stands under another number.
use Rattle.std.specs.Prelude.{ℕ, List, [], map, get_or, Option, option_map}
use Rattle.rvt_tree.specs.declared.types.CType.{CType}
use Rattle.rvt_tree.specs.declared.programs.Local.{Local}
use Rattle.rvt_tree.specs.declared.programs.Function.{Function}
use Rattle.rvt_tree.specs.Syntax.{Statement}
use Rattle.rvt_tree.specs.Views.{stmt_view}
use Rattle.renamed_trees.specs.RenamedTrees.{statement_renamed}
use Rattle.renamed_trees.specs.Renamings.{renamed_by}

-- a function and what its body says, wherever the parts of that lie in memory
pub record FunctionParts : Type 0 where
  pub name : List ℕ
  pub params : List Local
  pub result : Option CType
  pub locals : List Local
  pub body : Option Statement

abbrev pub parts : Function → FunctionParts
parts f = record { name = f.name; params = f.params; result = f.result; locals = f.locals; body = option_map stmt_view f.body }

-- ---- over another table

-- the number of an object in another table, by a list of these numbers; an object beyond its end keeps its own
abbrev pub number_in : List ℕ → ℕ → ℕ
number_in numbers object = get_or numbers object object

abbrev pub local_renumbered : List ℕ → Local → Local
local_renumbered numbers local = record { name = local.name; ty = local.ty; constant = local.constant; object = option_map (number_in numbers) local.object }

-- the objects that parameters and locals are have their other numbers, and so have those in the body; nothing else changes
abbrev pub renumbered : List ℕ → FunctionParts → FunctionParts
renumbered numbers f =
    record {
      name = f.name;
      params = map (local_renumbered numbers) f.params;
      result = f.result;
      locals = map (local_renumbered numbers) f.locals;
      body = option_map (statement_renamed (renamed_by [] numbers)) f.body;
    }
