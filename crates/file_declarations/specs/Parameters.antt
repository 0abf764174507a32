-- The block of a function's parameters.
use Rattle.std.specs.Prelude.{◌≡◌, ℕ, map, length, take, drop, ◌-◌, false, Option}
use Rattle.rvt_num.specs.declared.kinds.Kind.{Kind}
use Rattle.file_typing.specs.Blocks as b
use Rattle.typing_base.specs.declared.scopes.Environment.{Environment}
use Rattle.typing_base.specs.Views.{binding_view, tag_view, structures_view}

-- the names declared since a height are its own
abbrev pub parameters_view : Environment → ℕ → Option Kind → b.Block
parameters_view environment height result =
    record {
      here = map binding_view (take (length environment.names - height) environment.names);
      around = map binding_view (drop (length environment.names - height) environment.names);
      tags = map tag_view environment.tags;
      structs = structures_view environment.structs.items;
      result = result;
      in_loop = false;
      in_switch = false;
    }

-- what was declared before stays, below what is declared since
pub record Extends (old new : Environment) : Type 0 where
  pub names : drop (length new.names - length old.names) new.names ≡ old.names
  pub tags : new.tags ≡ old.tags
  pub structs : new.structs ≡ old.structs
