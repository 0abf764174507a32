-- Where a statement stands: the names in scope, and what a jump may mean there (C 6.2.1, 6.8.6).
use Rattle.std.specs.Prelude.{ℕ, List, [], ◌∷◌, ◌++◌, Bool, true, if◌then◌else◌, Option}
use Rattle.std.specs.List.{list_any}
use Rattle.std.specs.Str.{bytes_eq}
use Rattle.rvt_num.specs.declared.kinds.Kind.{Kind}
use Rattle.rvt_tree.specs.declared.places.Place.{Place}
use Rattle.expression_typing.specs.Entities.{Binding, Scope, Structure, Tag}
use Rattle.expression_typing.specs.Outcomes.{Checking, give, broken, declared_twice}

pub record Block : Type 0 where
  -- the names declared in the block itself, and those round it; the last one declared is the first
  pub here : List Binding
  pub around : List Binding
  pub tags : List Tag
  pub structs : List Structure
  -- of the function
  pub result : Option Kind
  -- whether it stands in the body of a loop, and in that of a `switch`
  pub in_loop : Bool
  pub in_switch : Bool

-- where an expression in the block stands
abbrev pub scope_of : Block → Scope
scope_of block = record { names = block.here ++ block.around; tags = block.tags; structs = block.structs; evaluated = true }

-- ---- blocks in blocks

-- a block begins: what it declares hides what is declared round it
abbrev pub inside : Block → Block
inside block =
    record {
      here = [];
      around = block.here ++ block.around;
      tags = block.tags;
      structs = block.structs;
      result = block.result;
      in_loop = block.in_loop;
      in_switch = block.in_switch;
    }

abbrev pub inside_loop : Block → Block
inside_loop block =
    record {
      here = block.here;
      around = block.around;
      tags = block.tags;
      structs = block.structs;
      result = block.result;
      in_loop = true;
      in_switch = block.in_switch;
    }

abbrev pub inside_switch : Block → Block
inside_switch block =
    record {
      here = block.here;
      around = block.around;
      tags = block.tags;
      structs = block.structs;
      result = block.result;
      in_loop = block.in_loop;
      in_switch = true;
    }

-- ---- names

-- one more name is declared in the block
abbrev pub with_binding : Binding → Block → Block
with_binding binding block =
    record {
      here = binding ∷ block.here;
      around = block.around;
      tags = block.tags;
      structs = block.structs;
      result = block.result;
      in_loop = block.in_loop;
      in_switch = block.in_switch;
    }

abbrev pub is_declared : List Binding → List ℕ → Bool
is_declared bindings name = list_any (λ binding. bytes_eq binding.name name) bindings

-- a name is declared once in its scope (C 6.7)
abbrev pub unless_declared : List Binding → List ℕ → Place → Checking (Unit {0})
unless_declared bindings name at = if is_declared bindings name then broken (declared_twice name) at else give tt
