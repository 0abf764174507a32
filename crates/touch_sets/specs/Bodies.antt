-- What the bodies of units name by themselves.
use Rattle.std.specs.Prelude.{◌≡◌, ℕ, Bool, true, false, cond, ◌||◌, List, [], ◌∷◌, ◌++◌, map, Option, Some, None, slice_index_or, nat_eq}
use Rattle.core_ir.specs.Calls.{Among, joined}
use Rattle.core_ir.specs.Cells.{has}
use Rattle.core_ir.specs.Nodes.{CodeNode, objects_in, types_in}
use Rattle.core_ir.specs.declared.cores.CoreObject.{CoreObject}
use Rattle.core_ir.specs.declared.units.Code.{Code}
use Rattle.core_ir.specs.declared.units.Code.TheFolds.{fold-Code}
use Rattle.core_ir.specs.declared.units.Code.TheOpen.{Code-F}
use Rattle.core_ir.specs.declared.units.Unit.{Unit}
use Rattle.rvt_num.specs.declared.values.Trap.{Trap}
use Rattle.touch_sets.specs.Touching.{trap_number}
use Rattle.touch_sets.specs.declared.bodies.Named.{Named}

-- what the nodes of code tell, one after another
abbrev pub node_collected : (CodeNode → List ℕ) → Code-F (List ℕ) → List ℕ
node_collected f (Code-F.Seq parts) = joined parts
node_collected f (Code-F.Set r op) = f (Code-F.Set r op)
node_collected f (Code-F.Load r spot) = f (Code-F.Load r spot)
node_collected f (Code-F.Store spot r) = f (Code-F.Store spot r)
node_collected f (Code-F.Call u ins outs) = f (Code-F.Call u ins outs)
node_collected f (Code-F.If r a b) = a ++ b
node_collected f (Code-F.Stop rs) = f (Code-F.Stop rs)
node_collected f (Code-F.Fail t) = f (Code-F.Fail t)

abbrev pub collected : (CodeNode → List ℕ) → Code → List ℕ
collected f = fold-Code (List ℕ) (node_collected f)

abbrev pub collected_all : (CodeNode → List ℕ) → List Code → List ℕ
collected_all f codes = joined (map (collected f) codes)

abbrev pub unit_objects : Unit → List ℕ
unit_objects w = objects_in w.body

abbrev pub unit_types : Unit → List ℕ
unit_types w = types_in w.registers w.body

abbrev pub names_of : Named → List ℕ
names_of named = named.objects.items

abbrev pub types_of : Named → List ℕ
types_of named = named.types.items

-- a value of the type begins in the object, which is addressable
pub record Begins (object : CoreObject) (type : ℕ) : Type 0 where
  pub addressable : object.addressable ≡ true
  pub cell : ℕ
  pub begins : Among (type, cell) object.starts

abbrev pub begins_in : Option CoreObject → ℕ → Type 0
begins_in None type = ⊥
begins_in (Some object) type = Begins object type

-- one of the types is flagged
abbrev pub any_held : List Bool → List ℕ → Bool
any_held held [] = false
any_held held (type ∷ types) = cond (slice_index_or held type false) true (any_held held types)

-- the object is named, or a value begins in it of a type whose pointers are dereferenced
abbrev pub names_object : List Bool → ℕ → Named → Bool
names_object held o named = has o named.objects.items || any_held held named.types.items

abbrev pub has_trap : Trap → List Trap → Bool
has_trap t [] = false
has_trap t (s ∷ traps) = cond (nat_eq (trap_number s) (trap_number t)) true (has_trap t traps)
