-- Structs, objects and programs, wherever the parts of their types and bodies lie in memory.
use Rattle.std.specs.Prelude.{ℕ, Bool, List, map, Option}
use Rattle.rvt_num.specs.declared.values.Value.{Value}
use Rattle.rvt_tree.specs.declared.types.CType.{CType}
use Rattle.rvt_tree.specs.declared.programs.StructDef.{StructDef}
use Rattle.rvt_tree.specs.declared.programs.Object.{Object}
use Rattle.rvt_tree.specs.declared.programs.Program.{Program}
use Rattle.c_types.specs.Layout.{Shape, shape_of}
use Rattle.object_numbers.specs.NumberedObjects.{FunctionParts, parts}

pub record StructParts : Type 0 where
  pub tag : List ℕ
  pub tagged : Bool
  pub complete : Bool
  pub fields : List (List ℕ × Shape)

abbrev pub field_parts : List ℕ × CType → List ℕ × Shape
field_parts field = (field.0, shape_of field.1)

abbrev pub struct_parts : StructDef → StructParts
struct_parts s = record { tag = s.tag; tagged = s.tagged; complete = s.complete; fields = map field_parts s.fields }

pub record ObjectParts : Type 0 where
  pub name : List ℕ
  pub shape : Shape
  pub constant : Bool
  pub addressable : Bool
  pub owner : Option ℕ
  pub initial : List Value

abbrev pub object_parts : Object → ObjectParts
object_parts o = record { name = o.name; shape = shape_of o.ty; constant = o.constant; addressable = o.addressable; owner = o.owner; initial = o.initial }

pub record ProgramParts : Type 0 where
  pub structs : List StructParts
  pub functions : List FunctionParts
  pub objects : List ObjectParts

abbrev pub program_parts : Program → ProgramParts
program_parts p = record { structs = map struct_parts p.structs.list; functions = map parts p.functions; objects = map object_parts p.table.objects }
