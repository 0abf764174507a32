-- A typed program, wherever its parts lie in memory.
use Rattle.std.specs.Prelude.{◌≡◌, ℕ, List, Bool, Option, map, option_map}
use Rattle.rvt_num.specs.declared.values.Value.{Value}
use Rattle.rvt_tree.specs.declared.programs.Program.{Program}
use Rattle.rvt_tree.specs.declared.programs.Function.{Function}
use Rattle.rvt_tree.specs.declared.programs.Local.{Local}
use Rattle.rvt_tree.specs.declared.programs.Object.{Object}
use Rattle.rvt_tree.specs.declared.programs.StructDef.{StructDef}
use Rattle.rvt_tree.specs.Syntax.{Statement}
use Rattle.rvt_tree.specs.Views.{stmt_view}
use Rattle.c_types.specs.Layout.{Shape, shape_of}

-- a struct by its tag, or by the name of its first typedef
pub record StructView : Type 0 where
  pub tag : List ℕ
  pub tagged : Bool
  pub complete : Bool
  -- the name and the type of each field
  pub fields : List (List ℕ × Shape)

-- a parameter or a local, and the object that it is if its address is taken
pub record LocalView : Type 0 where
  pub name : List ℕ
  pub shape : Shape
  pub constant : Bool
  pub object : Option ℕ

-- a function, with its body if it has one
pub record FunctionView : Type 0 where
  pub name : List ℕ
  pub params : List LocalView
  pub result : Option Shape
  pub locals : List LocalView
  pub body : Option Statement

-- an object of the table, and the function whose local it is
pub record ObjectView : Type 0 where
  pub name : List ℕ
  pub shape : Shape
  pub constant : Bool
  pub addressable : Bool
  pub owner : Option ℕ
  pub initial : List Value

pub record ProgramView : Type 0 where
  pub structs : List StructView
  pub functions : List FunctionView
  pub objects : List ObjectView

-- ---- what the trees of a program say

abbrev pub struct_view : StructDef → StructView
struct_view s = record { tag = s.tag; tagged = s.tagged; complete = s.complete; fields = map (λ field. (field.0, shape_of field.1)) s.fields }

abbrev pub local_view : Local → LocalView
local_view local = record { name = local.name; shape = shape_of local.ty; constant = local.constant; object = local.object }

abbrev pub function_view : Function → FunctionView
function_view f =
    record {
      name = f.name;
      params = map local_view f.params;
      result = option_map shape_of f.result;
      locals = map local_view f.locals;
      body = option_map stmt_view f.body;
    }

abbrev pub object_view : Object → ObjectView
object_view o =
    record { name = o.name; shape = shape_of o.ty; constant = o.constant; addressable = o.addressable; owner = o.owner; initial = o.initial }

abbrev pub program_view : Program → ProgramView
program_view p =
    record { structs = map struct_view p.structs.list; functions = map function_view p.functions; objects = map object_view p.table.objects }

-- the trees say this program
abbrev pub IsProgramOf : ProgramView → Program → Type 0
IsProgramOf view program = program_view program ≡ view
