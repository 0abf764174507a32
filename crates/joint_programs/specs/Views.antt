-- Two files as one of them sees them: its own program, and the other one.
use Rattle.std.specs.Prelude.{ℕ, List, map, Option}
use Rattle.rvt_tree.specs.declared.programs.Program.{Program}
use Rattle.joint_objects.specs.Sides.{Partners}
use Rattle.joint_objects.specs.JointObjects.{equal_structs}
use Rattle.joint_objects.specs.declared.objects.Origin.{Origin}
use Rattle.joint_objects.specs.declared.objects.Origin.TheVariants.{Both, Old, New}
use Rattle.joint_objects.specs.declared.objects.Element.{Element}
use Rattle.joint_objects.specs.declared.objects.Element.TheVariants as e
use Rattle.joint_objects.specs.declared.objects.JointObject.{JointObject}
use Rattle.joint_objects.specs.declared.objects.JointObject.TheVariants.{Global, Local, Extra, Mapped}
use Rattle.joint_programs.specs.declared.sides.Side.{Side}

-- for each struct of theirs the equal one of ours, and for each function of theirs its partner in ours, if there is one
pub record View : Type 0 where
  pub ours : Program
  pub theirs : Program
  pub structs : List (Option ℕ)
  pub functions : List (Option ℕ)

abbrev pub view_of : Side → View
view_of side = record { ours = side.ours.now; theirs = side.theirs.now; structs = side.structs.now; functions = side.functions.now }

-- where functions are paired so
abbrev pub seen_from_old : Program → Program → Partners → View
seen_from_old old new functions = record { ours = old; theirs = new; structs = (equal_structs old new).of_new; functions = functions.of_new }

abbrev pub seen_from_new : Program → Program → Partners → View
seen_from_new old new functions = record { ours = new; theirs = old; structs = (equal_structs old new).of_old; functions = functions.of_old }

-- ---- the joint table is made from the old file; this is how the new one sees it, with `Old` for ours alone

abbrev pub origin_turned : Origin → Origin
origin_turned (Both a b) = Both b a
origin_turned (Old a) = New a
origin_turned (New b) = Old b

abbrev pub element_turned : Element → Element
element_turned (e.Word kind) = e.Word kind
element_turned (e.Struct origin) = e.Struct (origin_turned origin)

abbrev pub turned : JointObject → JointObject
turned (Global origin) = Global (origin_turned origin)
turned (Local origin declaration) = Local (origin_turned origin) declaration
turned (Extra element number) = Extra (element_turned element) number
turned (Mapped number) = Mapped number

abbrev pub table_turned : List JointObject → List JointObject
table_turned = map turned
