-- The names under which the objects of the joint table are printed.
use Rattle.std.specs.Prelude.{ℕ, zero, suc, ◌+◌, Bool, true, false, ◌||◌, if◌then◌else◌, List, [], ◌++◌, codes, slice_get, Option, Some, None}
use Rattle.std.specs.Fmt.{decimal}
use Rattle.std.specs.Str.{bytes_eq}
use Rattle.rvt_num.specs.declared.kinds.Kind.{Kind}
use Rattle.rvt_num.specs.declared.kinds.Kind.TheVariants as k
use Rattle.rvt_tree.specs.declared.programs.Program.{Program}
use Rattle.rvt_tree.specs.declared.programs.Object.{Object}
use Rattle.rvt_tree.specs.declared.programs.Function.{Function}
use Rattle.rvt_tree.specs.declared.programs.StructDef.{StructDef}
use Rattle.version_map.specs.declared.map.Added.{Added}
use Rattle.joint_objects.specs.declared.objects.Origin.{Origin}
use Rattle.joint_objects.specs.declared.objects.Origin.TheVariants.{Both, Old, New}
use Rattle.joint_objects.specs.declared.objects.Element.{Element}
use Rattle.joint_objects.specs.declared.objects.Element.TheVariants as e
use Rattle.joint_objects.specs.declared.objects.JointObject.{JointObject}
use Rattle.joint_objects.specs.declared.objects.JointObject.TheVariants.{Global, Local, Extra, Mapped}

-- ---- what stands in both files has the old file's name

abbrev pub file_shown : Program → Program → Origin → Program
file_shown old new (Both a b) = old
file_shown old new (Old a) = old
file_shown old new (New b) = new

abbrev pub number_shown : Origin → ℕ
number_shown (Both a b) = a
number_shown (Old a) = a
number_shown (New b) = b

-- what is in one file alone says so
abbrev pub file_prefix : Origin → List ℕ
file_prefix (Both a b) = []
file_prefix (Old a) = codes "old:"
file_prefix (New b) = codes "new:"

-- ---- globals and locals

abbrev pub object_name : Option Object → List ℕ
object_name None = []
object_name (Some object) = object.name

abbrev pub global_text : Program → ℕ → List ℕ
global_text file number = object_name (slice_get file.table.objects number)

-- a function that is called as the other objects' names begin is written with brackets
abbrev pub brackets : List ℕ → List ℕ
brackets name = if bytes_eq name (codes "extra") || bytes_eq name (codes "map") then codes "()" else []

abbrev pub function_text : List ℕ → List ℕ
function_text name = name ++ brackets name

abbrev pub function_at : Option Function → List ℕ
function_at None = []
function_at (Some function) = function_text function.name

abbrev pub owner_text : List Function → Option ℕ → List ℕ
owner_text functions None = []
owner_text functions (Some owner) = function_at (slice_get functions owner)

abbrev pub owner_of : Option Object → Option ℕ
owner_of None = None
owner_of (Some object) = object.owner

-- `.2` for the second declaration of a name, and nothing for the first
abbrev pub declaration_text : ℕ → List ℕ
declaration_text zero = []
declaration_text (suc n) = codes "." ++ decimal (suc n + 1)

abbrev pub local_text : Program → ℕ → ℕ → List ℕ
local_text file number declaration =
    owner_text file.functions (owner_of (slice_get file.table.objects number))
    ++ (codes "." ++ (object_name (slice_get file.table.objects number) ++ declaration_text declaration))

-- ---- arrays

abbrev pub kind_word : Kind → List ℕ
kind_word k.Bool = codes "bool"
kind_word k.I8 = codes "i8"
kind_word k.U8 = codes "u8"
kind_word k.I16 = codes "i16"
kind_word k.U16 = codes "u16"
kind_word k.I32 = codes "i32"
kind_word k.U32 = codes "u32"
kind_word k.I64 = codes "i64"
kind_word k.U64 = codes "u64"

abbrev pub struct_sort : Bool → List ℕ
struct_sort true = codes "struct."
struct_sort false = codes "typedef."

abbrev pub struct_text : Option StructDef → List ℕ
struct_text None = []
struct_text (Some s) = struct_sort s.tagged ++ s.tag

-- arrays of one type are counted from 1
abbrev pub extra_text : List ℕ → ℕ → List ℕ
extra_text element number = codes "extra." ++ (element ++ (codes "." ++ decimal (number + 1)))

abbrev pub element_text : Program → Program → Element → List ℕ
element_text old new (e.Word kind) = kind_word kind
element_text old new (e.Struct origin) = struct_text (slice_get (file_shown old new origin).structs.list (number_shown origin))

abbrev pub element_prefix : Element → List ℕ
element_prefix (e.Word kind) = []
element_prefix (e.Struct origin) = file_prefix origin

abbrev pub added_name : Option Added → List ℕ
added_name None = []
added_name (Some added) = added.name

-- ---- the name of an object

abbrev pub printed_name : Program → Program → List Added → JointObject → List ℕ
printed_name old new added (Global origin) = file_prefix origin ++ global_text (file_shown old new origin) (number_shown origin)
printed_name old new added (Local origin declaration) = file_prefix origin ++ local_text (file_shown old new origin) (number_shown origin) declaration
printed_name old new added (Extra element number) = element_prefix element ++ extra_text (element_text old new element) number
printed_name old new added (Mapped number) = codes "map." ++ added_name (slice_get added number)
