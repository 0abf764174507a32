-- What a file has declared up to a place in it (C 6.2.1, 6.2.3, 6.9).
use Rattle.std.specs.Prelude.{ℕ, List, [], ◌∷◌, map, flat_map, position, Bool, true, false, ◌&&◌, Option, Some, None}
use Rattle.std.specs.Str.{bytes_eq}
use Rattle.rvt_num.specs.declared.kinds.Kind.{Kind}
use Rattle.rvt_tree.specs.Syntax as t
use Rattle.c_syntax.specs.Syntax as s
use Rattle.c_syntax.specs.declared.bases.Specifier.{Specifier}
use Rattle.c_syntax.specs.declared.bases.Specifier.TheVariants as Sp
use Rattle.c_syntax.specs.declared.bases.Word.{Word}
use Rattle.expression_typing.specs.Entities.{Binding, Structure, Tag, Scope}
use Rattle.expression_typing.specs.Progress.{Local, Call, Taken}
use Rattle.file_typing.specs.Programs.{ObjectView}

-- ---- structs

-- a struct, and the kinds of its cells
pub record StructEntry : Type 0 where
  pub tag : List ℕ
  -- false where the tag is the name of a typedef
  pub tagged : Bool
  pub structure : Structure
  pub contents : List Kind

abbrev pub incomplete : List ℕ → Bool → StructEntry
incomplete tag tagged = record { tag = tag; tagged = tagged; structure = record { fields = []; cells = None }; contents = [] }

-- ---- functions

-- the body of a function: all its locals, its parameters first, its calls, and the addresses that it takes
pub record Body : Type 0 where
  pub statement : t.Statement
  pub locals : List Local
  pub calls : List Call
  pub taken : List Taken

-- what a function takes and gives
pub record Interface : Type 0 where
  pub params : List Local
  pub result : Option Kind

-- a function, once it is declared with its interface, and once it is defined with its body
pub record FunctionEntry : Type 0 where
  pub name : List ℕ
  pub interface : Option Interface
  pub body : Option Body

abbrev pub undeclared : List ℕ → FunctionEntry
undeclared name = record { name = name; interface = None; body = None }

-- ---- the file

pub record FileScope : Type 0 where
  -- the last one declared is the first
  pub names : List Binding
  pub tags : List Tag
  -- by their numbers: those whose bodies stand in the file in the order of these, whether they are declared yet or not, and then the others
  pub structs : List StructEntry
  -- how many bodies of structs have begun
  pub bodies : ℕ
  -- by their numbers: those that the file defines in the order of these definitions, and then the others
  pub functions : List FunctionEntry
  -- the objects declared so far, by their numbers
  pub objects : List ObjectView

abbrev pub structures : FileScope → List Structure
structures file = map (λ entry. entry.structure) file.structs

-- where an expression outside the functions stands
abbrev pub scope_of_file : FileScope → Scope
scope_of_file file = record { names = file.names; tags = file.tags; structs = structures file; evaluated = true }

-- ---- one change at a time

abbrev pub with_name : Binding → FileScope → FileScope
with_name binding file =
    record { names = binding ∷ file.names; tags = file.tags; structs = file.structs; bodies = file.bodies; functions = file.functions; objects = file.objects }

abbrev pub with_tag : Tag → FileScope → FileScope
with_tag tag file =
    record { names = file.names; tags = tag ∷ file.tags; structs = file.structs; bodies = file.bodies; functions = file.functions; objects = file.objects }

abbrev pub with_structs : List StructEntry → FileScope → FileScope
with_structs structs file =
    record { names = file.names; tags = file.tags; structs = structs; bodies = file.bodies; functions = file.functions; objects = file.objects }

abbrev pub with_bodies : ℕ → FileScope → FileScope
with_bodies bodies file =
    record { names = file.names; tags = file.tags; structs = file.structs; bodies = bodies; functions = file.functions; objects = file.objects }

abbrev pub with_functions : List FunctionEntry → FileScope → FileScope
with_functions functions file =
    record { names = file.names; tags = file.tags; structs = file.structs; bodies = file.bodies; functions = functions; objects = file.objects }

abbrev pub with_objects : List ObjectView → FileScope → FileScope
with_objects objects file =
    record { names = file.names; tags = file.tags; structs = file.structs; bodies = file.bodies; functions = file.functions; objects = objects }

-- ---- numbers

-- the struct of a tag, if the file has its body or has named it
abbrev pub struct_number : List StructEntry → List ℕ → Option ℕ
struct_number structs tag = position (λ entry. entry.tagged && bytes_eq entry.tag tag) structs

abbrev pub function_number : List FunctionEntry → List ℕ → Option ℕ
function_number functions name = position (λ entry. bytes_eq entry.name name) functions

-- ---- the outline of a file: the structs whose bodies stand in it, and the functions that it defines

abbrev pub specifier_of : s.ExternalItem → s.ItemSpecifier
specifier_of (s.type_definition base declarators) = base
specifier_of (s.tag_declaration base) = base
specifier_of (s.object_definition base inits) = base
specifier_of (s.function_prototype base word params) = base
specifier_of (s.function_definition base word params body) = base

abbrev pub first_name : List s.Declarator → List ℕ
first_name [] = []
first_name (declarator ∷ rest) = declarator.word.name

-- the name that stands for the tag of a struct without one: that of its first typedef
abbrev pub typedef_name : s.ExternalItem → List ℕ
typedef_name (s.type_definition base declarators) = first_name declarators
typedef_name _ = []

abbrev pub entry_of_tag : Option Word → List ℕ → StructEntry
entry_of_tag (Some tag) typedef = incomplete tag.name true
entry_of_tag None typedef = incomplete typedef false

abbrev pub body_of : Specifier → Option s.Members → List ℕ → List StructEntry
body_of (Sp.Struct tag) (Some (s.fields lines)) typedef = entry_of_tag tag typedef ∷ []
body_of _ _ _ = []

abbrev pub struct_bodies : List s.ExternalItem → List StructEntry
struct_bodies items = flat_map (λ item. body_of (specifier_of item).base.specifier (specifier_of item).members (typedef_name item)) items

abbrev pub definition_of : s.ExternalItem → List FunctionEntry
definition_of (s.function_definition base word params body) = undeclared word.name ∷ []
definition_of _ = []

abbrev pub definitions : List s.ExternalItem → List FunctionEntry
definitions items = flat_map definition_of items
