-- What a file of C becomes: a program, or the first rule that it breaks (C 6.3 to 6.9).
use Rattle.std.specs.Prelude.{◌≡◌, ℕ, suc, ◌+◌, List, [], ◌∷◌, ◌++◌, flat_map, take, drop, length, Bool, true, false, if◌then◌else◌, Option, Some, None, option_map, option_and_then, Result, Ok, Err}
use Rattle.rvt_tree.specs.declared.places.Place.{Place}
use Rattle.rvt_tree.specs.declared.places.Refusal.{Refusal}
use Rattle.rvt_tree.specs.declared.places.Fault.{Fault}
use Rattle.rvt_tree.specs.declared.places.Fault.TheVariants as F
use Rattle.rvt_tree.specs.declared.programs.Program.{Program}
use Rattle.rvt_tree.specs.declared.expressions.Variable.TheVariants as V
use Rattle.c_types.specs.Layout.{Shape, AWord}
use Rattle.c_syntax.specs.Syntax as s
use Rattle.expression_typing.specs.Entities.{Field}
use Rattle.expression_typing.specs.Outcomes.{Cause, no_body, address_on_a_call_cycle, number_of, word_of, Outcome, Made, Broken}
use Rattle.expression_typing.specs.Progress.{Notes, Local, Taken, Call, nothing_noted, is_taken}
use Rattle.file_typing.specs.CallCycles.{first_without_body, IsFirstAddressOnCycle, HasNoAddressOnCycle}
use Rattle.file_typing.specs.FileScope.{FileScope, FunctionEntry, Interface, Body, StructEntry}
use Rattle.file_typing.specs.Items.{all_items}
use Rattle.file_typing.specs.LocalObjects.{object_of_local, statement_resolved}
use Rattle.file_typing.specs.Objects.{zeros}
use Rattle.file_typing.specs.Programs.{ProgramView, IsProgramOf, StructView, FunctionView, LocalView, ObjectView}

-- ---- structs

abbrev pub field_views : List Field → List (List ℕ × Shape)
field_views [] = []
field_views (field ∷ rest) = (field.name, field.type) ∷ field_views rest

abbrev pub is_complete : Option ℕ → Bool
is_complete None = false
is_complete (Some cells) = true

abbrev pub struct_of : StructEntry → StructView
struct_of entry =
    record { tag = entry.tag; tagged = entry.tagged; complete = is_complete entry.structure.cells; fields = field_views entry.structure.fields }

abbrev pub structs_of : List StructEntry → List StructView
structs_of [] = []
structs_of (entry ∷ rest) = struct_of entry ∷ structs_of rest

-- ---- locals that are objects

abbrev pub is_object : Body → ℕ → Bool
is_object body number = is_taken body.taken (V.Local number)

-- the objects of a function, in the order of its locals, from the local of this number on
abbrev pub objects_from : List StructEntry → ℕ → Body → ℕ → List Local → List ObjectView
objects_from structs owner body number [] = []
objects_from structs owner body number (local ∷ rest) =
    (if is_object body number then local_object structs owner local ∷ [] else []) ++ objects_from structs owner body (suc number) rest where
      local_object : List StructEntry → ℕ → Local → ObjectView
      local_object structs owner local =
          record { name = local.name; shape = local.type; constant = false; addressable = true; owner = Some owner; initial = zeros structs local.type }

abbrev pub objects_of_body : List StructEntry → ℕ → Option Body → List ObjectView
objects_of_body structs owner None = []
objects_of_body structs owner (Some body) = objects_from structs owner body 0 body.locals

abbrev pub objects_of_functions : List StructEntry → ℕ → List FunctionEntry → List ObjectView
objects_of_functions structs owner [] = []
objects_of_functions structs owner (entry ∷ rest) = objects_of_body structs owner entry.body ++ objects_of_functions structs (suc owner) rest

-- ---- functions

-- locals from the one of this number on
abbrev pub locals_from : (ℕ → Option ℕ) → ℕ → List Local → List LocalView
locals_from object number [] = []
locals_from object number (local ∷ rest) =
    record { name = local.name; shape = local.type; constant = local.constant; object = object number } ∷ locals_from object (suc number) rest

abbrev pub params_of : Option Interface → List Local
params_of None = []
params_of (Some interface) = interface.params

abbrev pub result_of : Option Interface → Option Shape
result_of interface = option_map AWord (option_and_then (λ interface. interface.result) interface)

abbrev pub no_object : ℕ → Option ℕ
no_object number = None

-- a function whose first object has this number
abbrev pub function_of : ℕ → FunctionEntry → Option Body → FunctionView
function_of first entry None =
    record { name = entry.name; params = locals_from no_object 0 (params_of entry.interface); result = result_of entry.interface; locals = []; body = None }
function_of first entry (Some body) =
    record {
      name = entry.name;
      params = take (length (params_of entry.interface)) (locals_from (object_of_local (is_object body) first) 0 body.locals);
      result = result_of entry.interface;
      locals = drop (length (params_of entry.interface)) (locals_from (object_of_local (is_object body) first) 0 body.locals);
      body = Some (statement_resolved (object_of_local (is_object body) first) body.statement);
    }

abbrev pub functions_of : List StructEntry → ℕ → List FunctionEntry → List FunctionView
functions_of structs first [] = []
functions_of structs first (entry ∷ rest) =
    function_of first entry entry.body ∷ functions_of structs (first + length (objects_of_body structs 0 entry.body)) rest

-- ---- the objects of the file

abbrev pub taken_in : Option Body → List Taken
taken_in None = []
taken_in (Some body) = body.taken

-- an object of the file is addressable where its address is taken in a function
abbrev pub with_address : List Taken → ℕ → List ObjectView → List ObjectView
with_address taken number [] = []
with_address taken number (object ∷ rest) =
    record {
      name = object.name;
      shape = object.shape;
      constant = object.constant;
      addressable = is_taken taken (V.Object number);
      owner = object.owner;
      initial = object.initial;
    }
    ∷ with_address taken (suc number) rest

-- ---- the program

-- the objects of the file in the order of their declarations, and then the locals that are objects, in the order of the functions
abbrev pub program_of : FileScope → ProgramView
program_of file =
    record {
      structs = structs_of file.structs;
      functions = functions_of file.structs (length file.objects) file.functions;
      objects =
          with_address (flat_map (λ entry. taken_in entry.body) file.functions) 0 file.objects
          ++ objects_of_functions file.structs 0 file.functions;
    }

-- a rule that is broken, and where
pub record Break : Type 0 where
  pub cause : Cause
  pub place : Place

abbrev pub whole_file : List s.ExternalItem → Outcome FileScope
whole_file items = all_items items nothing_noted

-- What the items of a file become: the first rule that one breaks is the answer; then the first call of a function without
-- a body; then the first address of a local in a function on a call cycle.
pub data Elaborated (items : List s.ExternalItem) : Result ProgramView Break → Type 0 where
  breaks_a_rule : {cause : Cause} {at : Place} → whole_file items ≡ Broken cause at → Elaborated items (Err (record { cause = cause; place = at }))
  calls_no_body : {file : FileScope} {notes : Notes} {call : Call}
      → whole_file items ≡ Made file notes
      → first_without_body file.functions ≡ Some call
      → Elaborated items (Err (record { cause = no_body call.name; place = call.place }))
  takes_address_on_cycle : {file : FileScope} {notes : Notes} {at : Place}
      → whole_file items ≡ Made file notes
      → first_without_body file.functions ≡ None
      → IsFirstAddressOnCycle file.functions at
      → Elaborated items (Err (record { cause = address_on_a_call_cycle; place = at }))
  is_program : {file : FileScope} {notes : Notes}
      → whole_file items ≡ Made file notes
      → first_without_body file.functions ≡ None
      → HasNoAddressOnCycle file.functions
      → Elaborated items (Ok (program_of file))

-- ---- the trees that say it

-- a refusal names the place, the cause by its number, and its word
abbrev pub IsRefusalOf : Break → Refusal → Type 0
IsRefusalOf broken refusal =
    (refusal.place ≡ broken.place) × (refusal.cause ≡ number_of broken.cause) × (refusal.word ≡ word_of broken.cause)

-- the trees of a program, or a refusal, say what the items become, unless memory was wanting
abbrev pub IsElaborated : List s.ExternalItem → Result Program Fault → Type 0
IsElaborated items (Ok program) = (view : ProgramView) × Elaborated items (Ok view) × IsProgramOf view program
IsElaborated items (Err (F.Refused refusal)) = (broken : Break) × Elaborated items (Err broken) × IsRefusalOf broken refusal
IsElaborated items (Err F.Memory) = Unit {0}

-- ---- at most one

-- a file becomes one program or breaks one rule first
abbrev pub OneAnswer : Type 0
OneAnswer = (items : List s.ExternalItem) (a b : Result ProgramView Break) → Elaborated items a → Elaborated items b → a ≡ b
