-- A function and a program from their parts.
use Rattle.std.proofs.Common.{◌≡◌, ℕ, List, ◌++◌, map, flat_map, take, drop, length, Option, Some, None, refl}
use Rattle.std.proofs.lemmas.List.{take-map, drop-map}
use Rattle.rvt_tree.specs.Syntax.{Statement}
use Rattle.rvt_tree.specs.declared.programs.Local.{Local}
use Rattle.c_types.specs.Layout.{Shape}
use Rattle.file_typing.specs.Elaboration.{is_object, function_of, functions_of, locals_from, objects_of_functions, params_of, program_of, result_of, structs_of, taken_in, with_address}
use Rattle.file_typing.specs.FileScope.{Body, FileScope, FunctionEntry, Interface}
use Rattle.file_typing.specs.LocalObjects.{object_of_local, statement_resolved}
use Rattle.file_typing.specs.Programs.{FunctionView, ObjectView, ProgramView, StructView, local_view}
use Rattle.c_elab.proofs.ObjectLists.{length_with_address}

pub defined : (first : ℕ) (name : List ℕ) (interface : Option Interface) (body : Body) (object : ℕ → Option ℕ) (all front back : List Local) (result : Option Shape) (count : ℕ) (statement : Statement)
    → object ≡ object_of_local (is_object body) first
    → count ≡ length (params_of interface)
    → result ≡ result_of interface
    → map local_view all ≡ locals_from object 0 body.locals
    → front ≡ take count all
    → back ≡ drop count all
    → statement ≡ statement_resolved object body.statement
    → ◌≡◌ {A = FunctionView} (record { name = name; params = map local_view front; result = result; locals = map local_view back; body = Some statement })
    (function_of first (record { name = name; interface = interface; body = None }) (Some body))
defined first name interface body object all front back result count statement objects counted given locals first_ones last_ones resolved =
    rw (first_ones, last_ones, ← take-map local_view count all, ← drop-map local_view count all, locals, given, resolved, counted, objects) refl

pub whole_program : (file : FileScope) (structs : List StructView) (functions : List FunctionView) (flagged objects : List ObjectView)
    → structs ≡ structs_of file.structs
    → flagged ≡ with_address (flat_map (λ (entry : FunctionEntry). taken_in entry.body) file.functions) 0 file.objects
    → functions ≡ functions_of file.structs (length flagged) file.functions
    → objects ≡ flagged ++ objects_of_functions file.structs 0 file.functions
    → ◌≡◌ {A = ProgramView} (record { structs = structs; functions = functions; objects = objects }) (program_of file)
whole_program file structs functions flagged objects structs_are flagged_are functions_are objects_are =
    rw (objects_are, functions_are, structs_are, flagged_are, length_with_address) refl
