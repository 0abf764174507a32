-- Functions and their objects, one function after another.
use Rattle.std.proofs.Common.{◌≡◌, ℕ, ◌+◌, List, [], ◌∷◌, ◌++◌, map, length, ap, append_assoc, length-append, add-one, ◌∙◌, arith}
use Rattle.std.proofs.lemmas.List.{map-append, length-map}
use Rattle.rvt_tree.specs.declared.programs.Function.{Function}
use Rattle.rvt_tree.specs.declared.programs.Object.{Object}
use Rattle.file_state.specs.declared.entries.FunctionEntry.{FunctionEntry}
use Rattle.file_state.specs.Views.{function_entry_view}
use Rattle.file_typing.specs.Elaboration.{function_of, functions_of, objects_of_body, objects_of_functions}
use Rattle.file_typing.specs.FileScope.{StructEntry}
use Rattle.file_typing.specs.Programs.{FunctionView, ObjectView, function_view, object_view}
use Rattle.c_elab.proofs.ObjectLists.{as_many}

module _ (structs : List StructEntry) (number : ℕ) (entry : FunctionEntry) (objects objects' : List Object)
    (more : map object_view objects' ≡ map object_view objects ++ objects_of_body structs number (function_entry_view entry).body) where
  counted : length objects' ≡ length objects + length (objects_of_body structs 0 (function_entry_view entry).body)
  counted =
      let all = ap length more in
      let left = length-map objects' object_view in
      let before = length-map objects object_view in
      let both = length-append (map object_view objects) (objects_of_body structs number (function_entry_view entry).body) in
      let same = as_many structs number 0 (function_entry_view entry).body in
      omega (arith, all, left, before, both, same)

  pub next_function : (made made' : List Function) (function : Function) (rest rest' : List FunctionEntry) (whole : List FunctionView)
      → made' ≡ made ++ function ∷ [] → rest ≡ entry ∷ rest'
      → function_view function ≡ function_of (length objects) (function_entry_view entry) (function_entry_view entry).body
      → map function_view made ++ functions_of structs (length objects) (map function_entry_view rest) ≡ whole
      → map function_view made' ++ functions_of structs (length objects') (map function_entry_view rest') ≡ whole
  next_function made made' function rest rest' whole pushed is built before =
      rw (pushed, map-append function_view made (function ∷ []), append_assoc, counted)
      (ap (λ (view : FunctionView). map function_view made ++ (view ∷ functions_of structs (length objects + length (objects_of_body structs 0 (function_entry_view entry).body)) (map function_entry_view rest'))) built
      ∙ (rw is at before))

  pub next_objects : (next : ℕ) (rest rest' : List FunctionEntry) (whole : List ObjectView)
      → next ≡ number + 1 → rest ≡ entry ∷ rest'
      → map object_view objects ++ objects_of_functions structs number (map function_entry_view rest) ≡ whole
      → map object_view objects' ++ objects_of_functions structs next (map function_entry_view rest') ≡ whole
  next_objects next rest rest' whole one is before = rw (one, add-one, more, append_assoc) (rw is at before)
