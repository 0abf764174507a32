-- A function of a file gets its interface or its body.
use Rattle.std.proofs.Common.{◌≡◌, ℕ, zero, suc, ◌+◌, List, [], ◌∷◌, map, length, get_or, ◌<◌, set, slice_get, Option, Some, None, option_map, is_some, cond, Bool, refl, ap, sym, ◌∙◌, arith}
use Rattle.std.specs.Prelude.{unwrap_or}
use Rattle.std.specs.Str.{bytes_eq}
use Rattle.std.proofs.lemmas.List.{map-set, get_or-map, length-map}
use Rattle.std.proofs.lemmas.List.Sums.{sum_by-set}
use Rattle.std.proofs.lemmas.Option.{slice_get-map, slice_get-get_or}
use Rattle.c_syntax.specs.declared.bases.Word.{Word}
use Rattle.expression_typing.specs.Entities.{Entity, in_scope}
use Rattle.name_scopes.specs.Names.{Named}
use Rattle.file_typing.specs.FileScope.{FileScope, FunctionEntry, Interface, undeclared, function_number}
use Rattle.file_typing.specs.FunctionDeclarators.{declared_numbered, entry_of, function_declared, functions_declared, named_function, number_of_function, with_entry, with_function, with_interface}
use Rattle.file_state.specs.declared.entries.FunctionEntry.{FunctionEntry as Entry}
use Rattle.file_state.specs.Indexes.{IsNumbered, times_declared}
use Rattle.file_state.specs.Views.{function_entry_view}
use Rattle.file_state.proofs.Completed.{position_set}

-- ---- one entry is written

abbrev one_if : Bool → ℕ
one_if b = cond b 1 0

module _ (entries : List Entry) (i : ℕ) (old new : Entry) (within : i < length entries) (read : old ≡ get_or entries i old) where
  pub entry_changed : (change : FunctionEntry → FunctionEntry) (other : FunctionEntry) → function_entry_view new ≡ change (function_entry_view old)
      → map function_entry_view (set entries i new) ≡ set (map function_entry_view entries) i (change (unwrap_or (slice_get (map function_entry_view entries) i) other))
  entry_changed change other is =
      map-set function_entry_view entries i new
      ∙ ap (λ (e : FunctionEntry). set (map function_entry_view entries) i e) is
      ∙ ap (λ (o : Option FunctionEntry). set (map function_entry_view entries) i (change (unwrap_or o other)))
      (sym (slice_get-map function_entry_view entries i ∙ ap (option_map function_entry_view) (slice_get-get_or entries i old within ∙ ap Some (sym read))))

  pub still_numbered : (index : List (Named ℕ)) → new.name ≡ old.name → IsNumbered index (function_number (map function_entry_view entries))
      → IsNumbered index (function_number (map function_entry_view (set entries i new)))
  still_numbered index same numbered name =
      numbered name
      ∙ sym (ap (λ (es : List FunctionEntry). function_number es name) (map-set function_entry_view entries i new)
      ∙ position_set (λ (e : FunctionEntry). bytes_eq e.name name) (map function_entry_view entries) i (function_entry_view new) (function_entry_view old)
      (ap (λ (n : List ℕ). bytes_eq n name) same
      ∙ ap (λ (e : Entry). bytes_eq e.name name) read
      ∙ sym (ap (λ (e : FunctionEntry). bytes_eq e.name name) (get_or-map function_entry_view entries i old (function_entry_view old) within))))

  pub more_declared : (count more : ℕ) → times_declared new ≡ times_declared old + more → count ≡ functions_declared (map function_entry_view entries)
      → count + more ≡ functions_declared (map function_entry_view (set entries i new))
  more_declared count more times is =
      let below : i < length (map function_entry_view entries) = rw (length-map entries function_entry_view) within in
      let moved : functions_declared (set (map function_entry_view entries) i (function_entry_view new)) + one_if (is_some (get_or (map function_entry_view entries) i (function_entry_view old)).interface)
      ≡ functions_declared (map function_entry_view entries) + times_declared new =
      sum_by-set (λ (e : FunctionEntry). cond (is_some e.interface) 1 0) (map function_entry_view entries) i (function_entry_view new) (function_entry_view old) below in
      let before : one_if (is_some (get_or (map function_entry_view entries) i (function_entry_view old)).interface) ≡ times_declared old =
      ap (λ (e : FunctionEntry). one_if (is_some e.interface)) (get_or-map function_entry_view entries i old (function_entry_view old) within)
      ∙ ap times_declared (sym read) in
      let whole : functions_declared (map function_entry_view (set entries i new)) ≡ functions_declared (set (map function_entry_view entries) i (function_entry_view new)) =
      ap functions_declared (map-set function_entry_view entries i new) in
      omega (arith, times, is, moved, before, whole)

-- ---- a declaration

functions_named : (word : Word) (number : ℕ) (interface : Interface) (entity : Option Entity) (file : FileScope)
    → (named_function word number interface entity file).functions ≡ file.functions
functions_named word number interface (Some entity) file = refl
functions_named word number interface None file = refl

read_or : {X : Type 0} (xs : List X) (i : ℕ) (d : X) → unwrap_or (slice_get xs i) d ≡ get_or xs i d
read_or [] i d = refl
read_or (x ∷ xs) zero d = refl
read_or (x ∷ xs) (suc i) d = read_or xs i d

module _ (word : Word) (interface : Interface) (old found named new : FileScope) (number : ℕ)
    (numbered : number ≡ number_of_function found word)
    (first : found ≡ with_function word old)
    (second : named ≡ named_function word number interface (in_scope found.names word.name) found)
    (third : new ≡ with_entry number (with_interface interface (entry_of named number word)) named) where
  same_functions : named.functions ≡ found.functions
  same_functions = ap (λ (f : FileScope). f.functions) second ∙ functions_named word number interface (in_scope found.names word.name) found

  pub declared_by_steps : new ≡ function_declared word interface old
  declared_by_steps =
      third
      ∙ ap (λ (es : List FunctionEntry). with_entry number (with_interface interface (unwrap_or (slice_get es number) (undeclared word.name))) named) same_functions
      ∙ ap (λ (f : FileScope). with_entry number (with_interface interface (entry_of found number word)) f) second
      ∙ ap (λ (n : ℕ). declared_numbered word interface n found) numbered
      ∙ ap (λ (f : FileScope). declared_numbered word interface (number_of_function f word) f) first

  pub number_stays : number ≡ number_of_function new word
  number_stays =
      numbered
      ∙ ap (λ (es : List FunctionEntry). unwrap_or (function_number es word.name) 0) (sym same_functions)
      ∙ ap (λ (o : Option ℕ). unwrap_or o 0)
      (sym (position_set (λ (e : FunctionEntry). bytes_eq e.name word.name) named.functions number (with_interface interface (entry_of named number word)) (undeclared word.name)
      (ap (λ (e : FunctionEntry). bytes_eq e.name word.name) (read_or named.functions number (undeclared word.name)))))
      ∙ ap (λ (f : FileScope). number_of_function f word) (sym third)
