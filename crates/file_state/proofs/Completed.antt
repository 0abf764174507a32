-- A struct gets its body.
use Rattle.std.proofs.Common.{◌≡◌, ℕ, zero, suc, ◌-◌, ◌++◌, append_assoc, List, [], ◌∷◌, map, length, get_or, ◌<◌, set, slice_get, Option, Some, None, option_map, ◌&&◌, Bool, refl, ap, sym, ◌∙◌, arith}
use Rattle.std.specs.Prelude.{position}
use Rattle.std.specs.List.{repeat}
use Rattle.std.specs.Str.{bytes_eq}
use Rattle.std.proofs.lemmas.List.{map-set, length-set, get_or-map}
use Rattle.std.proofs.lemmas.List.Folds.{position_or_len-set}
use Rattle.std.proofs.lemmas.Option.{slice_get-map, slice_get-get_or}
use Rattle.rvt_num.specs.declared.kinds.Kind.{Kind}
use Rattle.name_scopes.specs.Names.{Named}
use Rattle.typing_base.specs.declared.structures.Structure.{Structure}
use Rattle.file_typing.specs.FileScope.{StructEntry, struct_number}
use Rattle.file_typing.specs.Structs as s
use Rattle.file_typing.specs.Structs.{completed, contents_of_struct}
use Rattle.file_state.specs.Indexes.{IsNumbered}
use Rattle.file_state.specs.Views.{struct_entry_view}

pub entry_set : (structs : List Structure) (i : ℕ) (old new : Structure) (members : s.Members) → i < length structs → old ≡ get_or structs i old
    → struct_entry_view new ≡ completed (Some (struct_entry_view old)) members
    → map struct_entry_view (set structs i new) ≡ set (map struct_entry_view structs) i (completed (slice_get (map struct_entry_view structs) i) members)
entry_set structs i old new members within read is =
    map-set struct_entry_view structs i new
    ∙ ap (λ (e : StructEntry). set (map struct_entry_view structs) i e) is
    ∙ ap (λ (o : Option StructEntry). set (map struct_entry_view structs) i (completed o members))
    (sym (slice_get-map struct_entry_view structs i ∙ ap (option_map struct_entry_view) (slice_get-get_or structs i old within ∙ ap Some (sym read))))

pub position_set : {X : Type 0} (p : X → Bool) (xs : List X) (i : ℕ) (y d : X) → p y ≡ p (get_or xs i d) → position p (set xs i y) ≡ position p xs
position_set p xs i y d same = rw (position_or_len-set p xs i y d same, length-set xs i y) refl

pub still_numbered : (index : List (Named ℕ)) (structs : List Structure) (i : ℕ) (old new : Structure) (members : s.Members) → i < length structs → old ≡ get_or structs i old
    → struct_entry_view new ≡ completed (Some (struct_entry_view old)) members
    → IsNumbered index (struct_number (map struct_entry_view structs)) → IsNumbered index (struct_number (map struct_entry_view (set structs i new)))
still_numbered index structs i old new members within read is numbered tag =
    numbered tag
    ∙ sym (ap (λ (es : List StructEntry). struct_number es tag) (map-set struct_entry_view structs i new)
    ∙ position_set (λ (e : StructEntry). e.tagged && bytes_eq e.tag tag) (map struct_entry_view structs) i (struct_entry_view new) (struct_entry_view old)
    (ap (λ (e : StructEntry). e.tagged && bytes_eq e.tag tag) is
    ∙ ap (λ (s : Structure). s.tagged && bytes_eq s.tag tag) read
    ∙ sym (ap (λ (e : StructEntry). e.tagged && bytes_eq e.tag tag) (get_or-map struct_entry_view structs i old (struct_entry_view old) within))))

-- ---- contents

no_more : {A : Type 0} (xs : List A) → xs ++ [] ≡ xs
no_more [] = refl
no_more (x ∷ xs) = ap (λ rest. x ∷ rest) (no_more xs)

pub none_here : (kinds : List Kind) (structs : List Structure) (i : ℕ) → None ≡ slice_get structs i → kinds ≡ kinds ++ contents_of_struct (slice_get (map struct_entry_view structs) i)
none_here kinds structs i is =
    sym (no_more kinds)
    ∙ ap (λ (o : Option StructEntry). kinds ++ contents_of_struct o) (sym (slice_get-map struct_entry_view structs i ∙ ap (option_map struct_entry_view) (sym is)))

pub repeat_step : {A : Type 0} (made item : List A) (left : ℕ) → 0 < left → (made ++ item) ++ repeat (left - 1) item ≡ made ++ repeat left item
repeat_step made item zero some = absurd (let no : ⊥ = omega (arith, some) in no)
repeat_step made item (suc n) some = let e : suc n - 1 ≡ n = omega arith in rw e (append_assoc made item (repeat n item))
