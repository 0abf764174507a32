-- The numbers of structs and functions, as one more comes.
use Rattle.std.proofs.Common.{◌≡◌, ℕ, suc, ◌+◌, List, [], ◌∷◌, ◌++◌, map, length, Bool, true, false, cond, Option, Some, None, option_map, is_some, nat_lt, refl, ap, sym, ◌∙◌, subst, arith}
use Rattle.std.specs.Prelude.{position, if◌then◌else◌, ◌&&◌, not}
use Rattle.std.specs.List.{position_or_len}
use Rattle.std.specs.Str.{bytes_eq}
use Rattle.std.proofs.lemmas.List.{map-append, length-map}
use Rattle.std.proofs.lemmas.List.Sums.{sum_by_push}
use Rattle.std.proofs.lemmas.Cmp.{nat_list_eq_equiv}
use Rattle.std.proofs.lemmas.Slice.Eq.{bytes_eq-Decides}
use Rattle.name_scopes.specs.Names.{Named, named_in}
use Rattle.typing_base.specs.declared.structures.Structure.{Structure}
use Rattle.file_typing.specs.FileScope.{StructEntry, FunctionEntry, incomplete, undeclared, struct_number, function_number}
use Rattle.file_state.specs.Indexes.{IsNumbered, with_first}
use Rattle.file_typing.specs.FunctionDeclarators.{functions_declared}
use Rattle.file_state.specs.declared.entries.FunctionEntry.{FunctionEntry as Entry}
use Rattle.file_state.specs.declared.entries.Interface.{Interface}
use Rattle.file_state.specs.Views.{struct_entry_view, function_entry_view, interface_view}

-- what is found before, or else here
abbrev found : Option ℕ → Bool → ℕ → Option ℕ
found (Some i) here n = Some i
found None here n = if here then Some n else None

-- ---- the first position

module _ {X : Type 0} (p : X → Bool) where
  first_or_later : (b : Bool) (n m : ℕ) → cond (nat_lt (cond (not b) (1 + n) 0) (suc m)) (Some (cond (not b) (1 + n) 0)) None ≡ cond b (Some 0) (option_map suc (cond (nat_lt n m) (Some n) None))
  first_or_later true n m = let e : nat_lt 0 (suc m) ≡ true = grind arith in rw e refl
  first_or_later false n m = later (nat_lt n m) refl
    where
      later : (b : Bool) → nat_lt n m ≡ b → cond (nat_lt (1 + n) (suc m)) (Some (1 + n)) None ≡ option_map suc (cond (nat_lt n m) (Some n) None)
      later true e = grind arith
      later false e = grind arith

  position_cons : (y : X) (ys : List X) → position p (y ∷ ys) ≡ cond (p y) (Some 0) (option_map suc (position p ys))
  position_cons y ys = first_or_later (p y) (position_or_len p ys) (length ys)

  found_later : (b here : Bool) (o : Option ℕ) (n : ℕ) → cond b (Some 0) (option_map suc (found o here n)) ≡ found (cond b (Some 0) (option_map suc o)) here (suc n)
  found_later true here o n = refl
  found_later false here (Some i) n = refl
  found_later false true None n = refl
  found_later false false None n = refl

  position_push : (xs : List X) (x : X) → position p (xs ++ x ∷ []) ≡ found (position p xs) (p x) (length xs)
  position_push [] x = position_cons x []
  position_push (y ∷ ys) x =
      position_cons y (ys ++ x ∷ [])
      ∙ ap (λ o. cond (p y) (Some 0) (option_map suc o)) (position_push ys x)
      ∙ found_later (p y) (p x) (position p ys) (length ys)
      ∙ ap (λ o. found o (p x) (suc (length ys))) (sym (position_cons y ys))

-- ---- indexes

found_nowhere : (o : Option ℕ) (n : ℕ) → o ≡ found o false n
found_nowhere (Some i) n = refl
found_nowhere None n = refl

same_name : (a b : List ℕ) → bytes_eq a b ≡ true → a ≡ b
same_name a b e = (bytes_eq-Decides a b).0 e

first_in : (index : List (Named ℕ)) (name other : List ℕ) (n : ℕ) → named_in (with_first name n index) other ≡ found (named_in index other) (bytes_eq other name) n
first_in index name other n = cases (named_in index name) (bytes_eq other name) refl refl
  where
    cases : (o : Option ℕ) (b : Bool) → named_in index name ≡ o → bytes_eq other name ≡ b → named_in (with_first name n index) other ≡ found (named_in index other) (bytes_eq other name) n
    cases (Some i) true e f =
        let here : named_in index other ≡ Some i = ap (named_in index) (same_name other name f) ∙ e in
        rw (e, here) refl
    cases (Some i) false e f = rw (e, f) (found_nowhere (named_in index other) n)
    cases None true e f =
        let here : named_in index other ≡ None = ap (named_in index) (same_name other name f) ∙ e in
        rw (e, f, here) refl
    cases None false e f = rw (e, f) (found_nowhere (named_in index other) n)

module _ {X : Type 0} (p : List ℕ → X → Bool) (index : List (Named ℕ)) (xs : List X) (x : X) (is : (name : List ℕ) → named_in index name ≡ position (p name) xs) where
  pub numbered_more : (name : List ℕ) → ((other : List ℕ) → p other x ≡ bytes_eq other name)
      → (other : List ℕ) → named_in (with_first name (length xs) index) other ≡ position (p other) (xs ++ x ∷ [])
  numbered_more name tells other =
      first_in index name other (length xs)
      ∙ ap (λ o. found o (bytes_eq other name) (length xs)) (is other)
      ∙ ap (λ b. found (position (p other) xs) b (length xs)) (sym (tells other))
      ∙ sym (position_push (p other) xs x)

  pub numbered_same : ((other : List ℕ) → p other x ≡ false) → (other : List ℕ) → named_in index other ≡ position (p other) (xs ++ x ∷ [])
  numbered_same tells other =
      is other
      ∙ found_nowhere (position (p other) xs) (length xs)
      ∙ ap (λ b. found (position (p other) xs) b (length xs)) (sym (tells other))
      ∙ sym (position_push (p other) xs x)

abbrev tag_test : List ℕ → StructEntry → Bool
tag_test tag entry = entry.tagged && bytes_eq entry.tag tag

struct_entry_numbered : (index : List (Named ℕ)) (entries : List StructEntry) (tag : List ℕ) (tagged : Bool) → IsNumbered index (struct_number entries)
    → IsNumbered (if tagged then with_first tag (length entries) index else index) (struct_number (entries ++ incomplete tag tagged ∷ []))
struct_entry_numbered index entries tag true is = numbered_more tag_test index entries (incomplete tag true) is tag (λ other. nat_list_eq_equiv.symm tag other)
struct_entry_numbered index entries tag false is = numbered_same tag_test index entries (incomplete tag false) is (λ other. refl)

pub structs_pushed : (structs all : List Structure) (s : Structure) → all ≡ structs ++ s ∷ [] → map struct_entry_view all ≡ map struct_entry_view structs ++ struct_entry_view s ∷ []
structs_pushed structs all s is = ap (map struct_entry_view) is ∙ map-append struct_entry_view structs (s ∷ [])

pub struct_numbered : (index new : List (Named ℕ)) (structs all : List Structure) (s : Structure) (tag : List ℕ) (tagged : Bool) (number : ℕ)
    → IsNumbered index (struct_number (map struct_entry_view structs)) → number ≡ length structs → new ≡ (if tagged then with_first tag number index else index)
    → all ≡ structs ++ s ∷ [] → struct_entry_view s ≡ incomplete tag tagged
    → IsNumbered new (struct_number (map struct_entry_view all))
struct_numbered index new structs all s tag tagged number is count made pushed entry =
    let long : number ≡ length (map struct_entry_view structs) = count ∙ sym (length-map structs struct_entry_view) in
    subst (λ (entries : List StructEntry). IsNumbered new (struct_number entries)) (sym (structs_pushed structs all s pushed ∙ ap (λ (e : StructEntry). map struct_entry_view structs ++ e ∷ []) entry))
    (subst (λ (i : List (Named ℕ)). IsNumbered i (struct_number (map struct_entry_view structs ++ incomplete tag tagged ∷ []))) (sym (made ∙ ap (λ (n : ℕ). if tagged then with_first tag n index else index) long))
    (struct_entry_numbered index (map struct_entry_view structs) tag tagged is))

-- ---- functions

abbrev one_if : Bool → ℕ
one_if b = cond b 1 0

abbrev name_test : List ℕ → FunctionEntry → Bool
name_test name entry = bytes_eq entry.name name

pub functions_pushed : (entries all : List Entry) (e : Entry) → all ≡ entries ++ e ∷ [] → map function_entry_view all ≡ map function_entry_view entries ++ function_entry_view e ∷ []
functions_pushed entries all e is = ap (map function_entry_view) is ∙ map-append function_entry_view entries (e ∷ [])

pub function_numbered : (index new : List (Named ℕ)) (entries all : List Entry) (e : Entry) (name : List ℕ) (number : ℕ)
    → IsNumbered index (function_number (map function_entry_view entries)) → number ≡ length entries → new ≡ with_first name number index
    → all ≡ entries ++ e ∷ [] → function_entry_view e ≡ undeclared name
    → IsNumbered new (function_number (map function_entry_view all))
function_numbered index new entries all e name number is count made pushed entry =
    let long : number ≡ length (map function_entry_view entries) = count ∙ sym (length-map entries function_entry_view) in
    subst (λ (es : List FunctionEntry). IsNumbered new (function_number es)) (sym (functions_pushed entries all e pushed ∙ ap (λ (x : FunctionEntry). map function_entry_view entries ++ x ∷ []) entry))
    (subst (λ (i : List (Named ℕ)). IsNumbered i (function_number (map function_entry_view entries ++ undeclared name ∷ []))) (sym (made ∙ ap (λ (n : ℕ). with_first name n index) long))
    (numbered_more name_test index (map function_entry_view entries) (undeclared name) is name (λ other. nat_list_eq_equiv.symm name other)))

pub still_declared : (count : ℕ) (entries all : List Entry) (e : Entry) → count ≡ functions_declared (map function_entry_view entries)
    → all ≡ entries ++ e ∷ [] → is_some e.interface ≡ false
    → count ≡ functions_declared (map function_entry_view all)
still_declared count entries all e is pushed none =
    let one : functions_declared (map function_entry_view entries ++ function_entry_view e ∷ []) ≡ functions_declared (map function_entry_view entries) + one_if (is_some (function_entry_view e).interface) =
    sum_by_push (λ (x : FunctionEntry). cond (is_some x.interface) 1 0) (map function_entry_view entries) (function_entry_view e) in
    let no_more : one_if (is_some (function_entry_view e).interface) ≡ 0 = none_more e.interface none in
    let whole : functions_declared (map function_entry_view all) ≡ functions_declared (map function_entry_view entries ++ function_entry_view e ∷ []) = ap functions_declared (functions_pushed entries all e pushed) in
    omega (arith, is, one, no_more, whole)
  where
    none_more : (o : Option Interface) → is_some o ≡ false → one_if (is_some (option_map interface_view o)) ≡ 0
    none_more None e = refl
    none_more (Some x) e = absurd (let no : ⊥ = grind (arith, e) in no)
