-- Lists that are seen with the last element first.
use Rattle.std.proofs.Common.{◌≡◌, ℕ, ◌+◌, List, [], ◌∷◌, ◌++◌, length, reverse, Option, Some, None, MatchOption, refl, sym, ap, ◌∙◌, arith}
use Rattle.std.proofs.lemmas.List.{reverse-append}
use Rattle.std.specs.Option.{option_to_list}
use Rattle.rvt_num.specs.declared.values.Value.{Value}
use Rattle.c_meaning.specs.Stores.{Location}
use Rattle.c_tasks.specs.Operands.{Operands}

abbrev pub with_list : List Value → Operands → Operands
with_list vs on = record { values = vs; places = on.places; manner = on.manner; zeros = on.zeros }

abbrev pub with_place_list : List Location → Operands → Operands
with_place_list ps on = record { values = on.values; places = ps; manner = on.manner; zeros = on.zeros }

pub pushed : {A : Type 0} (items : List A) (a : A) (more : List A) → more ≡ items ++ a ∷ [] → reverse more ≡ a ∷ reverse items
pushed items a more e = ap reverse e ∙ reverse-append items (a ∷ [])

pub popped_some : {A : Type 0} (items fewer : List A) (r : Option A) (a : A) → items ≡ fewer ++ option_to_list r → r ≡ Some a → reverse items ≡ a ∷ reverse fewer
popped_some items fewer r a e is = pushed fewer a items (e ∙ ap (λ o. fewer ++ option_to_list o) is)

empty_of : {A : Type 0} (items : List A) → length items ≡ 0 → items ≡ []
empty_of [] e = refl
empty_of (a ∷ items) e = absurd (let no : ⊥ = omega (arith, e) in no)

empty_front : {A : Type 0} (fewer : List A) → fewer ++ [] ≡ [] → fewer ≡ []
empty_front [] e = refl
empty_front (a ∷ fewer) e = cc

pub popped_none : {A : Type 0} (n m : ℕ) (items fewer : List A) (r : Option A) → n ≡ length items → MatchOption r ((n ≡ 0) × (m ≡ 0)) (λ _. m + 1 ≡ n) → items ≡ fewer ++ option_to_list r → r ≡ None → (items ≡ []) × (fewer ≡ [])
popped_none n m items fewer None len h e is =
    let none : length items ≡ 0 = omega (arith, len, h.0) in
    let empty = empty_of items none in
    (empty, empty_front fewer (sym e ∙ empty))
popped_none n m items fewer (Some a) len h e is = cc
