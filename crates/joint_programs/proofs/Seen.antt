-- Lists that are made one after another, as they are seen.
use Rattle.std.proofs.lemmas.List.{map-append}
use Rattle.std.proofs.Common.{◌≡◌, ℕ, zero, suc, ◌+◌, ◌-◌, ◌<◌, List, [], ◌∷◌, ◌++◌, map, Option, Some, append_assoc, sym, ap, ap₂, ◌∙◌, arith}
use Rattle.rvt_num.specs.declared.values.Value.{Value}
use Rattle.joint_programs.specs.Objects.{repeated_cells}
use Rattle.joint_programs.specs.Pairings.{number_in_new, old_structs_from, unless_equal, new_structs_from}

-- one more is made, and what is left gives the others
pub one_seen : {X Y Z : Type 0} (seen : X → Z) (to : List Y → List Z) (made after : List X) (left rest : List Y) (y : Y) (x : X) (all : List Z) →
    left ≡ y ∷ rest → after ≡ made ++ x ∷ [] → to (y ∷ rest) ≡ seen x ∷ to rest → map seen made ++ to left ≡ all → map seen after ++ to rest ≡ all
one_seen {Y = Y} seen to made after left rest y x all is pushed next held =
    ap (λ xs. map seen xs ++ to rest) pushed
    ∙ ap (λ zs. zs ++ to rest) (map-append seen made (x ∷ []))
    ∙ append_assoc (map seen made) (seen x ∷ []) (to rest)
    ∙ ap (λ zs. map seen made ++ zs) (sym next)
    ∙ ap (λ (ys : List Y). map seen made ++ to ys) (sym is)
    ∙ held

-- cells so many times
pub repeated_step : (made cells : List Value) (left : ℕ) → 0 < left → (made ++ cells) ++ repeated_cells (left - 1) cells ≡ made ++ repeated_cells left cells
repeated_step made cells zero some = absurd (let no : ⊥ = omega (arith, some) in no)
repeated_step made cells (suc n) some = let e : suc n - 1 ≡ n = omega arith in ap (λ (m : ℕ). (made ++ cells) ++ repeated_cells m cells) e ∙ append_assoc made cells (repeated_cells n cells)

-- structs that are paired
pub old_step : (count : ℕ) (pairs after left rest : List (Option ℕ)) (p : Option ℕ) (number next other : ℕ) → left ≡ p ∷ rest → next ≡ 1 + number → other ≡ number_in_new count number p → after ≡ pairs ++ Some other ∷ [] →
    after ++ old_structs_from count next rest ≡ pairs ++ old_structs_from count number left
old_step count pairs after left rest p number next other is one of pushed =
    let more : next ≡ number + 1 = omega (arith, one) in
    ap₂ (λ (a : List (Option ℕ)) (n : ℕ). a ++ old_structs_from count n rest) pushed more
    ∙ append_assoc pairs (Some other ∷ []) (old_structs_from count (number + 1) rest)
    ∙ ap (λ (n : ℕ). pairs ++ Some n ∷ old_structs_from count (number + 1) rest) of
    ∙ ap (λ (l : List (Option ℕ)). pairs ++ old_structs_from count number l) (sym is)

pub new_step : (pairs after left rest : List (Option ℕ)) (p : Option ℕ) (number next : ℕ) (entry : Option ℕ) → left ≡ p ∷ rest → next ≡ 1 + number → entry ≡ unless_equal number p → after ≡ pairs ++ entry ∷ [] →
    after ++ new_structs_from next rest ≡ pairs ++ new_structs_from number left
new_step pairs after left rest p number next entry is one of pushed =
    let more : next ≡ number + 1 = omega (arith, one) in
    ap₂ (λ (a : List (Option ℕ)) (n : ℕ). a ++ new_structs_from n rest) pushed more
    ∙ append_assoc pairs (entry ∷ []) (new_structs_from (number + 1) rest)
    ∙ ap (λ (e : Option ℕ). pairs ++ e ∷ new_structs_from (number + 1) rest) of
    ∙ ap (λ (l : List (Option ℕ)). pairs ++ new_structs_from number l) (sym is)
