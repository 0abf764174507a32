-- Objects of the table, one after another, and their cells.
use Rattle.std.proofs.lemmas.List.{map-append}
use Rattle.std.proofs.Common.{◌≡◌, ℕ, ◌+◌, ◌<◌, List, [], ◌∷◌, ◌++◌, map, length, refl, sym, ap, ◌∙◌, arith}
use Rattle.rvt_tree.specs.declared.programs.Object.{Object}
use Rattle.joint_programs.specs.Parts.{ObjectParts, object_parts}
use Rattle.joint_programs.specs.Faults.{limit, cells_of}

pub cells_of_both : (a b : List ObjectParts) → cells_of (a ++ b) ≡ cells_of a + cells_of b
cells_of_both [] b = omega arith
cells_of_both (x ∷ a) b =
    let rest : cells_of (a ++ b) ≡ cells_of a + cells_of b = cells_of_both a b in
    let all : length x.initial + cells_of (a ++ b) ≡ length x.initial + cells_of a + cells_of b = omega (arith, rest) in
    all

pub cells_made : (made after : List Object) (object : Object) (room less : ℕ) → after ≡ made ++ object ∷ [] → cells_of (map object_parts made) + room ≡ limit → room ≡ less + length object.initial →
    cells_of (map object_parts after) + less ≡ limit
cells_made made after object room less pushed held one =
    let all : cells_of (map object_parts after) ≡ cells_of (map object_parts made) + cells_of (object_parts object ∷ []) =
    ap (λ (os : List Object). cells_of (map object_parts os)) pushed ∙ ap cells_of (map-append object_parts made (object ∷ [])) ∙ cells_of_both (map object_parts made) (object_parts object ∷ []) in
    let last : cells_of (object_parts object ∷ []) ≡ length object.initial + 0 = refl in
    let whole : cells_of (map object_parts after) + less ≡ cells_of (map object_parts made) + room = omega (arith, all, last, one) in
    whole ∙ held

-- there is no room for the next object
pub too_many : {X : Type 0} (to : X → ObjectParts) (made : List Object) (left rest : List X) (x : X) (object : Object) (room : ℕ) (all : List ObjectParts) →
    left ≡ x ∷ rest → object_parts object ≡ to x → map object_parts made ++ map to left ≡ all → cells_of (map object_parts made) + room ≡ limit → room < length object.initial → limit < cells_of all
too_many to made left rest x object room all is what held full more =
    let parts : cells_of (map object_parts made ++ map to left) ≡ cells_of (map object_parts made) + cells_of (map to left) = cells_of_both (map object_parts made) (map to left) in
    let first : cells_of (map to left) ≡ length object.initial + cells_of (map to rest) =
    ap (λ l. cells_of (map to l)) is ∙ ap (λ (o : ObjectParts). length o.initial + cells_of (map to rest)) (sym what) in
    let sum : cells_of all ≡ cells_of (map object_parts made) + (length object.initial + cells_of (map to rest)) = sym (ap cells_of held) ∙ parts ∙ ap (λ n. cells_of (map object_parts made) + n) first in
    let over : limit < cells_of all = omega (arith, sum, full, more) in
    over
