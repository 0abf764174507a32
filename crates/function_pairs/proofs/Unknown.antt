-- The first line that names a function that isn't there, by tables and by the files.
use Rattle.std.proofs.Common.{◌≡◌, ℕ, ◌&&◌, Bool, not, cond, List, [], ◌∷◌, Option, Some, option_map, ap, ap₂, refl}
use Rattle.std.specs.Borrow.{Bor}
use Rattle.std.specs.List.{find}
use Rattle.std.specs.Option.{is_some}
use Rattle.indexmap.specs.IndexMap.{IndexMap}
use Rattle.rvt_tree.specs.declared.programs.Function.{Function}
use Rattle.version_map.specs.declared.map.Listed.{Listed}
use Rattle.function_pairs.specs.Defined.{AreNumbers}
use Rattle.function_pairs.specs.Refusals.{is_known, first_unknown, known_by}

same_found : {X : Type 0} (p q : X → Bool) → ((x : X) → p x ≡ q x) → (xs : List X) → find p xs ≡ find q xs
same_found p q same [] = refl
same_found p q same (x ∷ xs) = ap₂ (λ (b : Bool) rest. cond b (Some x) rest) (same x) (same_found p q same xs)

pub unknown_same : (old new : List Function) {S T : Type 0} (old_table : IndexMap (Bor (List ℕ)) ℕ S) (new_table : IndexMap (Bor (List ℕ)) ℕ T) →
    AreNumbers old_table old → AreNumbers new_table new → (lines : List Listed) →
    option_map (λ (line : Listed). line.line) (find (λ line. not (known_by old_table new_table line)) lines) ≡ first_unknown lines old new
unknown_same old new old_table new_table olds news lines =
    ap (option_map (λ (line : Listed). line.line))
    (same_found (λ line. not (known_by old_table new_table line)) (λ line. not (is_known old new line))
    (λ (line : Listed). ap₂ (λ (a b : Option ℕ). not (is_some a && is_some b)) (olds line.old) (news line.new)) lines)
