-- Pairings of fewer functions, and the greatest closed set of twins.
use Rattle.std.specs.Prelude.{◌≡◌, ℕ, suc, ◌<◌, Bool, true, false, List, [], ◌∷◌, Option, Some, None}
use Rattle.rvt_tree.specs.declared.pairings.Pairing.{Pairing}
use Rattle.rvt_tree.specs.declared.programs.Program.{Program}
use Rattle.rvt_tree.specs.Same.{ArePaired}
use Rattle.c_meaning.specs.Twins.{IsClosed}

-- the first pairs only functions that the second pairs, and pairs the same objects and structs
pub record IsWithin (inner outer : Pairing) : Type 0 where
  pub functions : (f g : ℕ) → ArePaired inner.functions f g → ArePaired outer.functions f g
  pub objects : inner.objects ≡ outer.objects
  pub structs : inner.structs ≡ outer.structs

-- each closed set of twins within the pairing is within the set
abbrev pub HasEveryClosed : Program → Program → Pairing → Pairing → Type 0
HasEveryClosed old new pairing twins = (closed : Pairing) → IsWithin closed pairing → IsClosed closed old new → IsWithin closed twins

-- how many have a partner
abbrev pub partners : List (Option ℕ) → ℕ
partners [] = 0
partners (None ∷ rest) = partners rest
partners (Some g ∷ rest) = suc (partners rest)

-- pairs were taken out, none of which stands in a closed set within: some, or none where the pairing is closed
pub record Shrinks (old new : Program) (before after : Pairing) (some : Bool) : Type 0 where
  pub within : IsWithin after before
  pub every : HasEveryClosed old new before after
  pub fewer : some ≡ true → partners after.functions < partners before.functions
  pub closed : some ≡ false → IsClosed after old new
