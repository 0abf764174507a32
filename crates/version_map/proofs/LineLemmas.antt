-- Lines of too many words.
use Rattle.std.proofs.Common.{◌≡◌, ℕ, Bool, true, false, List, [], ◌∷◌, ◌++◌, None, refl}
use Rattle.std.specs.Prelude.{◌==◌, if◌then◌else◌}
use Rattle.version_map.specs.Texts.{parts_from, parts}
use Rattle.version_map.specs.Lines.{two_names, object_of}

-- a text has a first part
first_part : (P : List (List ℕ) → Type 0) → ((first : List ℕ) (rest : List (List ℕ)) → P (first ∷ rest)) → (mark : ℕ) (part text : List ℕ) → P (parts_from mark part text)
first_part P holds mark part [] = holds part []
first_part P holds mark part (byte ∷ bytes) = cases (byte == mark) (first_part P holds mark (part ++ byte ∷ []) bytes)
  where
    cases : (b : Bool) → P (parts_from mark (part ++ byte ∷ []) bytes) → P (if b then part ∷ parts_from mark [] bytes else parts_from mark (part ++ byte ∷ []) bytes)
    cases true rest = holds part (parts_from mark [] bytes)
    cases false rest = rest

pub more_than_two : (old new text : List ℕ) → two_names (old ∷ new ∷ parts 32 text) ≡ None
more_than_two old new text = first_part (λ words. two_names (old ∷ new ∷ words) ≡ None) (λ _ _. refl) 32 [] text

pub more_than_three : (name kind count text : List ℕ) → object_of (name ∷ kind ∷ count ∷ parts 32 text) ≡ None
more_than_three name kind count text = first_part (λ words. object_of (name ∷ kind ∷ count ∷ words) ≡ None) (λ _ _. refl) 32 [] text
