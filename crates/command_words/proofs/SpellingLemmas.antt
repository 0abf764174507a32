-- Texts cut at a `=`.
use Rattle.std.proofs.Common.{◌≡◌, ◌≢◌, ℕ, suc, ◌<◌, Bool, true, false, List, [], ◌∷◌, ◌++◌, length, get_or, Option, Some, None, refl, ◌∙◌, ap, arith}
use Rattle.std.specs.Prelude.{◌==◌, if◌then◌else◌}
use Rattle.std.proofs.lemmas.Bool.{eqb-true}
use Rattle.command_words.specs.Spellings.{cut}

abbrev pub Cut : Type 0
Cut = List ℕ × Option (List ℕ)

other : (b : ℕ) → b ≢ 61 → (b == 61) ≡ false
other b apart = cases (b == 61) refl
  where
    cases : (c : Bool) → (b == 61) ≡ c → c ≡ false
    cases true is = absurd (apart (eqb-true b 61 is))
    cases false is = refl

-- a byte that is no `=` goes to the front
one_more : (b : ℕ) (text : List ℕ) → b ≢ 61 → cut (b ∷ text) ≡ (b ∷ (cut text).0, (cut text).1)
one_more b text apart = ap (λ (c : Bool). let r : Cut = if c then ([], Some text) else (b ∷ (cut text).0, (cut text).1) in r) (other b apart)

pub cut_none : (text : List ℕ) → ((i : ℕ) → i < length text → get_or text i 0 ≢ 61) → ◌≡◌ {A = Cut} (cut text) (text, None)
cut_none [] apart = refl
cut_none (b ∷ text) apart =
    one_more b text (apart 0 (omega arith)) ∙ ap (λ (r : Cut). let s : Cut = (b ∷ r.0, r.1) in s) (cut_none text (λ i low. apart (suc i) (omega (arith, low))))

pub cut_some : (name value : List ℕ) → ((i : ℕ) → i < length name → get_or name i 0 ≢ 61) → ◌≡◌ {A = Cut} (cut (name ++ 61 ∷ value)) (name, Some value)
cut_some [] value apart = refl
cut_some (b ∷ name) value apart =
    one_more b (name ++ 61 ∷ value) (apart 0 (omega arith)) ∙ ap (λ (r : Cut). let s : Cut = (b ∷ r.0, r.1) in s) (cut_some name value (λ i low. apart (suc i) (omega (arith, low))))
