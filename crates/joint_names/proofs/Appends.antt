-- Texts that are put behind one another.
use Rattle.std.proofs.Common.{◌≡◌, ℕ, List, ◌++◌, append_assoc, ap, ◌∙◌}

-- two parts behind a text
pub two : (before a b : List ℕ) {middle after : List ℕ} → middle ≡ before ++ a → after ≡ middle ++ b → after ≡ before ++ (a ++ b)
two before a b first second = second ∙ ap (λ (text : List ℕ). text ++ b) first ∙ append_assoc before a b
