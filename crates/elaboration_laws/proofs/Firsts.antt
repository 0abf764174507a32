-- The first of some phrases that breaks a rule.
use Rattle.std.proofs.Common.{◌≡◌, refl, sym, ap}
use Rattle.rvt_tree.specs.declared.places.Place.{Place}
use Rattle.expression_typing.specs.Progress.{Notes}
use Rattle.expression_typing.specs.Outcomes.{Cause, Outcome, Made, Broken, Checking, go_on, give}

pub made_not_broken : {A : Type 0} {a : A} {notes : Notes} {cause : Cause} {at : Place} → Made a notes ≡ Broken cause at → ⊥
made_not_broken {a = a} {notes = notes} {cause = cause} {at = at} e = absurd (let q : Made a notes ≡ Broken cause at = e in cc)

-- what only turns what was made breaks no rule
abbrev broken_alike : {A B : Type 0} (cause : Cause) (at : Place) (o : Outcome A) → Outcome B
broken_alike cause at (Made a notes) = Broken cause at
broken_alike cause at (Broken other place) = Broken other place

pub turned_broken : {A B : Type 0} (turn : A → B) (o : Outcome A) {cause : Cause} {at : Place} → go_on (λ a. give (turn a)) o ≡ Broken cause at → o ≡ Broken cause at
turned_broken turn (Made a notes) e = absurd (made_not_broken e)
turned_broken turn (Broken other place) {cause} {at} e = ap (broken_alike cause at) e

-- what was turned, before
abbrev note_or : {B : Type 0} → Notes → Outcome B → Notes
note_or other (Made b notes) = notes
note_or other (Broken cause at) = other

abbrev made_or : {B : Type 0} → B → Outcome B → B
made_or other (Made b notes) = b
made_or other (Broken cause at) = other

pub turned_made : {A B : Type 0} (turn : A → B) (o : Outcome A) {b : B} {notes : Notes} → go_on (λ a. give (turn a)) o ≡ Made b notes
    → (a : A) × (o ≡ Made a notes) × (turn a ≡ b)
turned_made turn (Made a noted) e = (a, ap (λ n. Made a n) (ap (note_or noted) e), ap (made_or (turn a)) e)
turned_made turn (Broken cause at) e = absurd (made_not_broken (sym e))

-- of two steps the first breaks a rule, or the second, where the first made this
pub data Steps {A B : Type 0} (first : Outcome A) (next : A → Checking B) (cause : Cause) (at : Place) : Type 0 where
  in_first : first ≡ Broken cause at → Steps first next cause at
  in_second : {a : A} {notes : Notes} → first ≡ Made a notes → next a notes ≡ Broken cause at → Steps first next cause at

pub steps : {A B : Type 0} (first : Outcome A) (next : A → Checking B) {cause : Cause} {at : Place} → go_on next first ≡ Broken cause at → Steps first next cause at
steps (Made a notes) next e = in_second refl e
steps (Broken other place) next {cause} {at} e = in_first (ap (broken_alike cause at) e)
