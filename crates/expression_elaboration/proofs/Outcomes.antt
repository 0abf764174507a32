-- What follows what, as outcomes.
use Rattle.std.proofs.Common.{◌≡◌, refl}
use Rattle.expression_typing.specs.Outcomes.{Outcome, Made, Broken, Checking, go_on, give}

pub on_given : {A : Type 0} (o : Outcome A) → go_on (give {A = A}) o ≡ o
on_given (Made a notes) = refl
on_given (Broken cause at) = refl

pub in_two_steps : {A B C : Type 0} (f : A → Checking B) (g : B → Checking C) (o : Outcome A)
    → go_on g (go_on f o) ≡ go_on (λ a notes. go_on g (f a notes)) o
in_two_steps f g (Made a notes) = refl
in_two_steps f g (Broken cause at) = refl
