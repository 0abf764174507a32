-- A rule that has several steps, where the first is known.
use Rattle.std.proofs.Common.{◌≡◌, ap}
use Rattle.rvt_tree.specs.declared.places.Place.{Place}
use Rattle.expression_typing.specs.Outcomes.{Cause, Checking, give, broken, and_then}

pub and_then_gives : {A B : Type 0} (first : Checking A) (next : A → Checking B) (a : A) → first ≡ give a → and_then first next ≡ next a
and_then_gives first next a is = ap (λ f. and_then f next) is

pub and_then_breaks : {A B : Type 0} (first : Checking A) (next : A → Checking B) (cause : Cause) (at : Place) → first ≡ broken cause at → and_then first next ≡ broken cause at
and_then_breaks first next cause at is = ap (λ f. and_then f next) is
