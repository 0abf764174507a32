-- The numbers of the command line.
use Rattle.std.specs.Prelude.{◌≡◌, ℕ, ◌≤◌, List, length, Option, Some, None}
use Rattle.std.specs.Str.Parse.{IsNumeral, digits_value}

-- the text is a number: one to twenty decimal digits
pub record IsNumber (text : List ℕ) (n : ℕ) : Type 0 where
  pub digits : IsNumeral 10 text
  pub short : length text ≤ 20
  pub value : digits_value 10 text ≡ n

-- the number of steps, where `--steps` has this value, or where it doesn't stand
abbrev pub AreSteps : Option (List ℕ) → ℕ → Type 0
AreSteps None n = n ≡ 100000
AreSteps (Some text) n = IsNumber text n × (1 ≤ n) × (n ≤ 10000000)
