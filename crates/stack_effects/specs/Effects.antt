-- How many values the actions of a grammar take from each stack and leave on it.
use Rattle.std.specs.Prelude.{◌≡◌, ℕ, zero, suc, Bool, true, false, List, [], ◌∷◌, Option, Some, None}
use Rattle.std.specs.Option.{option_and_then}
use Rattle.c_parser.specs.declared.symbol.Symbol.TheVariants as symbol
use Rattle.c_parser.specs.declared.symbol.Step.{Step}
use Rattle.c_parser.specs.declared.symbol.Step.TheVariants as step
use Rattle.c_parser.specs.Rules.{Row, Rules}
use Rattle.c_parser.specs.LookAhead.{Table, every}

-- without so many, if there are as many
abbrev pub less : ℕ → ℕ → Option ℕ
less zero n = Some n
less (suc k) zero = None
less (suc k) (suc n) = less k n

-- with so many more
abbrev pub more : ℕ → ℕ → ℕ
more zero n = n
more (suc k) n = suc (more k n)

abbrev pub same_number : ℕ → ℕ → Bool
same_number zero zero = true
same_number zero (suc m) = false
same_number (suc n) zero = false
same_number (suc n) (suc m) = same_number n m

abbrev pub is_number : ℕ → Option ℕ → Bool
is_number n None = false
is_number n (Some m) = same_number n m

-- How many values each action takes and gives, and how many a line needs and leaves, by stack.
pub record Effects (L A S : Type 0) : Type 0 where
  pub takes : A → S → ℕ
  pub gives : A → S → ℕ
  pub needs : L → S → ℕ
  pub leaves : L → S → ℕ

module _ {C L A S : Type 0} (effects : Effects L A S) where
  -- how many values stand on a stack after a row, if none is wanting
  abbrev pub after_row : S → Row C L A → ℕ → Option ℕ
  after_row i [] n = Some n
  after_row i (symbol.Token c e ∷ row) n = after_row i row n
  after_row i (symbol.Turn x ∷ row) n = after_row i row n
  after_row i (symbol.NotNext c ∷ row) n = after_row i row n
  after_row i (symbol.Make a ∷ row) n = option_and_then (λ m. after_row i row (more (effects.gives a i) m)) (less (effects.takes a i) n)
  after_row i (symbol.Line l ∷ row) n = option_and_then (λ m. after_row i row (more (effects.leaves l i) m)) (less (effects.needs l i) n)

  -- each alternative of a line leaves what the line leaves
  abbrev pub row_balances : L → Row C L A → S → Bool
  row_balances l row i = is_number (effects.leaves l i) (after_row i row (effects.needs l i))

  abbrev pub line_balances : Rules C L A → List S → L → Bool
  line_balances rules stacks l = every (λ row. every (row_balances l row) stacks) (rules.lines l)

  -- The same for all lines and all stacks, by a test that computes.
  abbrev pub balances : Rules C L A → Table C L → List S → Bool
  balances rules table stacks = every (line_balances rules stacks) table.lines

-- What the steps of a file make of a state, where each token changes what an action sees of it.
module _ {A X T R : Type 0} (seen : T → X) (make : A → X → R → Option R) where
  abbrev pub after_steps : List T → X → List (Step A) → R → Option R
  after_steps tokens x [] r = Some r
  after_steps [] x (step.Token ∷ steps) r = None
  after_steps (t ∷ tokens) x (step.Token ∷ steps) r = after_steps tokens (seen t) steps r
  after_steps tokens x (step.Make a ∷ steps) r = option_and_then (after_steps tokens x steps) (make a x r)

-- Where no stack lacks what an action takes, the action is made, and the stacks then hold what it gives.
abbrev pub Acts : {L A S X R : Type 0} → Effects L A S → (make : A → X → R → Option R) → (size : R → S → ℕ) → Type 0
Acts {S = S} {R = R} effects make size =
    (a : _) (x : _) (r : R) (left : S → ℕ) → ((i : S) → less (effects.takes a i) (size r i) ≡ Some (left i))
    → (made : R) × (make a x r ≡ Some made) × ((i : S) → size made i ≡ more (effects.gives a i) (left i))
