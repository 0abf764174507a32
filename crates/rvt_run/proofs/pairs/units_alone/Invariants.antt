use Rattle.std.proofs.Common.{◌≡◌, ◌++◌, drop, Some, ℕ}
use Rattle.std.specs.Prelude.{map}
use Rattle.rvt_run.proofs.pairs.units_alone.Given as goal

-- the units so far, and those that are left
abbrev pub invariant-loops : goal.invariant-loops
invariant-loops l = l.units.items ++ map (λ (number : ℕ). Some number) (drop l.number-index l.number-items) ≡ l.initial.units.items ++ map (λ (number : ℕ). Some number) l.number-items
