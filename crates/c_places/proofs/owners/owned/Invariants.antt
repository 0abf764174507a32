use Rattle.std.proofs.Common.{◌≡◌, ℕ, [], ◌++◌, drop, get_or}
use Rattle.c_places.specs.Extents.{owned_ranges}
use Rattle.c_places.proofs.owners.owned.Given as goal

-- the ranges so far, and those of the objects that are left
abbrev pub invariant-loop-object : goal.invariant-loop-object
invariant-loop-object l = (function : ℕ) → get_or l.rows.items function [] ++ owned_ranges function l.first (drop l.object-index l.objects) ≡ owned_ranges function 0 l.objects
