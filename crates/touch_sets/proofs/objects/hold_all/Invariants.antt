use Rattle.std.proofs.Common.{◌≡◌, ◌↔◌, ◌⊎◌, ℕ, true, false, take}
use Rattle.std.specs.Prelude.{slice_index_or}
use Rattle.core_ir.specs.Calls.{Among}
use Rattle.touch_sets.proofs.objects.hold_all.Given as goal

abbrev pub invariant-starts : goal.invariant-starts
invariant-starts l = (type : ℕ) → (slice_index_or l.held.items type false ≡ true) ↔ ((slice_index_or l.initial.held.items type false ≡ true) ⊎ ((cell : ℕ) × Among (type, cell) (take l.start-index l.starts)))
