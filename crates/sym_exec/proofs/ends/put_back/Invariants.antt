use Rattle.std.proofs.Common.{◌≡◌, length, take}
use Rattle.core_ir.specs.Cells.{blend}
use Rattle.sym_exec.proofs.ends.put_back.Given as goal

abbrev pub invariant-loop-at : goal.invariant-loop-at
invariant-loop-at l = (l.cells.items ≡ blend (take l.at l.owned) l.before l.initial.cells.items) × (length l.cells.items ≡ length l.initial.cells.items)
