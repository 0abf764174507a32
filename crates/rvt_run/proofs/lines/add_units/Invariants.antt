use Rattle.std.proofs.Common.{◌≡◌, ◌++◌, drop}
use Rattle.rvt_run.specs.Report.{unit_lines}
use Rattle.rvt_run.proofs.lines.add_units.Given as goal

-- the lines so far, and those of the units that are left
abbrev pub invariant-loop-number : goal.invariant-loop-number
invariant-loop-number l = l.lines.items ++ unit_lines l.word l.name (drop l.number-index l.units) ≡ l.fn.lines.items ++ unit_lines l.word l.name l.units
