use Rattle.std.proofs.Common.{◌≡◌, ◌++◌, drop}
use Rattle.rvt_run.specs.Report.{only_lines}
use Rattle.rvt_run.proofs.lines.add_only.Given as goal

-- the lines so far, and those of the functions that are left
abbrev pub invariant-loop-i : goal.invariant-loop-i
invariant-loop-i l = l.lines.items ++ only_lines l.word l.partners l.others l.i (drop l.i l.functions) ≡ l.fn.lines.items ++ only_lines l.word l.partners l.others 0 l.functions
