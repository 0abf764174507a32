use Rattle.std.proofs.Common.{◌≡◌, ◌++◌, drop}
use Rattle.call_graph.specs.Graphs.{rows}
use Rattle.joint_cycles.specs.JointCalls.{new_row, rows_from}
use Rattle.joint_cycles.proofs.graphs.push_new_rows.Given as goal

-- the rows so far, and those of the functions that are left
abbrev pub invariant-loop-number : goal.invariant-loop-number
invariant-loop-number l =
    rows l.successors.items ++ rows_from (new_row l.files.pairs.now l.files.old.now l.files.new.now) l.number (drop l.number l.files.new.now)
    ≡ rows l.initial.successors.items ++ rows_from (new_row l.files.pairs.now l.files.old.now l.files.new.now) 0 l.files.new.now
