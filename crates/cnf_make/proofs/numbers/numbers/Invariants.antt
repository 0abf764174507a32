use Rattle.std.proofs.Common.{◌≤◌, length, vec_capacity}
use Rattle.cnf_make.proofs.Numbering.{IsNumberedTo}
use Rattle.cnf_make.proofs.numbers.numbers.Given as goal

abbrev pub invariant-up : goal.invariant-up
invariant-up l = record {
  room : length l.marks ≤ vec_capacity l.table;
  numbered : IsNumberedTo l.circuit l.marks l.node l.input l.gate l.table.items;
}
