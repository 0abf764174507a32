use Rattle.std.proofs.Common.{◌≡◌, length, map}
use Rattle.c_tokens.specs.Tables.{written_so}
use Rattle.c_tokens.proofs.tables.written_so.Given as goal

abbrev pub invariant-loop-table : goal.invariant-loop-table
invariant-loop-table g l =
    written_so (map (λ entry. (entry.0.now, entry.1)) l.table) l.text ≡ written_so (map (λ entry. (entry.0.now, entry.1)) l.initial.table) l.text

abbrev pub decreases-loop-table : goal.decreases-loop-table
decreases-loop-table g l = length l.table
