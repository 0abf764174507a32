use Rattle.std.proofs.Common.{◌≡◌, length, map}
use Rattle.c_tokens.specs.Tables.{written_so}
use Rattle.version_map.proofs.words.kind_in.Given as goal

abbrev pub invariant-loop-table : goal.invariant-loop-table
invariant-loop-table l = written_so (map (λ entry. (entry.0.now, entry.1)) l.table) l.text ≡ written_so (map (λ entry. (entry.0.now, entry.1)) l.initial.table) l.text

abbrev pub decreases-loop-table : goal.decreases-loop-table
decreases-loop-table l = length l.table
