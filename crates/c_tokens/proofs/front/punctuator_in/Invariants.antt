use Rattle.std.proofs.Common.{◌≡◌, length, map}
use Rattle.c_tokens.specs.Fronts.{first_front}
use Rattle.c_tokens.proofs.front.punctuator_in.Given as goal

abbrev pub invariant-loop-table : goal.invariant-loop-table
invariant-loop-table l =
    first_front (map (λ entry. (entry.0.now, entry.1)) l.table) l.text ≡ first_front (map (λ entry. (entry.0.now, entry.1)) l.initial.table) l.text

abbrev pub decreases-loop-table : goal.decreases-loop-table
decreases-loop-table l = length l.table
