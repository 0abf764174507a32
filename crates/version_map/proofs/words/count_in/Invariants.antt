use Rattle.std.proofs.Common.{◌≡◌, ◌≤◌, length}
use Rattle.version_map.specs.Words.{count_from}
use Rattle.version_map.proofs.words.count_in.Given as goal

abbrev pub invariant-digits : goal.invariant-digits
invariant-digits l = (count_from l.value l.rest ≡ count_from 0 l.text) × (l.value ≤ 40969)

abbrev pub decreases-digits : goal.decreases-digits
decreases-digits l = length l.rest
