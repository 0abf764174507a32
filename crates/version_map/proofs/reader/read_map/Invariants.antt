use Rattle.std.proofs.Common.{◌≡◌, ◌+◌, ◌≤◌, length}
use Rattle.version_map.specs.Texts.{parts_behind, most_parts}
use Rattle.version_map.specs.Maps.{with_lines, map_of}
use Rattle.version_map.specs.Drafts.{IsDraft, drafted}
use Rattle.version_map.proofs.reader.read_map.Given as goal

abbrev pub invariant-lines : goal.invariant-lines
invariant-lines l =
    (with_lines (drafted l.draft) l.number (parts_behind 10 l.rest) ≡ map_of l.bytes) × IsDraft l.draft × (l.number + most_parts l.rest ≤ length l.bytes + 1)

abbrev pub decreases-lines : goal.decreases-lines
decreases-lines l = most_parts l.rest
