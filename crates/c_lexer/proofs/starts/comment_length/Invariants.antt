use Rattle.std.proofs.Common.{◌≡◌, ◌+◌, ◌≤◌, length, drop}
use Rattle.c_lexer.specs.Starts.{closing, comment_length}
use Rattle.c_lexer.proofs.starts.comment_length.Given as goal

abbrev pub invariant-bytes : goal.invariant-bytes
invariant-bytes l = (closing l.length l.rest ≡ comment_length l.text) × (l.length + length l.rest ≡ length l.text)

abbrev pub decreases-bytes : goal.decreases-bytes
decreases-bytes l = length l.rest
