use Rattle.std.proofs.Common.{◌≡◌, drop}
use Rattle.std.specs.Prelude.{map}
use Rattle.std.specs.String.{string_bytes}
use Rattle.command_words.specs.declared.lines.State.TheVariants.{Open}
use Rattle.command_words.specs.Scan.{scan, joined_to}
use Rattle.command_words.proofs.lines.read_line.Given as goal

abbrev pub invariant-loop-word : goal.invariant-loop-word
invariant-loop-word l = scan l.verb Open (map string_bytes l.words) ≡ joined_to l.line (scan l.verb l.state (map string_bytes (drop l.word-index l.words)))
