use Rattle.std.proofs.Common.{◌≡◌, ◌≤◌, ◌+◌, fold, drop}
use Rattle.c_lexer.specs.Places.{after_byte}
use Rattle.c_lexer.proofs.spots.after.Given as goal

abbrev pub invariant-bytes : goal.invariant-bytes
invariant-bytes l =
    (fold after_byte l.spot (drop l.byte-index l.text) ≡ fold after_byte l.initial.spot l.text)
    × (l.spot.place.line ≤ l.initial.spot.place.line + l.byte-index) × (l.spot.place.column ≤ l.initial.spot.place.column + l.byte-index)
