-- Places in a file.
use Rattle.std.specs.Prelude.{ℕ, ◌+◌, Bool, true, not, ◌&&◌, ◌||◌, if◌then◌else◌, List, count_by, fold, reverse}
use Rattle.std.specs.List.{prefix_len}
use Rattle.c_tokens.specs.Bytes.{is_line_end, is_space}
use Rattle.c_lexer.specs.declared.spots.Spot.{Spot}
use Rattle.c_lexer.specs.declared.tokens.Place.{Place}

-- The place after these bytes: one plus the line ends among them, and one plus the bytes after the last line end.
abbrev pub place_after : List ℕ → Place
place_after seen = record {
  line = count_by is_line_end seen + 1;
  column = prefix_len (λ byte. not (is_line_end byte)) (reverse seen) + 1;
}

-- whether only white space stands after the last line end of these bytes
abbrev pub ends_blank : List ℕ → Bool
ends_blank = fold (λ blank byte. is_line_end byte || (blank && is_space byte)) true

-- the place one byte further on
abbrev pub next_place : Place → ℕ → Place
next_place place byte =
    if is_line_end byte then record { line = place.line + 1; column = 1 } else record { line = place.line; column = place.column + 1 }

-- the spot one byte further on
abbrev pub after_byte : Spot → ℕ → Spot
after_byte spot byte = record { place = next_place spot.place byte; blank = is_line_end byte || (spot.blank && is_space byte) }

-- the spot after these bytes
abbrev pub spot_after : List ℕ → Spot
spot_after seen = record { place = place_after seen; blank = ends_blank seen }
