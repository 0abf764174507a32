-- What may stand as a word of the command line, or as the value of an option.
use Rattle.std.specs.Prelude.{ℕ, ◌==◌, nat_le, Bool, ◌&&◌, not, List, length, codes, bytes_eq}
use Rattle.std.specs.List.{list_all}

-- a byte that isn't below 0x20 and isn't 0x7f
abbrev pub is_printing : ℕ → Bool
is_printing byte = nat_le 32 byte && not (byte == 127)

-- not empty, not `-` alone, and without control bytes
abbrev pub is_text : List ℕ → Bool
is_text text = not (length text == 0) && not (bytes_eq text (codes "-")) && list_all is_printing text
