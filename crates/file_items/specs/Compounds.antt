-- The body of a function as a block.
use Rattle.std.specs.Prelude.{Option, Some, None}
use Rattle.c_syntax.specs.Syntax as s

-- the parts of a block; none of another statement
abbrev pub parts_of : s.Statement → Option s.BlockItems
parts_of (s.compound at items) = Some items
parts_of _ = None
