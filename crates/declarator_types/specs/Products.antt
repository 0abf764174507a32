-- How many elements of elements an array of arrays has.
use Rattle.std.specs.Prelude.{ℕ, ◌*◌, [], ◌∷◌}
use Rattle.expression_typing.specs.TypeNames.{Lengths}
use Rattle.file_typing.specs.DeclaratorTypes.{count_of}

abbrev pub product : Lengths → ℕ
product [] = 1
product (length ∷ others) = count_of length * product others
