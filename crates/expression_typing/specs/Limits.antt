-- How large a file may be.
use Rattle.std.specs.Prelude.{ℕ}

-- the cells of one type, which is also the greatest length of an array
abbrev pub most_cells_of_a_type : ℕ
most_cells_of_a_type = 4096

-- the cells of all locals and parameters of one function together
abbrev pub most_cells_of_locals : ℕ
most_cells_of_locals = 4096

-- functions, by their names
abbrev pub most_functions : ℕ
most_functions = 1000

-- objects, and the cells of all of them together
abbrev pub most_objects : ℕ
most_objects = 1000

abbrev pub most_cells_of_objects : ℕ
most_cells_of_objects = 65536
