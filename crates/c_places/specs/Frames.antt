-- The locals of each function at its entry, without the parameters.
use Rattle.std.specs.Prelude.{ℕ, List, [], map, get_or}
use Rattle.rvt_num.specs.declared.values.Value.{Value}
use Rattle.rvt_tree.specs.declared.programs.Program.{Program}
use Rattle.rvt_tree.specs.declared.programs.Function.{Function}
use Rattle.rvt_tree.specs.declared.programs.Structs.{Structs}
use Rattle.c_meaning.specs.Runs.{first_cells}

abbrev pub frame_of : Structs → Function → List (List Value)
frame_of structs function = map (first_cells structs) function.locals

abbrev pub frame_in : Program → ℕ → List (List Value)
frame_in program number = get_or (map (frame_of program.structs) program.functions) number []
