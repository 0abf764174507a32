-- The locals at the entry of a function that has a number.
use Rattle.std.proofs.Common.{◌≡◌, ℕ, zero, suc, ◌+◌, ◌<◌, List, [], ◌∷◌, ◌++◌, length, map, take, drop, get_or, slice_get, Option, Some, None, refl, ap, sym, ◌∙◌, subst, arith}
use Rattle.std.proofs.lemmas.List.{drop_more}
use Rattle.rvt_num.specs.declared.values.Value.{Value}
use Rattle.rvt_tree.specs.declared.programs.Program.{Program}
use Rattle.rvt_tree.specs.declared.programs.Function.{Function}
use Rattle.rvt_tree.specs.declared.programs.Structs.{Structs}
use Rattle.rvt_tree.specs.declared.programs.Local.{Local}
use Rattle.c_meaning.specs.Runs.{unless_object, parameter_cells, first_cells, with_argument, with_arguments}
use Rattle.c_places.specs.Frames.{frame_of, frame_in}

frames_at : (structs : Structs) (functions : List Function) (number : ℕ) (function : Function) → slice_get functions number ≡ Some function →
    get_or (map (frame_of structs) functions) number [] ≡ map (first_cells structs) function.locals
frames_at structs [] number function h = absurd (cc)
frames_at structs (f ∷ functions) zero function h = let e : f ≡ function = cc in ap (frame_of structs) e
frames_at structs (f ∷ functions) (suc number) function h = frames_at structs functions number function h

pub frame_is : (program : Program) (number : ℕ) (function : Function) → slice_get program.functions number ≡ Some function →
    frame_in program number ≡ map (first_cells program.structs) function.locals
frame_is program number function h = frames_at program.structs program.functions number function h
