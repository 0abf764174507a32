-- What the tables of a program say.
use Rattle.std.specs.Prelude.{◌≡◌, ℕ, List, [], get_or, map}
use Rattle.rvt_num.specs.declared.values.Value.{Value}
use Rattle.rvt_tree.specs.declared.types.Pointee.{Pointee}
use Rattle.rvt_tree.specs.declared.programs.Program.{Program}
use Rattle.c_meaning.specs.Stores.{objects_of}
use Rattle.c_places.specs.declared.extents.Extent.{Extent}
use Rattle.c_places.specs.declared.ranges.Range.{Range}
use Rattle.c_places.specs.Extents.{extents_from, owned_ranges}
use Rattle.c_places.specs.Starts.{AreAllStarts}
use Rattle.c_places.specs.Frames.{frame_of}

pub record AreTables (program : Program) (extents : List Extent) (starts : List (List (List Pointee))) (owned : List (List Range)) (frames : List (List (List Value))) : Type 0 where
  pub lie : extents ≡ extents_from 0 (objects_of program)
  pub begin : AreAllStarts program starts (objects_of program)
  pub own : (function : ℕ) → get_or owned function [] ≡ owned_ranges function 0 (objects_of program)
  pub hold : frames ≡ map (frame_of program.structs) program.functions
