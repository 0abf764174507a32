use Rattle.std.proofs.Common.{◌≡◌, ◌++◌, drop, map}
use Rattle.c_places.specs.Frames.{frame_of}
use Rattle.c_places.proofs.frames.frames.Given as goal

abbrev pub invariant-loop-function : goal.invariant-loop-function
invariant-loop-function l = l.out.items ++ map (frame_of l.structs) (drop l.function-index l.functions) ≡ map (frame_of l.structs) l.functions
