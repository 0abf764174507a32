use Rattle.std.proofs.Common.{◌≡◌, ◌<◌, length}
use Rattle.c_layout.specs.declared.sizes.Mark.TheVariants.{New}
use Rattle.c_layout.specs.declared.sizes.Frame.{Frame}
use Rattle.c_layout.specs.Sizes.{At, IsWalk, steps_left}
use Rattle.c_layout.proofs.sizes.size_of.Given as goal

abbrev pub invariant-steps : goal.invariant-steps
invariant-steps l = record {
  walk : IsWalk l.structs l.walk.marks.items l.walk.frames.items;
  -- the first frame is that of the struct in the type, which has been entered
  first : (frame : Frame) → At l.walk.frames.items 0 frame → frame.number ≡ l.number;
  entered : At l.walk.marks.items l.number New → ⊥;
  within : l.number < length l.structs.list;
}

abbrev pub decreases-steps : goal.decreases-steps
decreases-steps l = steps_left l.walk.marks.items l.walk.frames.items
