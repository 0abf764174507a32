use Rattle.std.proofs.Common.{[], ◌∷◌, ap, arith, length, length-append}
use Rattle.c_code.specs.declared.instructions.Instruction.TheVariants as I
use Rattle.c_code.proofs.emitting.begin_second.Goals as goal

pub returns-clause-longer : goal.returns-clause-longer
returns-clause-longer c = omega (arith, c.jump_over.ensures.same_length, ap length c.in_ok-second.ensures.room, length-append c.args.code.now.items (I.Finish ∷ []))
