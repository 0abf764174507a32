use Rattle.std.proofs.Common.{◌∙◌}
use Rattle.c_code.specs.declared.instructions.Instruction.TheVariants as I
use Rattle.c_code.proofs.Choices.{filled}
use Rattle.c_code.proofs.loops.close_group.Goals as goal

pub returns : goal.returns
returns c = λ before block room e here. filled c.args.code.now.items before block room (I.Group c.args.count) c.args.at c.len.result e here (c.len.ensures ∙ c.args.code.now.ok.0)
