use Rattle.std.proofs.Common.{◌∙◌}
use Rattle.std.proofs.lemmas.List.{length-set}
use Rattle.c_code.specs.declared.instructions.Instruction.TheVariants as I
use Rattle.c_code.proofs.Choices.{filled}
use Rattle.c_code.proofs.emitting.jump_over.Goals as goal

pub returns-clause-same_length : goal.returns-clause-same_length
returns-clause-same_length c = length-set c.args.code.now.items c.args.at _

pub returns-clause-jump : goal.returns-clause-jump
returns-clause-jump c = λ before block room e here. filled c.args.code.now.items before block room (I.Jump c.args.when) c.args.at c.len.result e here (c.len.ensures ∙ c.args.code.now.ok.0)
