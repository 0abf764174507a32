use Rattle.call_arguments.proofs.ValueLemmas.{pointer_some, pointer_none}
use Rattle.call_arguments.proofs.pointers.pointer_argument.Goals as goal

pub returns-in-Some-clause-some : goal.returns-in-Some-clause-some
returns-in-Some-clause-some c = pointer_some c.args.objects.now c.args.to_constant c.args.word.now c.in-Some.name.now c.in-Some.digits.now c.in-Some.ensures.some c.cell_of.result c.cell_of.ensures.some

pub returns-in-Some-clause-none : goal.returns-in-Some-clause-none
returns-in-Some-clause-none c = pointer_none c.args.objects.now c.args.to_constant c.args.word.now c.in-Some.name.now c.in-Some.digits.now c.in-Some.ensures.some c.cell_of.result c.cell_of.ensures.none
