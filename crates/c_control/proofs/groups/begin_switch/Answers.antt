use Rattle.std.proofs.Common.{◌∙◌}
use Rattle.rvt_tree.specs.Views.{expr_view, groups_view}
use Rattle.c_meaning.specs.Outcomes.{and_then}
use Rattle.c_meaning.specs.Stores.{number_of}
use Rattle.c_meaning.specs.Expressions.{value_of}
use Rattle.c_meaning.specs.Statements.{after_group}
use Rattle.c_meaning.specs.Runs.{stepping}
use Rattle.c_tasks.specs.Operands.{operands, with_manner}
use Rattle.c_tasks.specs.Tasks.{chosen_group, after}
use Rattle.c_tasks.proofs.Sequences.{one_part}
use Rattle.c_tasks.proofs.ValueForms.{on_ok}
use Rattle.c_control.proofs.groups.begin_switch.Goals as goal

pub returns-clause-next : goal.returns-clause-next
returns-clause-next c =
    on_ok c.test_switch.result (λ h program d s. h program d s ∙ one_part (value_of program (stepping program d) (expr_view c.args.e.now)) (λ v. and_then (chosen_group program d (number_of v) (groups_view c.args.groups.now.value)) after_group) (λ manner. after program d c.args.work.now.tasks.items (with_manner manner (operands c.args.work.now))) s) c.test_switch.ensures.next
