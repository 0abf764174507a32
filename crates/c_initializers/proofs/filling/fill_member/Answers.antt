use Rattle.std.proofs.Common.{◌-◌}
use Rattle.rvt_tree.specs.Syntax.{initializer}
use Rattle.rvt_tree.specs.Views.{init_view, inits_view}
use Rattle.c_tasks.specs.Tasks.{filling, filling_members}
use Rattle.c_tasks.proofs.Sequences.{becomes_then}
use Rattle.c_tasks.proofs.ValueForms.{on_ok}
use Rattle.c_initializers.proofs.Padding.{member_fills}
use Rattle.c_initializers.proofs.filling.fill_member.Goals as goal

pub returns-clause-next : goal.returns-clause-next
returns-clause-next c =
    on_ok c.fill.result (λ h. becomes_then (λ program d. filling_members program d (inits_view c.args.rest.now.value) c.in_ok-after.after (c.args.count - c.args.size)) (λ program d. filling program d (init_view c.args.init.now) c.args.at c.args.size) (λ program d. filling_members program d (initializer (init_view c.args.init.now) c.args.size (inits_view c.args.rest.now.value)) c.args.at c.args.count) c.args.work.now c.fill.new.work c.put.new.tasks.items c.in_ok-put.ensures.next h (λ program d next on s. member_fills c.args.size c.args.count c.args.at c.in_ok-after.after c.requires c.in_ok-after.ensures program d (init_view c.args.init.now) (inits_view c.args.rest.now.value) next on s)) c.fill.ensures.next
