use Rattle.std.proofs.Common.{[], refl, ap, ◌∙◌}
use Rattle.c_tasks.specs.declared.work.Work.{Work}
use Rattle.c_interp.proofs.Begun.{begins, all_values}
use Rattle.c_interp.proofs.machine.begin.Goals as goal

pub returns : goal.returns
returns c =
    let work : Work = record c.activation-work.result { tasks = c.put.new.tasks; values = c.in_ok-work.field-0 } in
    λ program steps. begins program (record { cells = c.in_ok-engine.field-0; work = work; frames = c.new-3.result; depth = c.args.calls }) c.args.function c.args.calls steps c.args.input.now.args.items c.args.input.now.store.items c.activation-work.result.tasks.items
    c.new-3.ensures.items refl (c.in_ok-engine.ensures ∙ ap (λ cells. record { locals = []; store = cells; kept = tt }) c.as_slice-2.ensures.value) c.activation-work.ensures.tasks c.in_ok-put.ensures.next (all_values _ ∙ c.in_ok-work.ensures.items ∙ c.as_slice.ensures.value)
