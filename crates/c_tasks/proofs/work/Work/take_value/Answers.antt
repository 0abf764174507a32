use Rattle.std.proofs.Common.{sym, ap, ◌∙◌, reverse}
use Rattle.rvt_num.specs.declared.values.Value.TheVariants.{Null}
use Rattle.c_tasks.specs.Operands.{operands, first_or, others}
use Rattle.c_tasks.proofs.Stacks.{with_list, popped_some, popped_none}
use Rattle.c_tasks.proofs.work.Work.take_value.Goals as goal

pub returns-in-Some-clause-value : goal.returns-in-Some-clause-value
returns-in-Some-clause-value c = sym (ap (first_or Null) (popped_some _ _ _ _ c.pop.ensures.items c.in-Some.is))

pub returns-in-Some-clause-operands : goal.returns-in-Some-clause-operands
returns-in-Some-clause-operands c = ap (λ vs. with_list (others vs) (operands c.args.self.now)) (sym (popped_some _ _ _ _ c.pop.ensures.items c.in-Some.is))

pub returns-in-None-clause-value : goal.returns-in-None-clause-value
returns-in-None-clause-value c =
    let h = popped_none _ _ _ _ _ c.args.self.now.values.ok.0 c.pop.ensures.cases c.pop.ensures.items c.in-None.is in
    ap (λ vs. first_or Null (reverse vs)) (sym h.0)

pub returns-in-None-clause-operands : goal.returns-in-None-clause-operands
returns-in-None-clause-operands c =
    let h = popped_none _ _ _ _ _ c.args.self.now.values.ok.0 c.pop.ensures.cases c.pop.ensures.items c.in-None.is in
    ap (λ vs. with_list (reverse vs) (operands c.args.self.now)) h.1 ∙ ap (λ vs. with_list (others (reverse vs)) (operands c.args.self.now)) (sym h.0)
