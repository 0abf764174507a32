use Rattle.std.proofs.Common.{sym, ap, ◌∙◌, reverse}
use Rattle.c_tasks.specs.Operands.{operands, first_or, others, nowhere}
use Rattle.c_tasks.proofs.Stacks.{with_place_list, popped_some, popped_none}
use Rattle.c_tasks.proofs.work.Work.take_place.Goals as goal

pub returns-in-Some-clause-place : goal.returns-in-Some-clause-place
returns-in-Some-clause-place c = sym (ap (first_or nowhere) (popped_some _ _ _ _ c.pop.ensures.items c.in-Some.is))

pub returns-in-Some-clause-operands : goal.returns-in-Some-clause-operands
returns-in-Some-clause-operands c = ap (λ vs. with_place_list (others vs) (operands c.args.self.now)) (sym (popped_some _ _ _ _ c.pop.ensures.items c.in-Some.is))

pub returns-in-None-clause-place : goal.returns-in-None-clause-place
returns-in-None-clause-place c =
    let h = popped_none _ _ _ _ _ c.args.self.now.places.ok.0 c.pop.ensures.cases c.pop.ensures.items c.in-None.is in
    c.new.ensures ∙ ap (λ vs. first_or nowhere (reverse vs)) (sym h.0)

pub returns-in-None-clause-operands : goal.returns-in-None-clause-operands
returns-in-None-clause-operands c =
    let h = popped_none _ _ _ _ _ c.args.self.now.places.ok.0 c.pop.ensures.cases c.pop.ensures.items c.in-None.is in
    ap (λ vs. with_place_list (reverse vs) (operands c.args.self.now)) h.1 ∙ ap (λ vs. with_place_list (others (reverse vs)) (operands c.args.self.now)) (sym h.0)
