use Rattle.std.proofs.Common.{◌∙◌, ap, sym, subst}
use Rattle.aig_build.proofs.Nodes.{Grows-trans}
use Rattle.bit_words.proofs.RippleCarry.{AreThere-later}
use Rattle.bit_words.specs.Words.{AreThere}
use Rattle.sym_values.specs.Values.{all_lits}
use Rattle.uf_abstraction.proofs.Loops.{there_front, there_back}
use Rattle.uf_abstraction.specs.Applications.{trap_lits}
use Rattle.uf_abstraction.specs.declared.applications.Reply.{Reply}
use Rattle.uf_abstraction.proofs.congruence.with_answer.Goals as goal

pub one_trap-requires-clause-traps_are_there : goal.one_trap-requires-clause-traps_are_there
one_trap-requires-clause-traps_are_there c =
    subst (λ ts. AreThere c.args.circuit.now (trap_lits ts)) (sym (c.deref.ensures.value ∙ ap (λ (r : Reply). r.answer.trap) c.reply.view_is))
    (there_front c.args.circuit.now (trap_lits c.args.reply.now.answer.trap) _ c.requires.answer_is_there.answer)

pub with_results-requires-clause-values_are_there : goal.with_results-requires-clause-values_are_there
with_results-requires-clause-values_are_there c =
    let answer = c.args.reply.now.answer in
    subst (λ xs. AreThere c.and.new.circuit (all_lits xs)) (sym (c.deref-4.ensures.value ∙ ap (λ (r : Reply). r.answer.results) c.reply.view_is))
    (AreThere-later _ _ _ (Grows-trans _ _ _ c.in_ok-single.ensures.grows c.in_ok-both.ensures.grows)
    (there_front c.args.circuit.now (all_lits answer.results) (all_lits answer.cells) (there_back c.args.circuit.now (trap_lits answer.trap) _ c.requires.answer_is_there.answer)))
