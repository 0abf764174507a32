use Rattle.std.proofs.Common.{◌∙◌, ap, sym}
use Rattle.uf_abstraction.proofs.Questions.{sought}
use Rattle.uf_abstraction.specs.Applying.{applied_by, apply_built}
use Rattle.uf_abstraction.specs.Names.{meant}
use Rattle.uf_abstraction.proofs.applications.Applications.apply.Goals as goal

pub returns-in_ok-copy-in-Some : goal.returns-in_ok-copy-in-Some
unfolding apply_built
returns-in_ok-copy-in-Some c = record {
  built =
      ap (applied_by c.args.circuit.now c.args.self.now (meant c.args.name) c.args.key.now c.args.shape.now)
      (sought (meant c.args.name) _ _ _ _ _ c.in_ok-key_lits.ensures c.self.view_is c.in-Some.ensures)
      ∙ (λ i. record { nodes = c.args.circuit.now; applied = c.args.self.now; answer = sym c.in_ok-copy-in-Some.ensures i });
}

pub returns-in_ok-answer-in-None : goal.returns-in_ok-answer-in-None
unfolding apply_built
returns-in_ok-answer-in-None c = record {
  built =
      ap (applied_by c.args.circuit.now c.args.self.now (meant c.args.name) c.args.key.now c.args.shape.now)
      (sought (meant c.args.name) _ _ _ _ _ c.in_ok-key_lits.ensures c.self.view_is c.in-None.ensures)
      ∙ c.in_ok-answer-in-None.ensures.built;
}
