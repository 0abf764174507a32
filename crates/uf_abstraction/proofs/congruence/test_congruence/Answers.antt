use Rattle.std.proofs.Common.{◌<◌, [], ap, arith, length, sym, subst}
use Rattle.std.specs.Prelude.{fold, map}
use Rattle.aig_build.proofs.Nodes.{Grows-refl}
use Rattle.aig_build.specs.declared.lits.Lit.{Lit}
use Rattle.uf_abstraction.proofs.Grouping.{all_there_later, got_at, mapped_long, no_groups, test_all, test_step}
use Rattle.uf_abstraction.proofs.Loops.{IsGrown-step, made}
use Rattle.uf_abstraction.specs.Groups.{AreGroups, places_of}
use Rattle.uf_abstraction.specs.Names.{application_of}
use Rattle.uf_abstraction.specs.Testing.{MadeTest, congruence_built, with_application}
use Rattle.uf_abstraction.proofs.congruence.test_congruence.Goals as goal

pub made-init : goal.made-init
made-init c =
    let applied = map application_of c.args.made.now.entries in (
      ap (λ (l : Lit). fold with_application (record { nodes = c.args.circuit.now; lit = l; before = [] }) applied) c.constant-lit.ensures,
      record { grows = Grows-refl _; there = subst (λ (l : Lit). l.node < length c.args.circuit.now) (sym c.constant-lit.ensures) c.requires.some },
      subst (λ es. AreGroups applied 0 (places_of es)) (sym c.new-groups.ensures.empty) (no_groups applied),
    )

pub with_application-requires-clause-so_far_is_there : goal.with_application-requires-clause-so_far_is_there
with_application-requires-clause-so_far_is_there c = c.made.invariant.1.there

pub with_application-requires-clause-all_there : goal.with_application-requires-clause-all_there
with_application-requires-clause-all_there c = all_there_later _ _ c.made.invariant.1.grows _ c.requires.all_there

pub with_application-requires-clause-in_range : goal.with_application-requires-clause-in_range
with_application-requires-clause-in_range c = subst (λ n. c.made.place < n) c.len-place-end.ensures.len c.made-test.true

pub with_application-requires-clause-grouped : goal.with_application-requires-clause-grouped
with_application-requires-clause-grouped c = c.made.invariant.2

pub made-preserved : goal.made-preserved
made-preserved c =
    let b = got_at c.args.made.now.entries c.made.place (subst (λ n. c.made.place < n) c.len-place-end.ensures.len c.made-test.true) in
    let f = c.in_ok-lit.ensures in
    (test_step (map application_of c.args.made.now.entries) c.made.place _ _ _ b.0 c.made.invariant.0 b.1 (f.built b.0 b.1), IsGrown-step _ _ _ _ _ c.made.invariant.1 f.grows f.there, c.in_ok-note_entry.ensures)

pub returns-clause-built : goal.returns-clause-built
unfolding congruence_built
returns-clause-built c =
    let long = mapped_long c.args.made.now.entries in
    let done = c.made-test.false in
    let end = c.len-place-end.ensures.len in
    ap (λ (m : MadeTest). made m.nodes m.lit) (test_all (map application_of c.args.made.now.entries) c.made.place _ _ c.made.invariant.0 (omega (arith, long, done, end)))
