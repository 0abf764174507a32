use Rattle.std.proofs.Common.{refl}
use Rattle.std.specs.Prelude.{map}
use Rattle.aig_build.proofs.Nodes.{Grows-refl}
use Rattle.uf_abstraction.proofs.Grouping.{all_at_places, all_got, got_mapped, is_there_later, places_all, places_at, places_step}
use Rattle.uf_abstraction.proofs.Loops.{IsGrown-step}
use Rattle.uf_abstraction.specs.Applying.{IsThere}
use Rattle.uf_abstraction.specs.Names.{application_of, IsAsked}
use Rattle.uf_abstraction.specs.Testing.{IsComparable}
use Rattle.uf_abstraction.proofs.congruence.with_places.Goals as goal

pub places-init : goal.places-init
places-init c = (refl, record { grows = Grows-refl _; there = c.requires.so_far_is_there })

pub entry-requires : goal.entry-requires
entry-requires c = places_at _ c.args.places.now c.places.at _ c.requires.places c.places-test.true

pub with_pair-requires-clause-so_far_is_there : goal.with_pair-requires-clause-so_far_is_there
with_pair-requires-clause-so_far_is_there c = c.places.invariant.1.there

pub with_pair-requires-clause-earlier_asked : goal.with_pair-requires-clause-earlier_asked
with_pair-requires-clause-earlier_asked c = all_got IsAsked c.args.made.now.entries _ _ c.requires.asked c.entry.ensures

pub with_pair-requires-clause-this_is_there : goal.with_pair-requires-clause-this_is_there
with_pair-requires-clause-this_is_there c = is_there_later _ _ c.places.invariant.1.grows _ c.requires.this_is_there

pub with_pair-requires-clause-earlier_is_there : goal.with_pair-requires-clause-earlier_is_there
with_pair-requires-clause-earlier_is_there c =
    is_there_later _ _ c.places.invariant.1.grows _ (all_got (IsThere c.args.circuit.now) (map application_of c.args.made.now.entries) _ _ c.requires.all_there (got_mapped c.args.made.now.entries _ _ _ c.entry.ensures))

pub with_pair-requires-clause-comparable : goal.with_pair-requires-clause-comparable
with_pair-requires-clause-comparable c =
    all_at_places (λ a. IsComparable a (application_of (c.args.question.now, c.args.reply.now))) (map application_of c.args.made.now.entries) c.args.places.now c.places.at _ _ c.requires.comparable c.places-test.true
    (got_mapped c.args.made.now.entries _ _ _ c.entry.ensures)

pub places-preserved : goal.places-preserved
places-preserved c =
    let f = c.in_ok-lit.ensures in (
      places_step _ _ c.args.places.now c.places.at _ _ _ _ _ c.places.invariant.0 c.places-test.true (got_mapped c.args.made.now.entries _ _ _ c.entry.ensures) f.built,
      IsGrown-step _ _ _ _ _ c.places.invariant.1 f.grows f.there,
    )

pub returns-clause-built : goal.returns-clause-built
returns-clause-built c = places_all _ _ c.args.places.now c.places.at _ _ c.places.invariant.0 c.places-test.false
