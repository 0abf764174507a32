use Rattle.std.proofs.Common.{◌∙◌, ap, refl}
use Rattle.std.specs.Prelude.{fold}
use Rattle.aig_build.proofs.Nodes.{Grows-refl, Grows-trans}
use Rattle.bit_words.proofs.RippleCarry.{AreThere-later}
use Rattle.uf_abstraction.proofs.Loops.{left_all}
use Rattle.uf_abstraction.specs.Testing.{or_target, pointer_built}
use Rattle.uf_abstraction.proofs.pointers.on_targets.Goals as goal

pub targets-init : goal.targets-init
targets-init c = (refl, record { grows = Grows-refl _; there = c.in_ok-lit.ensures.there })

pub or_target-requires-clause-object_is_there : goal.or_target-requires-clause-object_is_there
or_target-requires-clause-object_is_there c = AreThere-later _ _ _ (Grows-trans _ _ _ c.in_ok-lit.ensures.grows c.targets.invariant.1.grows) c.requires.object_is_there

pub or_target-requires-clause-cell_is_there : goal.or_target-requires-clause-cell_is_there
or_target-requires-clause-cell_is_there c = AreThere-later _ _ _ (Grows-trans _ _ _ c.in_ok-lit.ensures.grows c.targets.invariant.1.grows) c.requires.cell_is_there

pub returns-clause-built : goal.returns-clause-built
unfolding pointer_built
returns-clause-built c =
    ap (λ m. fold (or_target c.args.to_const c.args.object.now c.args.cell.now) m c.args.targets.now) c.in_ok-lit.ensures.built
    ∙ left_all _ _ c.args.targets.now c.targets.at _ c.targets.invariant.0 c.targets-test.false
