use Rattle.std.proofs.Common.{◌≡◌, ◌∙◌, ap, sym, subst, length}
use Rattle.flat_memory.specs.Memories.{Contents}
use Rattle.flat_memory.proofs.ObjectSteps.{contents}
use Rattle.flat_memory.proofs.objects.Objects.load.Goals as goal

pub fill-requires : goal.fill-requires
fill-requires c = subst (λ (it : Contents). length c.args.store.now ≡ length it.store) (sym c.self.view_is) c.requires

pub invariant_of-self : goal.invariant_of-self
invariant_of-self c =
    record {
      lie = c.self.invariant.lie;
      hold = c.self.invariant.hold;
      fill = ap (λ t. length t) c.fill.ensures ∙ subst (λ (it : Contents). length c.args.store.now ≡ length it.store) (sym c.self.view_is) c.requires ∙ c.self.invariant.fill;
    }

pub returns : goal.returns
returns c = ap (contents c.self.inside.program.now) c.fill.ensures ∙ ap (λ (it : Contents). contents it.program c.args.store.now) c.self.view_is
