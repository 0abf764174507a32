use Rattle.std.proofs.Common.{◌≡◌, inl, inr, sym, ap, ◌∙◌, subst, arith}
use Rattle.call_graph.proofs.Lists.{within, same_at}
use Rattle.call_graph.specs.Graphs.{At}
use Rattle.core_ir.specs.Calls.{Among}
use Rattle.touch_sets.proofs.Places.{at_read, earlier_or_last}
use Rattle.touch_sets.specs.declared.bodies.Named.{Named}
use Rattle.touch_sets.proofs.objects.object_count.Goals as goal

pub bodies-preserved : goal.bodies-preserved
bodies-preserved c =
    let all = c.args.all.now in
    let i = c.bodies.named-index in
    let here : At all i c.named-item.result = subst (λ (x : Named). At all i x) (sym c.named-item.is) (at_read all i c.named-item.result c.bodies-test.true) in
    let more = c.past_all-count.ensures.before in (
      omega (arith, c.bodies.invariant.0, more),
      λ u named lt at o a. elim (earlier_or_last u i lt) [
        | inl l ↦ let b = c.bodies.invariant.1 u named l at o a in omega (arith, b, more)
        | inr e ↦
            let same : named ≡ c.named-item.result = same_at all i named c.named-item.result (subst (λ k. At all k named) e at) here in
            c.past_all-count.ensures.objects o (subst (Among o) (ap (λ (x : Named). x.objects.items) same ∙ sym c.as_slice.ensures.value) a)
      ],
    )

pub returns-clause-named : goal.returns-clause-named
returns-clause-named c u named at o a = c.bodies.invariant.1 u named (let lt = within c.args.all.now u named at in omega (arith, lt, c.bodies-test.false)) at o a
