use Rattle.std.proofs.Common.{ℕ, ◌+◌, List, Option, slice_get, sym, subst}
use Rattle.twin_candidates.specs.Marks.{AvoidsMarked}
use Rattle.twin_candidates.proofs.Below.{KeptBelow, kept_more, kept_all}
use Rattle.twin_candidates.proofs.functions.avoiding.Goals as goal

pub loop-number-preserved : goal.loop-number-preserved
loop-number-preserved c =
    let Keeps : ℕ → ℕ → Type 0 = λ f g. AvoidsMarked c.args.marks.now (slice_get c.args.functions.now f) in
    subst (λ (items : List (Option ℕ)). KeptBelow Keeps c.args.partners.now items (c.loop-number.number + 1)) (sym c.in_ok-push.ensures.items)
    (kept_more Keeps c.args.partners.now c.loop-number.kept.items c.loop-number.number c.in_ok-partner.partner c.in_ok-partner.ensures c.loop-number.invariant)

pub returns : goal.returns
returns c =
    kept_all (λ (f g : ℕ). AvoidsMarked c.args.marks.now (slice_get c.args.functions.now f)) c.args.partners.now c.loop-number.kept.items c.loop-number.number
    c.loop-number-test.false c.loop-number.invariant
