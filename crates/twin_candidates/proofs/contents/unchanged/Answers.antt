use Rattle.std.proofs.Common.{ℕ, ◌+◌, List, Option, slice_get, sym, subst}
use Rattle.twin_laws.specs.Tables.{SameContents}
use Rattle.twin_candidates.proofs.Below.{KeptBelow, kept_more, kept_all}
use Rattle.twin_candidates.proofs.contents.unchanged.Goals as goal

pub loop-number-preserved : goal.loop-number-preserved
loop-number-preserved c =
    let Keeps : ℕ → ℕ → Type 0 = λ a b. SameContents (slice_get c.args.old.now a) (slice_get c.args.new.now b) in
    subst (λ (items : List (Option ℕ)). KeptBelow Keeps c.args.partners.now items (c.loop-number.number + 1)) (sym c.in_ok-push.ensures.items)
    (kept_more Keeps c.args.partners.now c.loop-number.kept.items c.loop-number.number c.kept_object-partner.result c.kept_object-partner.ensures c.loop-number.invariant)

pub returns : goal.returns
returns c =
    kept_all (λ (a b : ℕ). SameContents (slice_get c.args.old.now a) (slice_get c.args.new.now b)) c.args.partners.now c.loop-number.kept.items c.loop-number.number
    c.loop-number-test.false c.loop-number.invariant
