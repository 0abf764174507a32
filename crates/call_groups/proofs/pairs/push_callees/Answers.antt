use Rattle.std.proofs.Common.{ℕ, ◌++◌, None, Option, get_or, ap, ◌∙◌}
use Rattle.std.proofs.lemmas.List.{take_all}
use Rattle.call_groups.proofs.Edges.{pushed_more}
use Rattle.call_groups.proofs.Tables.{at_read}
use Rattle.call_groups.specs.Groups.{pairs_of}
use Rattle.call_groups.proofs.pairs.push_callees.Goals as goal

pub calls-preserved : goal.calls-preserved
calls-preserved c =
    let units = c.deref-callee-items.result.now in
    let k = c.calls.callee-index in
    let f : ℕ → Option ℕ = λ u. get_or c.args.pairs.now u None in
    c.in_ok-push_pair.ensures
    ∙ pushed_more f units k (get_or units k 0) c.args.row.now.items c.calls.row.items c.pair_at.result (at_read units k 0 c.calls-test.true) c.pair_at.ensures c.calls.invariant

pub returns : goal.returns
returns c =
    let units = c.deref-callee-items.result.now in
    let f : ℕ → Option ℕ = λ u. get_or c.args.pairs.now u None in
    c.calls.invariant
    ∙ ap (λ us. c.args.row.now.items ++ pairs_of f us) (take_all c.calls.callee-index units c.calls-test.false ∙ (c.deref-callee-items.ensures.value ∙ c.in-Ok.ensures))
