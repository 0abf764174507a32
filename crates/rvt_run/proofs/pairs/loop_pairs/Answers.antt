use Rattle.std.proofs.Common.{◌≡◌, ◌++◌, [], ◌∷◌, List, Some, ◌∙◌, ap, sym, subst}
use Rattle.std.specs.Prelude.{map}
use Rattle.function_pairs.specs.Units.{pair_name}
use Rattle.rvt_run.specs.declared.pairs.Pair.{Pair}
use Rattle.rvt_run.specs.Pairs.{PairVerdict, AreLoopPairs, said}
use Rattle.rvt_run.proofs.Alike.{nil_of}
use Rattle.rvt_run.proofs.LoopPairs.{Leads, one_more, none_left, none_right, loops_are, said_push}
use Rattle.rvt_run.proofs.pairs.loop_pairs.Goals as goal

pub loops-preserved : goal.loops-preserved
loops-preserved c =
    let f = c.args.old.now in
    let g = c.args.new.now in
    let a = c.in-Some.a.now in
    let b = c.in-Some-split_first.b.now in
    let verdict = c.judged_loop.result.verdict in
    let made = map said c.loops.pairs.items in
    let whole : List PairVerdict → Type 0 = λ pairs. AreLoopPairs c.args.pairing.now f g c.args.are_twins c.as_slice-left.result.now c.as_slice-right.result.now pairs in
    let pushed : map said c.push.new.self.items ≡ made ++ (pair_name f.name g.name, Some a.number, verdict) ∷ [] =
    ap (λ (l : List Pair). map said l) c.in_ok-push-in-Some-split_first.ensures.items ∙ said_push c.loops.pairs.items c.judged_loop.result (pair_name f.name g.name) (Some a.number) c.judged_loop.ensures.name c.judged_loop.ensures.number in
    subst (λ (pairs : List PairVerdict). Leads c.args.pairing.now f g c.args.are_twins whole c.in-Some.more.now c.in-Some-split_first.rest.now pairs) (sym pushed)
    (one_more c.args.pairing.now f g c.args.are_twins whole c.loops.left.now c.loops.right.now c.in-Some.more.now c.in-Some-split_first.rest.now a b verdict made c.in-Some.ensures.cases.0 c.in-Some-split_first.ensures.cases.0
    c.judged_loop.ensures.small c.judged_loop.ensures.verdict c.loops.invariant)

pub returns-in-None : goal.returns-in-None
returns-in-None c =
    let whole : List PairVerdict → Type 0 = λ pairs. AreLoopPairs c.args.pairing.now c.args.old.now c.args.new.now c.args.are_twins c.as_slice-left.result.now c.as_slice-right.result.now pairs in
    loops_are c.args.pairing.now c.args.old.now c.args.new.now c.args.are_twins c.in_ok-loops.loops.items c.in_ok-others.others.items c.as_slice-left.result.now c.as_slice-right.result.now (map said c.loops.pairs.items)
    c.in_ok-loops.ensures c.in_ok-others.ensures c.as_slice-left.ensures.value c.as_slice-right.ensures.value
    (none_right c.args.pairing.now c.args.old.now c.args.new.now c.args.are_twins whole c.loops.left.now c.loops.right.now c.in-Some.more.now c.in-Some.a.now (map said c.loops.pairs.items) c.in-Some.ensures.cases.0
    (nil_of c.loops.right.now c.in-None.ensures.cases) c.loops.invariant)

pub returns : goal.returns
returns c =
    let whole : List PairVerdict → Type 0 = λ pairs. AreLoopPairs c.args.pairing.now c.args.old.now c.args.new.now c.args.are_twins c.as_slice-left.result.now c.as_slice-right.result.now pairs in
    loops_are c.args.pairing.now c.args.old.now c.args.new.now c.args.are_twins c.in_ok-loops.loops.items c.in_ok-others.others.items c.as_slice-left.result.now c.as_slice-right.result.now (map said c.loops.pairs.items)
    c.in_ok-loops.ensures c.in_ok-others.ensures c.as_slice-left.ensures.value c.as_slice-right.ensures.value
    (none_left c.args.pairing.now c.args.old.now c.args.new.now c.args.are_twins whole c.loops.left.now c.loops.right.now (map said c.loops.pairs.items) (nil_of c.loops.left.now c.in_default.ensures.cases) c.loops.invariant)
