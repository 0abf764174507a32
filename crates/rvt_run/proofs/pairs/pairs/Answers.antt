use Rattle.std.proofs.Common.{◌≡◌, ◌+◌, List, ◌++◌, [], ◌∷◌, None, ◌∙◌, ap, sym, subst, arith}
use Rattle.std.specs.Prelude.{map}
use Rattle.std.proofs.lemmas.List.{map-append, drop_all}
use Rattle.function_pairs.specs.Units.{pair_name}
use Rattle.rvt_run.specs.declared.pairs.Pair.{Pair}
use Rattle.rvt_run.specs.Pairs.{PairVerdict, ArePairs, AreLoops, IsVerdict, said}
use Rattle.rvt_run.proofs.LoopPairs.{said_push}
use Rattle.rvt_run.proofs.Paired.{Leads, without_partner, with_partner, all_paired}
use Rattle.rvt_run.proofs.pairs.pairs.Goals as goal

pub loop-i-preserved-in-None : goal.loop-i-preserved-in-None
loop-i-preserved-in-None c =
    without_partner c.args.pairing.now c.args.partners.now c.args.new.now c.args.old.now c.args.twins.now (λ whole. ArePairs c.args.pairing.now c.args.partners.now c.args.new.now c.args.twins.now 0 c.args.old.now whole)
    c.loop-i.i c.index-old-i.result (map said c.loop-i.pairs.items) c.loop-i-test.true c.index-old-i.is (sym c.in-None.ensures) c.loop-i.invariant

pub loop-i-preserved : goal.loop-i-preserved
loop-i-preserved c =
    let function = c.index-old-i.result in
    let verdict = c.judged.result.verdict in
    let whole : List PairVerdict → Type 0 = λ pairs. ArePairs c.args.pairing.now c.args.partners.now c.args.new.now c.args.twins.now 0 c.args.old.now pairs in
    let before = map said c.loop-i.pairs.items in
    let loops = map said c.in_ok-loops.loops.items in
    let first : map said c.push.new.self.items ≡ before ++ (pair_name function.name c.in-Some.other.now.name, None, verdict) ∷ [] =
    ap (λ (l : List Pair). map said l) c.in_ok-push.ensures.items ∙ said_push c.loop-i.pairs.items c.judged.result (pair_name function.name c.in-Some.other.now.name) None c.judged.ensures.name c.judged.ensures.no_loop in
    let made : map said c.append.new.self.items ≡ (before ++ (pair_name function.name c.in-Some.other.now.name, None, verdict) ∷ []) ++ loops =
    ap (λ (l : List Pair). map said l) c.in_ok-append.ensures.items ∙ map-append said c.push.new.self.items c.in_ok-loops.loops.items ∙ ap (λ (l : List PairVerdict). l ++ loops) first in
    subst (λ (pairs : List PairVerdict). Leads c.args.pairing.now c.args.partners.now c.args.new.now c.args.old.now c.args.twins.now whole (c.loop-i.i + 1) pairs) (sym made)
    (with_partner c.args.pairing.now c.args.partners.now c.args.new.now c.args.old.now c.args.twins.now whole c.loop-i.i function c.in-Some.other.now verdict loops before
    c.loop-i-test.true c.index-old-i.is (sym c.in-Some.ensures) (subst (λ b. IsVerdict c.args.pairing.now function c.in-Some.other.now b verdict) c.is_twin-are_twins.ensures c.judged.ensures.verdict)
    (subst (λ b. AreLoops c.args.pairing.now function c.in-Some.other.now b loops) c.is_twin-are_twins.ensures c.in_ok-loops.ensures) c.loop-i.invariant)

pub returns : goal.returns
returns c =
    all_paired c.args.pairing.now c.args.partners.now c.args.new.now c.args.old.now c.args.twins.now (λ whole. ArePairs c.args.pairing.now c.args.partners.now c.args.new.now c.args.twins.now 0 c.args.old.now whole)
    c.loop-i.i (map said c.loop-i.pairs.items) (drop_all c.loop-i.i c.args.old.now (omega (arith, c.loop-i-test.false))) c.loop-i.invariant
