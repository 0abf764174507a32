use Rattle.std.proofs.Common.{refl, sym, subst}
use Rattle.std.specs.Prelude.{map}
use Rattle.rvt_run.specs.Pairs.{said, ArePairs}
use Rattle.rvt_run.proofs.Reported.{reported_by}
use Rattle.rvt_run.proofs.lines.report.Goals as goal

pub returns : goal.returns
returns c =
    let olds = c.as_slice-old.result.now in
    let news = c.as_slice-new.result.now in
    reported_by c.args.functions.now c.args.joint.now c.requires.own c.args.twins.now olds news c.as_slice-old.ensures c.as_slice-new.ensures
    c.as_slice-of_old.result.now c.as_slice-of_new.result.now c.as_slice-of_old.ensures c.as_slice-of_new.ensures
    (c.if-not-are_named.ensures refl) (c.if-not-are_named-2.ensures refl)
    c.as_slice-pairs.result.now c.full_count-full.result c.status_of.result c.new-lines.result.items c.add_pairs.new.lines.items c.add_only.new.lines.items c.add_only-2.new.lines.items c.push.new.self.items c.in_ok-counts.counts
    (subst (λ l. ArePairs c.args.joint.now.pairing c.as_slice-of_old.result.now news c.args.twins.now 0 olds (map said l)) (sym c.as_slice-pairs.ensures.value) c.in_ok-pairs.ensures)
    c.full_count-full.ensures.value c.status_of.ensures
    c.new-lines.ensures.items c.in_ok-add_pairs.ensures c.in_ok-add_only.ensures c.in_ok-add_only-2.ensures c.in_ok-push.ensures.items c.in_ok-counts.ensures c.requires.twins
