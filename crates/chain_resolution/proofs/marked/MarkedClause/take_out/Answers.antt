use Rattle.std.proofs.Common.{rules, arith, ◌≡◌, ◌≢◌, pos, refl, ap, sym, ◌∙◌, w64}
use mir.Val.{SFits, of_z}
use Rattle.chain_resolution.proofs.Tables.{at, without_from_zero, out_right, out_touched, out_without, out_count}
use Rattle.chain_resolution.proofs.Reading.{same_read}
use Rattle.chain_resolution.proofs.marked.MarkedClause.take_out.Goals as goal

pub returns-then-at-eq0-clause-without : goal.returns-then-at-eq0-clause-without
returns-then-at-eq0-clause-without c =
    let table = c.args.self.now.table.items in
    let right = c.args.self.now.at_variables in
    let fits : SFits w64 c.at.result = search rules in
    let zero_fits : SFits w64 (pos 0) = search rules in
    let read : c.at.result ≡ at table c.args.place = c.at.ensures ∙ ap (λ t. at t c.args.place) c.deref.ensures.value in
    without_from_zero table table c.args.place (λ u ne. refl) right right (sym read ∙ same_read c.at.result (pos 0) fits zero_fits c.if-at-eq0.true)

pub invariant_of-self : goal.invariant_of-self
invariant_of-self c =
    let table = c.args.self.now.table.items in
    let right = c.args.self.now.at_variables in
    let read : c.at.result ≡ at table c.args.place = c.at.ensures ∙ ap (λ t. at t c.args.place) c.deref.ensures.value in
    let some : at table c.args.place ≢ pos 0 = λ e. c.if-at-eq0.false (ap (of_z w64) (read ∙ e)) in
    record {
      at_variables = out_right table right c.args.place some;
      all_touched = out_touched table right c.args.place some c.args.self.now.touched.items c.args.self.now.all_touched;
      counted = (let n = out_count table right c.args.place some in omega (arith, n, c.args.self.now.counted));
    }

pub returns-clause-without : goal.returns-clause-without
returns-clause-without c =
    let table = c.args.self.now.table.items in
    let read : c.at.result ≡ at table c.args.place = c.at.ensures ∙ ap (λ t. at t c.args.place) c.deref.ensures.value in
    let some : at table c.args.place ≢ pos 0 = λ e. c.if-at-eq0.false (ap (of_z w64) (read ∙ e)) in
    out_without table c.args.self.now.at_variables c.args.place some
