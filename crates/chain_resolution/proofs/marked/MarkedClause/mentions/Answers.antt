use Rattle.std.proofs.Common.{rules, ◌≡◌, pos, ap, sym, ◌∙◌, w64}
use mir.Val.{SFits, of_z}
use Rattle.chain_resolution.proofs.Tables.{at, mentions_from_some, some_from_mentions}
use Rattle.chain_resolution.proofs.Reading.{same_read}
use Rattle.chain_resolution.proofs.marked.MarkedClause.mentions.Goals as goal

pub returns-then-at-eq0 : goal.returns-then-at-eq0
returns-then-at-eq0 c =
    let table = c.args.self.now.table.items in
    let fits : SFits w64 c.at.result = search rules in
    let zero_fits : SFits w64 (pos 0) = search rules in
    let read : c.at.result ≡ at table c.args.v = c.at.ensures ∙ ap (λ t. at t c.args.v) c.deref.ensures.value in
    ((λ e. cc), (λ w. absurd (some_from_mentions table c.args.self.now.at_variables c.args.v w (sym read ∙ same_read c.at.result (pos 0) fits zero_fits c.if-at-eq0.true))))

pub returns : goal.returns
returns c =
    let table = c.args.self.now.table.items in
    let read : c.at.result ≡ at table c.args.v = c.at.ensures ∙ ap (λ t. at t c.args.v) c.deref.ensures.value in
    ((λ e. mentions_from_some table c.args.self.now.at_variables c.args.v (λ f. c.if-at-eq0.false (ap (of_z w64) (read ∙ f)))), (λ w. cc))
