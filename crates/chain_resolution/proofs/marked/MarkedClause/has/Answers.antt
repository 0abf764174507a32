use Rattle.std.proofs.Common.{rules, ◌≡◌, ℤ, ap, sym, ◌∙◌, w64}
use Rattle.std.proofs.lemmas.Int.{to_z-of_z}
use mir.Val.{SFits, of_z}
use Rattle.clause_db.specs.Literal.{variable_of}
use Rattle.chain_resolution.proofs.Tables.{at}
use Rattle.chain_resolution.proofs.Reading.{same_read, has_from_read, read_from_has, eq_from_test, test_from_eq}
use Rattle.chain_resolution.proofs.marked.MarkedClause.has.Goals as goal

pub returns : goal.returns
returns c =
    let table = c.args.self.now.table.items in
    let right = c.args.self.now.at_variables in
    let l : ℤ = c.args.literal in
    let fits : SFits w64 l = search rules in
    let here_fits : SFits w64 c.at-here.result = search rules in
    let v : c.variable.result ≡ variable_of l = c.variable.ensures ∙ ap variable_of (to_z-of_z w64 l fits) in
    let read : c.at-here.result ≡ at table (variable_of l) = c.at-here.ensures ∙ ap (λ t. at t c.variable.result) c.deref.ensures.value ∙ ap (at table) v in (
      (λ e. has_from_read table right l c.requires (sym read ∙ same_read c.at-here.result l here_fits fits (eq_from_test _ _ e))),
      (λ w. test_from_eq _ _ (ap (of_z w64) (read ∙ read_from_has table right l c.requires w))),
    )
