use Rattle.std.proofs.Common.{rules, arith, ◌≡◌, ◌≢◌, ◌+◌, ℕ, ℤ, List, pos, ◌++◌, ◌∷◌, [], ap, sym, ◌∙◌, subst, slice_index, w64}
use Rattle.std.proofs.lemmas.Int.{to_z-of_z}
use mir.Val.{SFits, of_z}
use Rattle.chain_resolution.proofs.Tables.{at, positive_from_some}
use Rattle.chain_resolution.proofs.Listings.{ReadTo, read_literal}
use Rattle.chain_resolution.proofs.listing.literals_at.Goals as goal

pub loop-index-preserved : goal.loop-index-preserved
loop-index-preserved c =
    let table = c.args.table.now in
    let places = c.args.places.now in
    let i : ℕ = c.loop-index.index in
    let place : ℕ = slice_index places i in
    let x : ℤ = c.at-literal.result in
    let fits : SFits w64 x = search rules in
    let read : x ≡ at table place = c.at-literal.ensures in
    let some : at table place ≢ pos 0 = λ e. c.if-literal-eq0.false (ap (of_z w64) (read ∙ e)) in
    let old : List ℤ = c.loop-index.literals.items in
    let items : c.push.new.self.items ≡ old ++ at table place ∷ [] = c.in-Ok.ensures.items ∙ ap (λ m. old ++ m ∷ []) (to_z-of_z w64 x fits ∙ read) in
    subst (ReadTo table places (i + 1) place) (sym items) (read_literal table c.requires.at_variables places i c.loop-index.last old c.loop-index.invariant (omega (arith, c.if-place-last.false)) (positive_from_some (at table place) some))
