use Rattle.std.proofs.Common.{rules, arith, ◌≡◌, ◌<◌, ℕ, ℤ, pos, ap, sym, ◌∙◌, subst, length, below_more, slice_index_or, w64}
use Rattle.std.specs.Prelude.{Contains}
use Rattle.std.proofs.lemmas.Int.{to_z-of_z}
use Rattle.std.proofs.lemmas.List.{get_or_read}
use Rattle.std.proofs.lemmas.List.Sums.{length-filter}
use mir.Val.{SFits}
use Rattle.clause_db.proofs.Ordered.{read_at_place}
use Rattle.chain_resolution.specs.Marked.{is_literal, marked}
use Rattle.chain_resolution.proofs.Lists.{part_same}
use Rattle.chain_resolution.proofs.Tables.{marked_ordered}
use Rattle.chain_resolution.proofs.marked.MarkedClause.is.Goals as goal

pub returns-then-len-self : goal.returns-then-len-self
returns-then-len-self c =
    let table = c.args.self.now.table.items in
    let items = c.args.clause.now.literals.items in
    let size : length (marked table) ≡ c.args.self.now.size = length-filter is_literal table ∙ sym c.args.self.now.counted in
    ((λ e. cc), (λ e. absurd (c.if-len-self.true (let f : length (marked table) ≡ length items = ap length e in omega (arith, f, size, c.len.ensures, c.args.clause.now.literals.ok.0)))))

pub loop-place-preserved : goal.loop-place-preserved
loop-place-preserved c =
    let table = c.args.self.now.table.items in
    let items = c.args.clause.now.literals.items in
    let i : ℕ = c.loop-place.place in
    let fits : SFits w64 c.index.result.now = search rules in
    let within : i < length items = omega (arith, c.loop-place-test.true, c.len-place-end.ensures, c.args.clause.now.literals.ok.0) in
    let at : c.index.result.now ≡ slice_index_or items i (pos 0) = get_or_read items i c.index.result.now within c.index.ensures (pos 0) in
    let here : Contains (marked table) (slice_index_or items i (pos 0)) = subst (Contains (marked table)) (to_z-of_z w64 _ fits ∙ at) (c.has.ensures.0 c.if-not-has.false) in
    λ p h. below_more (λ n. Contains (marked table) (slice_index_or items n (pos 0))) i c.loop-place.invariant here p h

pub returns : goal.returns
returns c =
    let table = c.args.self.now.table.items in
    let items = c.args.clause.now.literals.items in
    let size : length (marked table) ≡ c.args.self.now.size = length-filter is_literal table ∙ sym c.args.self.now.counted in
    let within : (l : ℤ) → Contains items l → Contains (marked table) l = λ l w. (let h = w.1 in subst (Contains (marked table)) (read_at_place items l w) (c.loop-place.invariant w.0 (omega (arith, h, c.loop-place-test.false, c.len-place-end.ensures, c.args.clause.now.literals.ok.0)))) in
    ((λ e. sym (part_same items (marked table) c.args.clause.now.ordered (marked_ordered table c.args.self.now.at_variables) within (omega (arith, size, c.if-len-self.false, c.len.ensures, c.args.clause.now.literals.ok.0)))), (λ e. cc))
