use Rattle.std.proofs.Common.{rules, arith, List, ◌≡◌, ◌≢◌, ◌<◌, ℕ, ℤ, pos, ap, sym, ◌∙◌, subst, length, slice_index_or, w64}
use Rattle.std.proofs.lemmas.List.{get_or_read}
use Rattle.std.specs.Prelude.{Contains}
use Rattle.std.proofs.lemmas.Int.{to_z-of_z}
use mir.Val.{SFits, to_z, of_z}
use Rattle.clause_db.specs.Literal.{variable_of, opposite}
use Rattle.chain_resolution.specs.Marked.{marked, IsWith}
use Rattle.chain_resolution.proofs.Unions.{union_put, union_of_all, next_apart}
use Rattle.chain_resolution.proofs.marked.MarkedClause.put_all_but.Goals as goal

pub put-requires-clause-apart : goal.put-requires-clause-apart
put-requires-clause-apart c =
    let items = c.args.other.now.literals.items in
    let old : List ℤ = marked c.args.self.now.table.items in
    let now : List ℤ = marked c.loop-place.self.table.items in
    let i : ℕ = c.loop-place.place in
    let x : ℤ = c.index-literal.result.now in
    let l : ℤ = slice_index_or items i (pos 0) in
    let fits : SFits w64 x = search rules in
    let within : i < length items = omega (arith, c.loop-place-test.true, c.len-place-end.ensures, c.args.other.now.literals.ok.0) in
    let is : to_z w64 (of_z w64 x) ≡ l = to_z-of_z w64 x fits ∙ get_or_read items i x within c.index-literal.ensures (pos 0) in
    let away : variable_of l ≢ c.args.pivot = λ e. c.if-variable-pivot.false (c.variable.ensures ∙ ap variable_of is ∙ e) in
    subst (λ m. Contains now (opposite m) → ⊥) (sym is) (next_apart c.args.pivot old items now i c.loop-place.invariant c.args.other.now.ordered c.args.other.now.in_range c.requires.apart within away)

pub loop-place-preserved : goal.loop-place-preserved
loop-place-preserved c =
    let items = c.args.other.now.literals.items in
    let old : List ℤ = marked c.args.self.now.table.items in
    let now : List ℤ = marked c.loop-place.self.table.items in
    let i : ℕ = c.loop-place.place in
    let x : ℤ = c.index-literal.result.now in
    let l : ℤ = slice_index_or items i (pos 0) in
    let fits : SFits w64 x = search rules in
    let within : i < length items = omega (arith, c.loop-place-test.true, c.len-place-end.ensures, c.args.other.now.literals.ok.0) in
    let is : to_z w64 (of_z w64 x) ≡ l = to_z-of_z w64 x fits ∙ get_or_read items i x within c.index-literal.ensures (pos 0) in
    let away : variable_of l ≢ c.args.pivot = λ e. c.if-variable-pivot.false (c.variable.ensures ∙ ap variable_of is ∙ e) in
    union_put c.args.pivot old items now i c.loop-place.invariant (marked c.put.new.self.table.items) within away (subst (λ m. IsWith m now (marked c.put.new.self.table.items)) is c.in_ok-put.ensures)

pub returns : goal.returns
returns c =
    let items = c.args.other.now.literals.items in
    union_of_all c.args.pivot (marked c.args.self.now.table.items) items (marked c.loop-place.self.table.items) c.loop-place.place c.loop-place.invariant (omega (arith, c.loop-place-test.false, c.len-place-end.ensures, c.args.other.now.literals.ok.0))
