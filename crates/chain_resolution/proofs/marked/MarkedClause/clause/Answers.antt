use Rattle.std.proofs.Common.{arith, ◌≡◌, ◌<◌, ℕ, ℤ, pos, List, sym, ap, ◌∙◌, ◌++◌, subst, get_or}
use Rattle.std.specs.Prelude.{Contains}
use Rattle.std.specs.List.Sorted.{IsNonDecreasing}
use Rattle.std.proofs.lemmas.List.{get_or_default}
use Rattle.std.proofs.lemmas.List.Sorted.{IsNonDecreasingBy-from_sort, Contains-permutation}
use Rattle.clause_db.specs.Literal.{variable_of}
use Rattle.chain_resolution.specs.Marked.{marked}
use Rattle.chain_resolution.proofs.Listings.{read_all}
use Rattle.chain_resolution.proofs.Tables.{marked_below}
use Rattle.chain_resolution.proofs.marked.MarkedClause.clause.Goals as goal

pub literals_at-requires-clause-in_order : goal.literals_at-requires-clause-in_order
literals_at-requires-clause-in_order c =
    subst IsNonDecreasing (sym c.deref-3.ensures.value) (IsNonDecreasingBy-from_sort (λ v. v) _ c.sort_unstable.ensures.sorted)

pub invariant_of-result : goal.invariant_of-result
invariant_of-result c =
    let self = c.args.self.now in
    let literals : List ℤ = c.in_ok-literals.literals.items in
    let e = c.in_ok-literals.ensures in
    record {
      ordered = e.ordered;
      in_range = λ k d h.
          let l : ℤ = get_or literals k d in
          let has : Contains (marked self.table.items) l = subst (λ t. Contains (marked t) l) c.deref-2.ensures.value (e.from_table l (k, h, get_or_default literals k l d h)) in
          let range = marked_below self.table.items self.at_variables l has in
          let small = self.table.small in
          (range.0, (let b = range.1 in omega (arith, b, small, self.table.ok.0, self.table.ok.1)));
    }

pub returns : goal.returns
returns c =
    let self = c.args.self.now in
    let table = self.table.items in
    let literals : List ℤ = c.in_ok-literals.literals.items in
    let e = c.in_ok-literals.ensures in
    let copied : c.extend_from_slice.new.self.items ≡ self.touched.items = c.in-Ok.ensures.items ∙ ap (λ xs. xs ++ c.deref.result.now) c.new-places.ensures.items ∙ c.deref.ensures.value in
    let moved : (v : ℕ) → Contains self.touched.items v → Contains c.deref-3.result.now v = λ v w. subst (λ xs. Contains xs v) (sym c.deref-3.ensures.value) (Contains-permutation _ _ v c.sort_unstable.ensures.permutation (subst (λ xs. Contains xs v) (sym copied) w)) in
    read_all table self.at_variables self.touched.items self.all_touched c.deref-3.result.now moved literals e.ordered
    (λ l w. subst (λ t. Contains (marked t) l) c.deref-2.ensures.value (e.from_table l w))
    (λ k h some. subst (λ t. Contains literals (get_or t (get_or c.deref-3.result.now k 0) (pos 0))) c.deref-2.ensures.value (e.all k h (subst (λ t. 0 < variable_of (get_or t (get_or c.deref-3.result.now k 0) (pos 0))) (sym c.deref-2.ensures.value) some)))
