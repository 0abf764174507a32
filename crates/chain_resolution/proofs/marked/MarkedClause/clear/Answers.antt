use Rattle.std.proofs.Common.{arith, ◌≡◌, ◌<◌, ◌-◌, ◌∙◌, take, get_or, ℕ, ap, sym, subst, length}
use Rattle.chain_resolution.specs.Marked.{marked, AreTouched}
use Rattle.chain_resolution.proofs.Tables.{none_from_without, touched_truncated, marked_of_none}
use Rattle.chain_resolution.proofs.marked.MarkedClause.clear.Goals as goal

pub invariant_of-self : goal.invariant_of-self
invariant_of-self c =
    let old = c.loop-self.self in
    let new = c.take_out.new.self in
    let place : ℕ = c.index-place.result.now in
    let nothing = none_from_without new.table.items new.at_variables (marked old.table.items) place c.take_out.ensures.without in
    let all : AreTouched new.table.items old.touched.items = subst (AreTouched new.table.items) (ap (λ v. v.items) c.take_out.ensures.touched) new.all_touched in
    let n : ℕ = c.len-in-loop-self.result in
    let long : n ≡ length old.touched.items = omega (arith, c.len-in-loop-self.ensures, old.touched.ok.0) in
    let some : 0 < n = omega (arith, long, c.loop-self-test.true, c.len.ensures, old.touched.ok.0) in
    let read : place ≡ get_or old.touched.items (n - 1) place = c.index-place.ensures in
    let same_touched : new.touched.items ≡ old.touched.items = ap (λ v. v.items) c.take_out.ensures.touched in
    let long_after : c.len-in-loop-self-2.result ≡ n = (let e = ap length same_touched in omega (arith, c.len-in-loop-self-2.ensures, new.touched.ok.0, e, long)) in
    let cut : c.truncate.new.self.items ≡ take (n - 1) old.touched.items = c.truncate.ensures.items ∙ ap (λ k. take (k - 1) new.touched.items) long_after ∙ ap (take (n - 1)) same_touched in
    record {
      at_variables = new.at_variables;
      all_touched = subst (AreTouched new.table.items) (sym cut) (touched_truncated new.table.items old.touched.items place n long some read all nothing);
      counted = new.counted;
    }

pub returns : goal.returns
returns c =
    let now = c.loop-self.self in
    marked_of_none now.table.items now.touched.items (omega (arith, c.loop-self-test.false, c.len.ensures, now.touched.ok.0)) now.at_variables now.all_touched
