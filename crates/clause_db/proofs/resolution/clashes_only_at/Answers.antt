use Rattle.std.proofs.Common.{rules, arith, ℕ, ◌+◌, List, ℤ, pos, ◌≡◌, w64, ap, sym, ◌∙◌, get_or, inl, inr, subst}
use Rattle.std.proofs.lemmas.Int.{to_z-of_z}
use mir.Val.{SFits, to_z, of_z}
use Rattle.clause_db.specs.Literal.{variable_of}
use Rattle.clause_db.specs.Resolution.{ClashesAt}
use Rattle.clause_db.proofs.Ordered.{variable_at}
use Rattle.clause_db.proofs.Clash.{passed-lower, above-lower, above-greater, above-same, passed-equal, passed-pivot, clashes_at_places, answer_at_end, Passed}
use Rattle.clause_db.proofs.resolution.clashes_only_at.Goals as goal
use Rattle.clause_db.proofs.resolution.clashes_only_at.Goals.{then-a-i+else-x-pivot, else-a-i}

-- what the code reads of a literal
as_read : (clause : List ℤ) (k x : ℕ) → SFits w64 (get_or clause k (pos 0)) → x ≡ variable_of (to_z w64 (of_z w64 (get_or clause k (pos 0)))) → x ≡ variable_at clause k
as_read clause k x fits e = e ∙ ap variable_of (to_z-of_z w64 _ fits)

pub loop-i-preserved-then-x-y : goal.loop-i-preserved-then-x-y
loop-i-preserved-then-x-y c =
    let x = as_read c.args.a.now c.loop-i.i c.variable-x.result (search rules) c.variable-x.ensures in
    let y = as_read c.args.b.now c.loop-i.j c.variable-y.result (search rules) c.variable-y.ensures in
    let i = c.loop-i.invariant in
    record {
      first_within = omega arith;
      second_within = i.second_within;
      passed = passed-lower c.args.a.now c.args.b.now c.requires.first_ordered c.requires.second_ordered c.args.pivot c.loop-i.i c.loop-i.j c.loop-i-test.true c.if-j-b.true c.loop-i.found i.passed i.above (omega (arith, x, y, c.if-x-y.true));
      above = above-lower c.args.a.now c.args.b.now c.requires.first_ordered c.requires.second_ordered c.args.pivot c.loop-i.i c.loop-i.j c.loop-i-test.true c.if-j-b.true i.above;
      witness = i.witness;
    }

pub loop-i-preserved-then-y-x : goal.loop-i-preserved-then-y-x
loop-i-preserved-then-y-x c =
    let x = as_read c.args.a.now c.loop-i.i c.variable-x.result (search rules) c.variable-x.ensures in
    let y = as_read c.args.b.now c.loop-i.j c.variable-y.result (search rules) c.variable-y.ensures in
    let i = c.loop-i.invariant in
    record {
      first_within = i.first_within;
      second_within = omega arith;
      passed = i.passed;
      above = above-greater c.args.a.now c.args.b.now c.requires.first_ordered c.requires.second_ordered c.args.pivot c.loop-i.i c.loop-i.j c.loop-i-test.true c.if-j-b.true i.above (omega (arith, x, y, c.if-y-x.true));
      witness = i.witness;
    }

pub returns-then-x-pivot : goal.returns-then-x-pivot
returns-then-x-pivot c =
    let x = as_read c.args.a.now c.loop-i.i c.variable-x.result (search rules) c.variable-x.ensures in
    let y = as_read c.args.b.now c.loop-i.j c.variable-y.result (search rules) c.variable-y.ensures in (
      λ e. cc,
      λ only. absurd (c.if-x-pivot.true (x ∙ only.nowhere_else _ (clashes_at_places c.args.a.now c.args.b.now c.loop-i.i c.loop-i.j c.loop-i-test.true c.if-j-b.true (omega (arith, x, y, c.if-x-y.false, c.if-y-x.false)) (λ e. c.if-a-i.true (ap (of_z w64) e))))),
    )

pub loop-i-preserved : goal.loop-i-preserved
loop-i-preserved c =
    let a = c.args.a.now in
    let b = c.args.b.now in
    let fits_a : SFits w64 (get_or a c.loop-i.i (pos 0)) = search rules in
    let fits_b : SFits w64 (get_or b c.loop-i.j (pos 0)) = search rules in
    let x = as_read a c.loop-i.i c.variable-x.result fits_a c.variable-x.ensures in
    let y = as_read b c.loop-i.j c.variable-y.result fits_b c.variable-y.ensures in
    let i = c.loop-i.invariant in
    let same : variable_at a c.loop-i.i ≡ variable_at b c.loop-i.j = omega (arith, x, y, c.if-x-y.false, c.if-y-x.false) in
    let above = above-same a b c.requires.first_ordered c.requires.second_ordered c.args.pivot c.loop-i.i c.loop-i.j c.loop-i-test.true c.if-j-b.true i.above (sym same) in
    elim c.if-a-i.branch [
      | then-a-i+else-x-pivot w ↦
          let at_pivot : variable_at a c.loop-i.i ≡ c.args.pivot = sym x ∙ w.if-x-pivot.false in
          let clash = clashes_at_places a b c.loop-i.i c.loop-i.j c.loop-i-test.true c.if-j-b.true same (λ e. w.if-a-i.true (ap (of_z w64) e)) in
          record {
            first_within = omega arith;
            second_within = omega arith;
            passed = subst (λ f. Passed a b c.args.pivot f (c.loop-i.i + 1)) (sym w.found-is) (passed-pivot a b c.requires.first_ordered c.requires.second_ordered c.args.pivot c.loop-i.i c.loop-i.j c.loop-i-test.true c.if-j-b.true c.loop-i.found i.passed at_pivot);
            above = above;
            witness = λ _. subst (λ v. ClashesAt v a b) at_pivot clash;
          }
      | else-a-i w ↦
          let equal : get_or a c.loop-i.i (pos 0) ≡ get_or b c.loop-i.j (pos 0) = sym (to_z-of_z w64 _ fits_a) ∙ ap (to_z w64) w.if-a-i.false ∙ to_z-of_z w64 _ fits_b in
          record {
            first_within = omega arith;
            second_within = omega arith;
            passed = subst (λ f. Passed a b c.args.pivot f (c.loop-i.i + 1)) (sym w.found-is) (passed-equal a b c.requires.first_ordered c.requires.second_ordered c.args.pivot c.loop-i.i c.loop-i.j c.loop-i-test.true c.if-j-b.true c.loop-i.found c.requires.first_in_range i.passed equal);
            above = above;
            witness = λ e. i.witness (sym w.found-is ∙ e);
          }
    ]

pub returns-else-j-b : goal.returns-else-j-b
returns-else-j-b c = answer_at_end c.args.a.now c.args.b.now c.args.pivot c.loop-i.found c.loop-i.i c.loop-i.j c.loop-i.invariant.passed c.loop-i.invariant.above (inr (omega arith)) c.loop-i.invariant.witness

pub returns-after-loop-i : goal.returns-after-loop-i
returns-after-loop-i c = answer_at_end c.args.a.now c.args.b.now c.args.pivot c.loop-i.found c.loop-i.i c.loop-i.j c.loop-i.invariant.passed c.loop-i.invariant.above (inl (omega arith)) c.loop-i.invariant.witness
