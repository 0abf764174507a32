use Rattle.std.proofs.Common.{◌≡◌, ◌∙◌, ◌+◌, ◌-◌, ◌<◌, ◌≤◌, suc, ap, sym, subst, length, get_or, arith}
use Rattle.std.proofs.lemmas.List.{get_or_default}
use Rattle.rvt_num.specs.declared.values.Value.TheVariants as V
use Rattle.flat_memory.specs.Cells.{with_cleared}
use Rattle.flat_memory.proofs.Cleared.{cleared_step, cleared_past, cleared_nothing}
use Rattle.flat_memory.proofs.ranges.clear.Goals as goal

pub cells-preserved : goal.cells-preserved
cells-preserved c =
    let inside : c.cells.at < length c.cells.cells = subst (λ n. c.cells.at < n) c.length.ensures c.if-at-length.true in
    let read : c.get-cell.result ≡ get_or c.cells.cells c.cells.at c.get-cell.result = c.get-cell.ensures ∙ get_or_default c.cells.cells c.cells.at V.Null c.get-cell.result inside in
    let one_more : suc (c.cells.left - 1) ≡ c.cells.left = omega (arith, c.cells-test.true) in
    ap (with_cleared (c.cells.at + 1) (c.cells.left - 1)) c.set.ensures
    ∙ cleared_step c.cells.cells c.cells.at c.cells.left (c.cells.left - 1) c.get-cell.result c.cleared.result inside read c.cleared.ensures one_more
    ∙ c.cells.invariant

pub returns-else-at-length : goal.returns-else-at-length
returns-else-at-length c =
    let past : length c.cells.cells ≤ c.cells.at = subst (λ n. n ≤ c.cells.at) c.length.ensures c.if-at-length.false in
    sym (cleared_past c.cells.at c.cells.left c.cells.cells past) ∙ c.cells.invariant

pub returns-after-cells : goal.returns-after-cells
returns-after-cells c =
    let none : c.cells.left ≡ 0 = omega (arith, c.cells-test.false) in
    sym (cleared_nothing c.cells.at c.cells.left c.cells.cells none) ∙ c.cells.invariant
