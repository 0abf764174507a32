use Rattle.std.proofs.Common.{◌≡◌, All, true, false, [], refl, sym, ◌∙◌}
use Rattle.rvt_tree.specs.declared.types.Pointee.{Pointee}
use Rattle.twin_candidates.specs.Marks.{marked}
use Rattle.twin_candidates.proofs.Below.{all_step, all_fail, all_done, nil_of}
use Rattle.twin_candidates.proofs.functions.are_unmarked.Goals as goal

pub returns-then-is_marked : goal.returns-then-is_marked
returns-then-is_marked c =
    let Is : Pointee → Type 0 = λ pointee. marked c.args.marks.now pointee ≡ false in (
      λ no. absurd (let bad : false ≡ true = no in cc),
      λ whole. absurd (all_fail Is (All Is c.args.pointees.now) c.pointees.left.now c.in-Some.rest.now c.in-Some.first.now c.in-Some.ensures.cases.0
          (λ unmarked. absurd (let bad : true ≡ false = sym c.if-is_marked.true ∙ c.is_marked.ensures ∙ unmarked in cc)) c.pointees.invariant whole),
    )

pub pointees-preserved : goal.pointees-preserved
pointees-preserved c =
    let Is : Pointee → Type 0 = λ pointee. marked c.args.marks.now pointee ≡ false in
    all_step Is (All Is c.args.pointees.now) c.pointees.left.now c.in-Some.rest.now c.in-Some.first.now c.in-Some.ensures.cases.0
    (sym c.is_marked.ensures ∙ c.if-is_marked.false) c.pointees.invariant

pub returns : goal.returns
returns c =
    let Is : Pointee → Type 0 = λ pointee. marked c.args.marks.now pointee ≡ false in
    (λ _. all_done Is (All Is c.args.pointees.now) c.pointees.left.now [] (nil_of c.pointees.left.now c.in_default.ensures.cases) c.pointees.invariant, λ _. refl)
