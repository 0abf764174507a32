use Rattle.std.proofs.Common.{inl, inr, get_or, sym, subst, arith}
use Rattle.std.proofs.lemmas.List.{take_all}
use Rattle.core_ir.specs.Calls.{Among}
use Rattle.touch_sets.proofs.Places.{among_more, at_read}
use Rattle.touch_sets.proofs.objects.past_all.Goals as goal

pub objects-preserved : goal.objects-preserved
objects-preserved c =
    let objects = c.args.objects.now in
    let i = c.objects.object-index in
    let x = get_or objects i 0 in
    let more = c.if-object-past.false in (
      omega (arith, c.objects.invariant.0, more),
      λ o a. elim ((among_more objects i o x (at_read objects i 0 c.objects-test.true)).0 a) [
        | inl earlier ↦ let b = c.objects.invariant.1 o earlier in omega (arith, b, more)
        | inr e ↦ omega (arith, e)
      ],
    )

pub objects-preserved-then-object-past : goal.objects-preserved-then-object-past
objects-preserved-then-object-past c =
    let objects = c.args.objects.now in
    let i = c.objects.object-index in
    let x = get_or objects i 0 in (
      c.objects.invariant.0,
      λ o a. elim ((among_more objects i o x (at_read objects i 0 c.objects-test.true)).0 a) [
        | inl earlier ↦ c.objects.invariant.1 o earlier
        | inr e ↦ omega (arith, e, c.if-object-past.true)
      ],
    )

pub returns-clause-objects : goal.returns-clause-objects
returns-clause-objects c o a = c.objects.invariant.1 o (subst (Among o) (sym (take_all c.objects.object-index c.args.objects.now c.objects-test.false)) a)
