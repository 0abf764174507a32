use Rattle.std.proofs.Common.{◌≡◌, ◌+◌, ℕ, List, get_or, take, true, false, refl, subst, sym, ◌∙◌}
use Rattle.std.proofs.lemmas.List.{take_all}
use Rattle.c_meaning.specs.Interfaces.{StandsIn}
use Rattle.loop_interfaces.specs.NameOrder.{AreOthers}
use Rattle.loop_interfaces.proofs.Standing.{left_out, taken_over}
use Rattle.loop_interfaces.proofs.interfaces.others.Goals as goal

pub loop-number-preserved-then-is_among : goal.loop-number-preserved-then-is_among
loop-number-preserved-then-is_among c =
    let numbers = c.args.numbers.now in
    let i = c.loop-number.number-index in
    left_out numbers c.args.rising.now c.loop-number.others.items i (get_or numbers i 0) c.loop-number-test.true refl (c.is_among.ensures.0 c.if-is_among.true) c.loop-number.invariant

pub loop-number-preserved : goal.loop-number-preserved
loop-number-preserved c =
    let numbers = c.args.numbers.now in
    let i = c.loop-number.number-index in
    let apart : StandsIn (get_or numbers i 0) c.args.rising.now → ⊥ = λ stands. let no : true ≡ false = sym (c.is_among.ensures.1 stands) ∙ c.if-is_among.false in cc in
    subst (λ (l : List ℕ). AreOthers l (take (i + 1) numbers) c.args.rising.now) (sym c.in_ok-push.ensures.items)
    (taken_over numbers c.args.rising.now c.loop-number.others.items i (get_or numbers i 0) c.loop-number-test.true refl apart c.loop-number.invariant)

pub returns : goal.returns
returns c =
    subst (λ (l : List ℕ). AreOthers c.loop-number.others.items l c.args.rising.now) (take_all c.loop-number.number-index c.args.numbers.now c.loop-number-test.false) c.loop-number.invariant
