use Rattle.std.proofs.Common.{pos, ap, ◌∙◌, arith, rules, not, Ok, bit_and, bit_or, bit_xor}
use Rattle.std.proofs.lemmas.Int.{ints, to_z_pos}
use Rattle.std.proofs.lemmas.Nat.{and_le_l, or_lt, xor_lt}
use Rattle.std.specs.Int.{w128}
use Rattle.rvt_num.proofs.Outcomes.{gives, equal_is, with_no_trap, quotient_is, remainder_is, shifted_left_fits, shifted_left_is, shifted_right_is}
use Rattle.rvt_num.specs.declared.kinds.Kind.TheVariants.{I32}
use Rattle.rvt_num.specs.Operations.{int_eq, truth}
use Rattle.rvt_num.specs.Wrapping.{wrapped}
use Rattle.c_cells.proofs.Exact.{divisor_there, unsigned_there, quotient_fits}
use Rattle.c_cells.proofs.wide.binary.Goals as goal

pub overflow_cast-pattern-in-Or : goal.overflow_cast-pattern-in-Or
overflow_cast-pattern-in-Or c = omega (arith, ints, or_lt 64 c.pattern-in-Or.result c.pattern-in-Or-2.result c.pattern-in-Or.ensures.within c.pattern-in-Or-2.ensures.within)

pub returns-in-Add : goal.returns-in-Add
returns-in-Add c = rw c.in-Add.is (ap Ok (gives _ _ _ _ _ c.wrapped.ensures c.kind-kind.ensures (omega (arith, ints))))

pub returns-in-Sub : goal.returns-in-Sub
returns-in-Sub c = rw c.in-Sub.is (ap Ok (gives _ _ _ _ _ c.wrapped-in-Sub.ensures c.kind-kind.ensures (omega (arith, ints))))

pub returns-in_ok-division_traps-in-Div : goal.returns-in_ok-division_traps-in-Div
returns-in_ok-division_traps-in-Div c =
    let x = c.value-x.ensures in
    let y = c.value-y.ensures in
    rw c.in-Div.is (with_no_trap _ _ _ c.in_ok-division_traps-in-Div.ensures.ok
    (gives _ _ _ _ _ c.wrapped-in-Div.ensures c.kind-kind.ensures (quotient_is _ _ _ _ x.low x.high y.low y.high x.value y.value)))

pub returns-in_ok-division_traps-in-Rem : goal.returns-in_ok-division_traps-in-Rem
returns-in_ok-division_traps-in-Rem c =
    let x = c.value-x.ensures in
    let y = c.value-y.ensures in
    rw c.in-Rem.is (with_no_trap _ _ _ c.in_ok-division_traps-in-Rem.ensures.ok
    (gives _ _ _ _ _ c.wrapped-in-Rem.ensures c.kind-kind.ensures (remainder_is _ _ _ _ x.low x.high y.low y.high x.value y.value)))

pub returns-in_ok-count-in-Shl : goal.returns-in_ok-count-in-Shl
returns-in_ok-count-in-Shl c =
    let x = c.value-x.ensures in
    let y = c.value-y.ensures in
    let count = c.in_ok-count-in-Shl.ensures.ok in
    rw c.in-Shl.is (with_no_trap _ _ _ count.0
    (gives _ _ _ _ _ c.wrapped-in-Shl.ensures c.kind-kind.ensures (shifted_left_is _ _ _ _ x.low x.high y.low y.high x.value y.value _ _ count.1 count.2)))

pub returns-in_ok-count-in-Shr : goal.returns-in_ok-count-in-Shr
returns-in_ok-count-in-Shr c =
    let x = c.value-x.ensures in
    let y = c.value-y.ensures in
    let count = c.in_ok-count-in-Shr.ensures.ok in
    rw c.in-Shr.is (with_no_trap _ _ _ count.0
    (gives _ _ _ _ _ c.wrapped-in-Shr.ensures c.kind-kind.ensures (shifted_right_is _ _ _ _ x.low x.high y.low y.high x.value y.value _ _ count.1)))

pub returns-in-And : goal.returns-in-And
returns-in-And c =
    let p = c.pattern.ensures in
    let q = c.pattern-in-And.ensures in
    let small = and_le_l c.pattern.result c.pattern-in-And.result in
    rw c.in-And.is (ap Ok (gives _ _ _ _ _ c.wrapped-in-And.ensures c.kind-kind.ensures
    (to_z_pos w128 _ (omega arith) ∙ (λ i. pos (bit_and (p.value i) (q.value i))))))

pub returns-in-Or : goal.returns-in-Or
returns-in-Or c =
    let p = c.pattern-in-Or.ensures in
    let q = c.pattern-in-Or-2.ensures in
    let small = or_lt 64 _ _ p.within q.within in
    rw c.in-Or.is (ap Ok (gives _ _ _ _ _ c.wrapped-in-Or.ensures c.kind-kind.ensures
    (to_z_pos w128 _ (omega arith) ∙ (λ i. pos (bit_or (p.value i) (q.value i))))))

pub overflow_mul-x : goal.overflow_mul-x
overflow_mul-x c =
    let x = c.value-x.ensures in
    let y = c.value-y.ensures in
    shifted_left_fits _ _ _ _ x.low x.high y.low y.high x.value y.value _ c.in_ok-count-in-Shl.ensures.ok.2

pub nonzero_div-x : goal.nonzero_div-x
nonzero_div-x c =
    let there = divisor_there c.args.a c.args.b.kind c.args.b.value c.in_ok-division_traps-in-Div.ensures.ok in
    let x = c.value-x.ensures in
    let y = c.value-y.ensures in
    (unsigned_there c.value-y.result c.args.b.value y.value y.low there, quotient_fits c.value-x.result c.value-y.result x.low x.high y.low y.high)

pub nonzero_rem-x : goal.nonzero_rem-x
nonzero_rem-x c =
    let there = divisor_there c.args.a c.args.b.kind c.args.b.value c.in_ok-division_traps-in-Rem.ensures.ok in
    let x = c.value-x.ensures in
    let y = c.value-y.ensures in
    (unsigned_there c.value-y.result c.args.b.value y.value y.low there, quotient_fits c.value-x.result c.value-y.result x.low x.high y.low y.high)

pub returns-in-Xor : goal.returns-in-Xor
returns-in-Xor c =
    let p = c.pattern-in-Xor.ensures in
    let q = c.pattern-in-Xor-2.ensures in
    let small = xor_lt 64 _ _ p.within q.within in
    rw c.in-Xor.is (ap Ok (gives _ _ _ _ _ c.wrapped-in-Xor.ensures c.kind-kind.ensures
    (to_z_pos w128 _ (omega arith) ∙ (λ i. pos (bit_xor (p.value i) (q.value i))))))

pub returns-in-Eq : goal.returns-in-Eq
returns-in-Eq c =
    let x = c.value-x.ensures in
    let y = c.value-y.ensures in
    let same = equal_is c.value-x.result c.value-y.result (search rules) (search rules) ∙ (λ i. int_eq (x.value i) (y.value i)) in
    rw c.in-Eq.is (ap Ok (c.truth_number.ensures ∙ ap (λ b. wrapped I32 (truth b)) same))

pub returns-in-Ne : goal.returns-in-Ne
returns-in-Ne c =
    let x = c.value-x.ensures in
    let y = c.value-y.ensures in
    let same = equal_is c.value-x.result c.value-y.result (search rules) (search rules) ∙ (λ i. int_eq (x.value i) (y.value i)) in
    rw c.in-Ne.is (ap Ok (c.truth_number-in-Ne.ensures ∙ ap (λ b. wrapped I32 (truth (not b))) same))
