use Rattle.std.proofs.Common.{◌≡◌, ◌-◌, ◌∙◌, arith, ap, sym, subst, take}
use Rattle.c_layout.specs.declared.sizes.Mark.TheVariants.{New}
use Rattle.c_layout.specs.Sizes.{At, new_count, IsStuck}
use Rattle.c_layout.proofs.Steps.{same_length, ended, ended_within, ended_less, pushed_first, taken_first, stuck_like}
use Rattle.c_layout.proofs.Ends.{err_from}
use Rattle.c_layout.proofs.Walks.{left_seen, stuck}
use Rattle.c_layout.proofs.sizes.Walk.step.Goals as goal

pub returns-in_err-enter-in-Some-clause-fault : goal.returns-in_err-enter-in-Some-clause-fault
returns-in_err-enter-in-Some-clause-fault c =
    let fault = c.in_err-enter-in-Some.field-0.0 in
    let here = stuck c.args.structs.now c.count_on.new.self.marks.items c.count_on.new.self.frames.items c.count_on.ensures.walk c.in-Some.number c.in-Some.ensures.needed fault c.in_err-enter-in-Some.ensures.fault in
    err_from c.from_residual.result fault (IsStuck c.args.structs.now c.args.self.now.frames.items) c.from_residual.ensures.1
    (stuck_like c.args.structs.now c.args.self.now.frames.items c.count_on.new.self.frames.items c.count_on.ensures.numbers fault here)

pub index_mut-requires : goal.index_mut-requires
index_mut-requires c =
    let lt = ended_within c.args.structs.now c.count_on.new.self.marks.items c.count_on.new.self.frames.items c.count_on.ensures.walk c.len.result (omega (arith, c.len.ensures, c.count_on.new.self.frames.ok.0)) (let l = same_length c.args.self.now.frames.items c.count_on.new.self.frames.items c.count_on.ensures.numbers in omega (arith, l, c.requires.some)) c.index-frame.result.now c.index-frame.ensures c.in-None.ensures.counted in
    omega (arith, lt, c.count_on.new.self.marks.ok.0)

pub returns-in_ok-enter-in-Some-clause-first : goal.returns-in_ok-enter-in-Some-clause-first
returns-in_ok-enter-in-Some-clause-first c =
    pushed_first c.args.self.now.frames.items c.count_on.new.self.frames.items c.enter.new.self.frames.items _ c.requires.some c.count_on.ensures.numbers c.in_ok-enter-in-Some.ensures.entered

pub returns-in-None-clause-walk : goal.returns-in-None-clause-walk
returns-in-None-clause-walk c =
    let popped : c.pop.new.self.items ≡ take (c.len.result - 1) c.count_on.new.self.frames.items = c.pop.ensures.rest ∙ ap (λ n. take (n - 1) c.count_on.new.self.frames.items) (sym c.len.ensures) in
    rw popped (ended c.args.structs.now c.count_on.new.self.marks.items c.count_on.new.self.frames.items c.count_on.ensures.walk c.len.result (omega (arith, c.len.ensures, c.count_on.new.self.frames.ok.0)) (let l = same_length c.args.self.now.frames.items c.count_on.new.self.frames.items c.count_on.ensures.numbers in omega (arith, l, c.requires.some)) c.index-frame.result.now c.index-frame.ensures c.in-None.ensures.counted)

pub returns-in-None-clause-less : goal.returns-in-None-clause-less
returns-in-None-clause-less c =
    let popped : c.pop.new.self.items ≡ take (c.len.result - 1) c.count_on.new.self.frames.items = c.pop.ensures.rest ∙ ap (λ n. take (n - 1) c.count_on.new.self.frames.items) (sym c.len.ensures) in
    let less = ended_less c.args.structs.now c.count_on.new.self.marks.items c.count_on.new.self.frames.items c.count_on.ensures.walk c.len.result (omega (arith, c.len.ensures, c.count_on.new.self.frames.ok.0)) (let l = same_length c.args.self.now.frames.items c.count_on.new.self.frames.items c.count_on.ensures.numbers in omega (arith, l, c.requires.some)) c.index-frame.result.now c.index-frame.ensures c.in-None.ensures.counted in
    let l = same_length c.args.self.now.frames.items c.count_on.new.self.frames.items c.count_on.ensures.numbers in
    let n = ap new_count c.count_on.ensures.marks in
    rw popped (omega (arith, less, l, n))

pub returns-in-None-clause-seen : goal.returns-in-None-clause-seen
returns-in-None-clause-seen c n h =
    subst (λ ms. At ms n New) c.count_on.ensures.marks (left_seen c.count_on.new.self.marks.items c.index-frame.result.now.number c.index-frame.result.now.size n h)

pub returns-in-None-clause-first : goal.returns-in-None-clause-first
returns-in-None-clause-first c =
    taken_first c.args.self.now.frames.items c.count_on.new.self.frames.items c.pop.new.self.items _ c.count_on.ensures.numbers c.pop.ensures.rest
