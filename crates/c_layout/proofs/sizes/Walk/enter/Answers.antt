use Rattle.std.proofs.Common.{sym, inr, arith}
use Rattle.c_layout.specs.declared.sizes.Mark.TheVariants.{New, Open, Sized}
use Rattle.c_layout.proofs.Walks.{entered, entered_seen, opened_new, none_itself, read_mark}
use Rattle.c_layout.proofs.Lists.{set_new}
use Rattle.c_layout.proofs.sizes.Walk.enter.Goals as goal

pub returns-in-Open-clause-fault : goal.returns-in-Open-clause-fault
returns-in-Open-clause-fault c =
    let l = c.in-Some.ensures.lookup in
    let here = read_mark c.deref.result.now c.args.self.now.marks.items c.args.number c.in-Some.mark.now Open l.3.0 l.3.1 c.deref.ensures.value c.in-Open.is in
    none_itself c.args.structs.now c.args.self.now.marks.items c.args.self.now.frames.items c.requires.walk c.args.number c.requires.needed (inr here)

pub returns-in-Sized-clause-fault : goal.returns-in-Sized-clause-fault
returns-in-Sized-clause-fault c =
    let l = c.in-Some.ensures.lookup in
    absurd (c.requires.uncounted c.in-Sized.field-0 (read_mark c.deref.result.now c.args.self.now.marks.items c.args.number c.in-Some.mark.now (Sized c.in-Sized.field-0) l.3.0 l.3.1 c.deref.ensures.value c.in-Sized.is))

pub returns-clause-walk : goal.returns-clause-walk
returns-clause-walk c =
    let l = c.in-Some.ensures.lookup in
    let new = read_mark c.deref.result.now c.args.self.now.marks.items c.args.number c.in-Some.mark.now New l.3.0 l.3.1 c.deref.ensures.value c.in-New.is in
    rw c.in_ok-push.ensures.items
    (entered c.args.structs.now c.args.self.now.marks.items c.args.self.now.frames.items c.requires.walk c.args.number new c.in-Some-get.definition.now (sym c.in-Some-get.ensures.value) c.if-not-definition.false c.requires.needed)

pub returns-clause-less : goal.returns-clause-less
returns-clause-less c =
    let l = c.in-Some.ensures.lookup in
    let new = read_mark c.deref.result.now c.args.self.now.marks.items c.args.number c.in-Some.mark.now New l.3.0 l.3.1 c.deref.ensures.value c.in-New.is in
    let n = opened_new c.args.self.now.marks.items c.args.number new in
    omega (arith, n)

pub returns-clause-seen : goal.returns-clause-seen
returns-clause-seen c =
    let l = c.in-Some.ensures.lookup in
    let new = read_mark c.deref.result.now c.args.self.now.marks.items c.args.number c.in-Some.mark.now New l.3.0 l.3.1 c.deref.ensures.value c.in-New.is in
    entered_seen c.args.structs.now c.args.self.now.marks.items c.args.self.now.frames.items c.requires.walk c.args.number new

pub returns-clause-open : goal.returns-clause-open
returns-clause-open c =
    let l = c.in-Some.ensures.lookup in
    let new = read_mark c.deref.result.now c.args.self.now.marks.items c.args.number c.in-Some.mark.now New l.3.0 l.3.1 c.deref.ensures.value c.in-New.is in
    set_new c.args.self.now.marks.items c.args.number Open New new
