use Rattle.std.proofs.Common.{◌≡◌, ◌+◌, ◌-◌, ◌≤◌, length, take, drop, fold, sym, ◌∙◌, ap, subst, arith}
use Rattle.std.proofs.lemmas.List.{length-take, length-drop, take_all}
use Rattle.c_lexer.specs.Places.{place_after}
use Rattle.c_lexer.proofs.PlaceLemmas.{room_behind}
use Rattle.c_lexer.proofs.ReadingLemmas.{Stands, stands_start, stands_step, reads_end, reads_only, fault_none, fault_refused, fault_only}
use Rattle.c_lexer.proofs.lexer.lex.Goals as goal

pub items-init : goal.items-init
items-init c = stands_start c.args.bytes.now c.new-defines.result c.new-tokens.result.items c.new-defines.ensures c.new-tokens.ensures.items

pub after-spot-requires-clause-line : goal.after-spot-requires-clause-line
after-spot-requires-clause-line c =
    let bytes = c.args.bytes.now in
    let at = c.items.at in
    let cut = length-take (c.in-Ok.next - at) (drop at bytes) in
    let left = length-drop at bytes in
    let room = room_behind bytes (take (c.in-Ok.next - at) (drop at bytes)) at c.items.spot c.items.invariant.spotted c.items.invariant.within (omega (arith, cut, left)) in
    omega (arith, room.0)

pub after-spot-requires-clause-column : goal.after-spot-requires-clause-column
after-spot-requires-clause-column c =
    let bytes = c.args.bytes.now in
    let at = c.items.at in
    let cut = length-take (c.in-Ok.next - at) (drop at bytes) in
    let left = length-drop at bytes in
    let room = room_behind bytes (take (c.in-Ok.next - at) (drop at bytes)) at c.items.spot c.items.invariant.spotted c.items.invariant.within (omega (arith, cut, left)) in
    omega (arith, room.1)

pub items-preserved : goal.items-preserved
items-preserved c =
    let bytes = c.args.bytes.now in
    subst (λ spot. Stands bytes c.in-Ok.next spot c.item.new.defines c.item.new.tokens.items) (sym c.after-spot.ensures)
    (stands_step bytes c.items.at c.in-Ok.next c.items.spot c.items.defines c.item.new.defines c.items.tokens.items c.item.new.tokens.items c.items-test.true c.items.invariant c.in-Ok.ensures.goes
    c.in-Ok.ensures.further c.in-Ok.ensures.within c.in-Ok.ensures.bodies c.in-Ok.ensures.few c.in-Ok.ensures.stand)

pub returns-in-Err-clause-none : goal.returns-in-Err-clause-none
returns-in-Err-clause-none c =
    fault_none c.args.bytes.now (record { at = c.items.at; defines = c.items.defines }) c.items.tokens.items c.items-test.true c.items.invariant.reads c.in-Err.fault c.in-Err.ensures.stuck

pub returns-in-Err-clause-refused : goal.returns-in-Err-clause-refused
returns-in-Err-clause-refused c =
    fault_refused c.args.bytes.now (record { at = c.items.at; defines = c.items.defines }) c.items.tokens.items c.items-test.true c.items.invariant.few c.items.invariant.reads c.in-Err.fault
    c.in-Err.ensures.stuck

pub returns-clause-spelled : goal.returns-clause-spelled
returns-clause-spelled c =
    let last : c.items.at ≡ length c.args.bytes.now = omega (arith, c.items-test.false, c.items.invariant.within) in
    reads_end c.args.bytes.now (record { at = c.items.at; defines = c.items.defines }) c.items.tokens.items last c.items.invariant.reads

pub returns-clause-only : goal.returns-clause-only
returns-clause-only c others spells =
    reads_only c.args.bytes.now (record { at = c.items.at; defines = c.items.defines }) c.items.tokens.items others c.items-test.false c.items.invariant.reads spells

pub returns-clause-few : goal.returns-clause-few
returns-clause-few c = c.items.invariant.few

pub returns-clause-within : goal.returns-clause-within
returns-clause-within c = c.items.invariant.stand

pub returns-clause-last : goal.returns-clause-last
returns-clause-last c =
    ap (λ s. s.place) c.items.invariant.spotted ∙ ap place_after (take_all c.items.at c.args.bytes.now c.items-test.false)

pub returns-in-Err-clause-first : goal.returns-in-Err-clause-first
unfolding returns-in-Err-clause-refused
returns-in-Err-clause-first c = fault_only c.args.bytes.now c.in-Err.fault (returns-in-Err-clause-refused c)
