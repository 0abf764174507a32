use Rattle.std.proofs.Common.{◌≡◌, ◌+◌, ◌-◌, ◌≤◌, length, take, drop, fold, sym, ◌∙◌, ap, subst, arith}
use Rattle.std.proofs.lemmas.List.{take_rest, length-drop, length-take}
use Rattle.c_lexer.specs.declared.faults.Fault.TheVariants as fault
use Rattle.c_lexer.specs.Places.{after_byte, spot_after}
use Rattle.c_lexer.proofs.PlaceLemmas.{spot_further, room_behind}
use Rattle.c_lexer.proofs.lexer.refused.Goals as goal

pub after-there-requires-clause-line : goal.after-there-requires-clause-line
after-there-requires-clause-line c =
    let bytes = c.args.bytes.now in
    let at = c.args.at in
    let cut = length-take c.args.wrong.offset (take (length bytes - at) (drop at bytes)) in
    let shown = length-take (length bytes - at) (drop at bytes) in
    let left = length-drop at bytes in
    let room = room_behind bytes c.front.result.now at c.args.spot c.requires.spot c.requires.within (omega (arith, ap length c.front.ensures, cut, shown, left)) in
    omega (arith, room.0)

pub after-there-requires-clause-column : goal.after-there-requires-clause-column
after-there-requires-clause-column c =
    let bytes = c.args.bytes.now in
    let at = c.args.at in
    let cut = length-take c.args.wrong.offset (take (length bytes - at) (drop at bytes)) in
    let shown = length-take (length bytes - at) (drop at bytes) in
    let left = length-drop at bytes in
    let room = room_behind bytes c.front.result.now at c.args.spot c.requires.spot c.requires.within (omega (arith, ap length c.front.ensures, cut, shown, left)) in
    omega (arith, room.1)

pub returns : goal.returns
returns c =
    let bytes = c.args.bytes.now in
    let at = c.args.at in
    let offset = c.args.wrong.offset in
    let text = c.front.ensures ∙ ap (take offset) (take_rest bytes at) in
    let there = c.after-there.ensures ∙ ap (λ s. fold after_byte s c.front.result.now) c.requires.spot ∙ ap (fold after_byte (spot_after (take at bytes))) text ∙ spot_further bytes at offset in
    ap (λ s. fault.Refused s.place c.args.wrong.cause) there
