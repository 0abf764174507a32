use Rattle.std.proofs.Common.{◌≡◌, ◌+◌, ◌++◌, ◌-◌, length, map, take, drop, sym, ◌∙◌, ap, subst}
use Rattle.std.specs.Prelude.{All}
use Rattle.std.proofs.lemmas.List.{take_rest, length-map}
use Rattle.c_lexer.specs.Places.{place_after}
use Rattle.c_lexer.specs.Spells.{Point, IfRefused, IsStuck, given, stood, met_at}
use Rattle.c_lexer.specs.Starts.{StandsFirst, IsWrong}
use Rattle.c_lexer.specs.Texts.{StandsIn}
use Rattle.c_lexer.proofs.PieceLemmas.{first_stands}
use Rattle.c_lexer.proofs.ReadingLemmas.{goes_plain, steps_plain, stood_stand, more_stand, stuck_by_many, stuck_plain}
use Rattle.c_lexer.proofs.lexer.plain.Goals as goal

pub returns-in-Ok-put-clause-goes : goal.returns-in-Ok-put-clause-goes
returns-in-Ok-put-clause-goes c =
    let bytes = c.args.bytes.now in
    let first = c.in-Ok.first in
    goes_plain bytes c.args.at first.length first.class c.args.spot.place c.args.defines.now c.args.tokens.now.items c.put.new.tokens.items (ap (λ s. s.place) c.requires.spot) c.requires.begins
    (subst (λ text. StandsFirst text first.length first.class) (take_rest bytes c.args.at) c.in-Ok.ensures.stands) c.in-Ok-put.ensures.added

pub returns-in-Ok-put-clause-stand : goal.returns-in-Ok-put-clause-stand
returns-in-Ok-put-clause-stand c =
    let bytes = c.args.bytes.now in
    let at = c.args.at in
    let first = c.in-Ok.first in
    let ds = c.args.defines.now in
    let stands = subst (λ text. StandsFirst text first.length first.class) (take_rest bytes at) c.in-Ok.ensures.stands in
    let pieces = stood_stand bytes ds first.class at (at + first.length) c.requires.bodies (first_stands bytes at first.length first.class stands) in
    subst (All (StandsIn bytes)) (sym c.in-Ok-put.ensures.added)
    (more_stand bytes c.args.spot.place c.args.tokens.now.items (stood bytes ds first.class at (at + first.length)) c.requires.stand pieces)

pub returns-in-Err-put-clause-stuck : goal.returns-in-Err-put-clause-stuck
returns-in-Err-put-clause-stuck c =
    let bytes = c.args.bytes.now in
    let at = c.args.at in
    let first = c.in-Ok.first in
    let from : Point = record { at = at; defines = c.args.defines.now } in
    let stands = subst (λ text. StandsFirst text first.length first.class) (take_rest bytes at) c.in-Ok.ensures.stands in
    let pieces = stood bytes c.args.defines.now first.class at (at + first.length) in
    stuck_by_many bytes from (record { at = at + first.length; defines = c.args.defines.now }) (length c.args.tokens.now.items) (length pieces) c.args.spot.place (given bytes from first.class first.length)
    c.in-Err-put.fault (ap (λ s. s.place) c.requires.spot) (steps_plain bytes from first.length first.class c.requires.begins stands) (length-map pieces (met_at (place_after (take at bytes))))
    c.in-Err-put.ensures.many

pub returns-in-Err-clause-stuck : goal.returns-in-Err-clause-stuck
returns-in-Err-clause-stuck c =
    let bytes = c.args.bytes.now in
    let from : Point = record { at = c.args.at; defines = c.args.defines.now } in
    subst (IfRefused (IsStuck bytes from (length c.args.tokens.now.items))) (sym c.refused.ensures)
    (stuck_plain bytes from (length c.args.tokens.now.items) c.in-Err.wrong c.requires.begins (subst (λ text. IsWrong text c.in-Err.wrong) (take_rest bytes c.args.at) c.in-Err.ensures.wrong))
