use Rattle.std.proofs.Common.{sym, ◌∙◌, arith, length, take, drop, ◌-◌}
use Rattle.std.proofs.lemmas.List.{length-drop, length-take}
use Rattle.c_lexer.proofs.StartLemmas.{begins_some}
use Rattle.c_lexer.proofs.starts.comment_length.Goals as goal

pub returns-then-begins_byte-clause-within : goal.returns-then-begins_byte-clause-within
returns-then-begins_byte-clause-within c =
    let rest = c.bytes.rest.now in
    let some = begins_some 47 (take (length rest - 1) (drop 1 rest)) (sym c.begins_byte.ensures ∙ c.if-begins_byte.true) in
    let left = length-drop 1 rest in
    let cut = length-take (length rest - 1) (drop 1 rest) in
    omega (arith, some, left, cut, c.bytes.invariant.1)
