use Rattle.std.proofs.Common.{ℕ, Err, sym, subst}
use Rattle.c_lexer.specs.Lines.{ReadsLine}
use Rattle.c_lexer.specs.Spells.{Point, IfRefused, IsStuck, directive as stuck_directive}
use Rattle.c_lexer.specs.Stops.{IfWrong}
use Rattle.c_lexer.proofs.lexer.line.Goals as goal

pub returns-in-Err-Wrong-clause-stuck : goal.returns-in-Err-Wrong-clause-stuck
returns-in-Err-Wrong-clause-stuck c =
    let from : Point = record { at = c.args.at; defines = c.args.defines.now } in
    subst (IfRefused (λ place cause. (count : ℕ) → IsStuck c.args.bytes.now from count place cause)) (sym c.refused.ensures)
    (λ count. stuck_directive c.requires.begins c.in-Err-Wrong.wrong
    (subst (IfWrong (λ wrong. ReadsLine c.args.bytes.now c.args.defines.now c.args.at (Err wrong))) c.in-Err-Wrong.field-0-is c.in-Err-Wrong.ensures.wrong))
