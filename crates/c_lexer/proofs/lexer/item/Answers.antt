use Rattle.std.proofs.Common.{length, sym, ◌∙◌}
use Rattle.c_lexer.proofs.ReadingLemmas.{goes_line, stuck_counted}
use Rattle.c_lexer.proofs.lexer.item.Goals as goal

pub returns-in-Ok-clause-goes : goal.returns-in-Ok-clause-goes
returns-in-Ok-clause-goes c =
    goes_line c.args.bytes.now c.args.at c.in-Ok.next c.args.defines.now c.line.new.defines c.args.tokens.now.items c.in-Ok.ensures.next (sym c.begins_directive.ensures ∙ c.if-begins_directive.true)
    c.in-Ok.ensures.takes

pub returns-in-Err-clause-stuck : goal.returns-in-Err-clause-stuck
returns-in-Err-clause-stuck c =
    stuck_counted c.args.bytes.now (record { at = c.args.at; defines = c.args.defines.now }) (length c.args.tokens.now.items) c.in-Err.fault c.in-Err.ensures.stuck
