-- What a directive that isn't taken says.
use Rattle.c_lexer.specs.declared.faults.Wrong.{Wrong}
use Rattle.c_lexer.specs.declared.lines.Stop.{Stop}
use Rattle.c_lexer.specs.declared.lines.Stop.TheVariants as stop

-- the directive is wrong, in this way; nothing is said where there was no memory
abbrev pub IfWrong : (Wrong → Type 0) → Stop → Type 0
IfWrong Says (stop.Wrong wrong) = Says wrong
IfWrong Says stop.Memory = Unit {0}
