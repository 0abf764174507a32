use Rattle.std.proofs.Common.{◌≡◌, fold, drop}
use Rattle.c_lexer.specs.declared.comments.Inside.TheVariants as inside
use Rattle.c_lexer.specs.Lines.{next_inside}
use Rattle.c_lexer.proofs.comments.leaves_comment_open.Given as goal

abbrev pub invariant-bytes : goal.invariant-bytes
invariant-bytes l = fold next_inside l.inside (drop l.byte-index l.line) ≡ fold next_inside inside.Text l.line
