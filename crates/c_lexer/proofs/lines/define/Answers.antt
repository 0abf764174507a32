use Rattle.std.proofs.Common.{◌∙◌, sym, ap}
use Rattle.c_lexer.specs.Defines.{defined_as}
use Rattle.c_lexer.specs.Pieces.{piece_text}
use Rattle.c_lexer.proofs.LineLemmas.{found_stands}
use Rattle.c_lexer.proofs.lines.define.Goals as goal

pub define_as-requires-clause-old : goal.define_as-requires-clause-old
define_as-requires-clause-old c = found_stands c.args.bytes.now c.piece_text.result.now c.args.defines.now c.requires.bodies c.body.result c.body.ensures
