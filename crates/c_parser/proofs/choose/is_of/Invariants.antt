use Rattle.std.proofs.Common.{◌≡◌, length}
use Rattle.c_parser.specs.Rules.{is_of}
use Rattle.c_parser.proofs.choose.is_of.Given as goal

abbrev pub invariant-loop-classes : goal.invariant-loop-classes
invariant-loop-classes g l = is_of g.G.Grammar.rules l.class l.classes ≡ is_of g.G.Grammar.rules l.class l.initial.classes

abbrev pub decreases-loop-classes : goal.decreases-loop-classes
decreases-loop-classes g l = length l.classes
