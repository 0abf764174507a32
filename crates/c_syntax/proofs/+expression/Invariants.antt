use Rattle.std.proofs.Common.{◌≤◌}
use Rattle.c_syntax.specs.declared.expressions.Exprs.{size-Exprs}
use Rattle.c_syntax.specs.declared.expressions.Suffixes.{size-Suffixes}
use Rattle.c_syntax.specs.declared.expressions.Casts.{size-Casts}
use Rattle.c_syntax.specs.declared.expressions.Dims.{size-Dims}
use Rattle.c_syntax.proofs.+expression.Given as goal

-- what is left to drop is no deeper than the whole
abbrev pub invariant-expressions::Exprs::drop-loop-self : goal.invariant-expressions::Exprs::drop-loop-self
invariant-expressions::Exprs::drop-loop-self l = size-Exprs l.self ≤ size-Exprs l.initial.self

abbrev pub invariant-expressions::Suffixes::drop-loop-self : goal.invariant-expressions::Suffixes::drop-loop-self
invariant-expressions::Suffixes::drop-loop-self l = size-Suffixes l.self ≤ size-Suffixes l.initial.self

abbrev pub invariant-expressions::Casts::drop-loop-self : goal.invariant-expressions::Casts::drop-loop-self
invariant-expressions::Casts::drop-loop-self l = size-Casts l.self ≤ size-Casts l.initial.self

abbrev pub invariant-expressions::Dims::drop-loop-self : goal.invariant-expressions::Dims::drop-loop-self
invariant-expressions::Dims::drop-loop-self l = size-Dims l.self ≤ size-Dims l.initial.self
