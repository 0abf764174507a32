-- What is cast is not deeper than the cast.
use Rattle.std.proofs.Common.{◌≡◌, ◌≤◌, ◌∙◌, Box, ap, arith}
use Rattle.std.specs.declared.alloc.Global.{Global}
use Rattle.rvt_num.specs.declared.kinds.Kind.{Kind}
use Rattle.rvt_tree.specs.declared.expressions.Expr.{Expr, Cast, size-Expr}
use Rattle.rvt_tree.specs.declared.expressions.Expr.TheViews as V

pub cast_no_deeper : (e : Expr) (kind : Kind) (operand : Box Expr Global) → e ≡ Cast kind operand → size-Expr operand.value ≤ size-Expr e
cast_no_deeper e kind operand is = let same : size-Expr e ≡ size-Expr (Cast kind operand) = ap size-Expr is in omega (arith, same ∙ V.deep-Cast' kind _ operand.value)
