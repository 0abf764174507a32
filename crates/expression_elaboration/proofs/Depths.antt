-- What is left of a list is no deeper than the list.
use Rattle.std.proofs.Common.{◌≡◌, ◌≤◌, ◌∙◌, Option, Box, ap, arith}
use Rattle.std.specs.declared.alloc.Global.{Global}
use Rattle.rvt_tree.specs.declared.places.Place.{Place}
use Rattle.c_syntax.specs.declared.bases.Base.{Base}
use Rattle.c_syntax.specs.declared.bases.Pointer.{Pointer}
use Rattle.c_syntax.specs.declared.expressions.Expr.{Expr}
use Rattle.c_syntax.specs.declared.expressions.Exprs.{Exprs, size-Exprs}
use Rattle.c_syntax.specs.declared.expressions.Exprs.TheVariants as Es
use Rattle.c_syntax.specs.declared.expressions.Casts.{Casts, size-Casts}
use Rattle.c_syntax.specs.declared.expressions.Casts.TheVariants as Cs
use Rattle.c_syntax.specs.declared.expressions.Dim.{Dim}
use Rattle.c_syntax.specs.declared.expressions.Dims.{Dims, size-Dims}
use Rattle.c_syntax.specs.declared.expressions.Dims.TheVariants as Ds
use Rattle.c_syntax.specs.declared.expressions.Casts.TheViews as V

pub exprs_no_deeper : (list : Exprs) (e : Expr) (rest : Box Exprs Global) → list ≡ Es.More e rest → size-Exprs rest.value ≤ size-Exprs list
exprs_no_deeper list e rest is = let same : size-Exprs list ≡ size-Exprs (Es.More e rest) = ap size-Exprs is in omega (arith, same ∙ V.deep-Exprs::More' e _ rest.value)

pub casts_no_deeper : (list : Casts) (at : Place) (base : Base) (pointer : Option Pointer) (dims : Dims) (rest : Box Casts Global)
    → list ≡ Cs.More at base pointer dims rest → size-Casts rest.value ≤ size-Casts list
casts_no_deeper list at base pointer dims rest is =
    let same : size-Casts list ≡ size-Casts (Cs.More at base pointer dims rest) = ap size-Casts is in omega (arith, same ∙ V.deep-Casts::More' at base pointer dims _ rest.value)

pub dims_no_deeper : (list : Dims) (d : Dim) (rest : Box Dims Global) → list ≡ Ds.More d rest → size-Dims rest.value ≤ size-Dims list
dims_no_deeper list d rest is = let same : size-Dims list ≡ size-Dims (Ds.More d rest) = ap size-Dims is in omega (arith, same ∙ V.deep-Dims::More' d _ rest.value)
