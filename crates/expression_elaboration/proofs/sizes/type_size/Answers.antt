use Rattle.std.proofs.Common.{subst, sym, ap, refl, false, Some}
use Rattle.rvt_num.specs.declared.kinds.Kind.TheVariants.{I32}
use Rattle.rvt_tree.specs.declared.types.Pointee.TheVariants as P
use Rattle.c_types.specs.Layout.{shape_of, APointer}
use Rattle.typing_base.specs.Follows.{GivesOperand}
use Rattle.typing_base.specs.Views.{named_view, structures_view}
use Rattle.expression_typing.specs.SizeofOperator.{as_pointer}
use Rattle.expression_elaboration.proofs.Caps.{type_size_of}
use Rattle.expression_elaboration.proofs.sizes.type_size.Goals as goal

pub returns-in-Type : goal.returns-in-Type
returns-in-Type c = subst (λ r. GivesOperand r c.size_of_elements.result)
    (sym (type_size_of (structures_view c.args.structs.now) c.args.at c.args.lengths.now (named_view c.args.named.now) (shape_of c.in-Type.ty) c.cells_of.result c.kind_within.result
    (ap (λ n. as_pointer (named_view n)) c.in-Type.is) c.cells_of.ensures c.kind_within.ensures))
    c.size_of_elements.ensures

pub returns-in-PointerElsewhere : goal.returns-in-PointerElsewhere
returns-in-PointerElsewhere c = subst (λ r. GivesOperand r c.size_of_elements-in-PointerElsewhere.result)
    (sym (type_size_of (structures_view c.args.structs.now) c.args.at c.args.lengths.now (named_view c.args.named.now) (APointer (P.Word I32) false) (Some 1) _
    (ap (λ n. as_pointer (named_view n)) c.in-PointerElsewhere.is) refl refl))
    c.size_of_elements-in-PointerElsewhere.ensures
