use Rattle.std.proofs.Common.{◌≡◌, List, subst, sym}
use Rattle.std.specs.Prelude.{IfNone}
use Rattle.rvt_num.specs.declared.values.Value.{Value}
use Rattle.rvt_tree.specs.declared.programs.Object.{Object}
use Rattle.rvt_tree.specs.declared.types.CType.{CType}
use Rattle.call_arguments.specs.Arguments.{IsArgument, IsPointer}
use Rattle.call_arguments.proofs.arguments.argument_value.Goals as goal

pub returns-in-Pointer-clause-none : goal.returns-in-Pointer-clause-none
returns-in-Pointer-clause-none c =
    subst (λ (ty : CType). IfNone c.pointer_argument.result ((value : Value) → IsArgument c.args.program.now ty c.args.word.now value → ⊥)) (sym c.in-Pointer.is)
    (subst (λ (objects : List Object). IfNone c.pointer_argument.result ((value : Value) → IsPointer objects c.in-Pointer.to_constant c.args.word.now value → ⊥)) c.as_slice.ensures c.pointer_argument.ensures.none)
