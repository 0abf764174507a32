-- Short ways to write typed trees.
use Rattle.std.proofs.Common.{ℕ, List, [], ◌∷◌, Option, false, pos}
use Rattle.rvt_num.specs.Number.{Number}
use Rattle.rvt_num.specs.declared.kinds.Kind.{Kind}
use Rattle.rvt_num.specs.declared.kinds.Kind.TheVariants.{I32}
use Rattle.rvt_num.specs.declared.values.Value.{Value}
use Rattle.rvt_num.specs.declared.values.Value.TheVariants.{Num}
use Rattle.rvt_tree.specs.declared.expressions.Variable.TheVariants as V
use Rattle.rvt_tree.specs.Syntax as t
use Rattle.c_types.specs.Layout.{AWord}
use Rattle.file_typing.specs.Programs.{LocalView}
use Rattle.file_typing.specs.Statements.{statements_of}

abbrev pub int_number : ℕ → Number
int_number n = record { kind = I32; value = pos n }

abbrev pub number : ℕ → t.Expression
number n = t.constant (int_number n)

abbrev pub local_place : ℕ → t.LvalueExpression
local_place n = t.identifier (V.Local n)

abbrev pub object_place : ℕ → t.LvalueExpression
object_place n = t.identifier (V.Object n)

abbrev pub read : ℕ → t.Expression
read n = t.value_at (local_place n)

abbrev pub arguments : List t.Expression → t.Arguments
arguments [] = t.no_arguments
arguments (e ∷ rest) = t.argument e (arguments rest)

abbrev pub block : List t.Statement → t.Statement
block list = t.compound (statements_of list)

abbrev pub an_int_local : List ℕ → Option ℕ → LocalView
an_int_local name object = record { name = name; shape = AWord I32; constant = false; object = object }

abbrev pub value : Kind → ℕ → Value
value kind n = Num (record { kind = kind; value = pos n })

abbrev pub zero : Kind → Value
zero kind = value kind 0
