-- What is proved of the definitions.
use Rattle.std.specs.Prelude.{◌≡◌, ℕ, List}
use Rattle.rvt_num.specs.declared.values.Value.{Value}
use Rattle.rvt_tree.specs.declared.types.CType.{CType}
use Rattle.rvt_tree.specs.declared.programs.Program.{Program}
use Rattle.call_arguments.specs.Arguments.{IsArgument}

-- a word means one value at most
abbrev pub OneValue : Type 0
OneValue = (program : Program) (ty : CType) (word : List ℕ) (a b : Value) → IsArgument program ty word a → IsArgument program ty word b → a ≡ b
