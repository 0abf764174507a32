-- What the words of a call are.
use Rattle.std.specs.Prelude.{ℕ, List}
use Rattle.rvt_tree.specs.declared.programs.Local.{Local}
use Rattle.rvt_tree.specs.declared.programs.Program.{Program}
use Rattle.call_arguments.specs.declared.arguments.Arguments.{Arguments}
use Rattle.call_arguments.specs.declared.arguments.Arguments.TheVariants.{Values, Bad}
use Rattle.call_arguments.specs.Arguments.{AreArguments, IsFirstBad}

-- values for the parameters, or the first word that means none
abbrev pub AreFor : Program → List Local → List (List ℕ) → Arguments → Type 0
AreFor program params words (Values values) = AreArguments program params words values.items
AreFor program params words (Bad before) = IsFirstBad program params words before
