-- What stands for a variable: objects for some of the locals, and other numbers for the objects.
use Rattle.std.specs.Prelude.{ℕ, List, get_or, Option, Some, None}
use Rattle.rvt_tree.specs.declared.expressions.Variable.{Variable}
use Rattle.rvt_tree.specs.declared.expressions.Variable.TheVariants as V
use Rattle.renamed_trees.specs.declared.variables.Renaming.{Renaming}

abbrev pub object_or_local : Option ℕ → ℕ → Variable
object_or_local (Some object) number = V.Object object
object_or_local None number = V.Local number

-- a local is the object that stands for it, if one does; an object has the number that stands for its own, if one does
abbrev pub renamed_by : List (Option ℕ) → List ℕ → Variable → Variable
renamed_by locals objects (V.Local number) = object_or_local (get_or locals number None) number
renamed_by locals objects (V.Object number) = V.Object (get_or objects number number)

abbrev pub named : Renaming → Variable → Variable
named renaming = renamed_by renaming.locals.now renaming.objects.now
