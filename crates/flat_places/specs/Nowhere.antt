-- The place where no other is.
use Rattle.rvt_tree.specs.declared.expressions.Variable.TheVariants as V
use Rattle.c_meaning.specs.Stores.{Location}

abbrev pub nowhere : Location
nowhere = record { variable = V.Local 0; cell = 0 }
