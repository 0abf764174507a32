-- A small joint core: two versions of a function that returns its argument, over one global object.
use Rattle.std.specs.Prelude.{true, false, [], ◌∷◌}
use Rattle.core_ir.specs.declared.cores.Core.{Core}
use Rattle.core_ir.specs.declared.cores.CoreObject.{CoreObject}
use Rattle.core_ir.specs.declared.cores.JointCore.{JointCore}
use Rattle.core_ir.specs.declared.units.Code.TheVariants.{Stop}
use Rattle.core_ir.specs.declared.units.Shape.TheVariants.{Word}
use Rattle.core_ir.specs.declared.units.Unit.{Unit}
use Rattle.rvt_num.specs.declared.kinds.Kind.TheVariants.{I32}

abbrev pub identity : Unit
identity = record { inputs = Word I32 ∷ []; registers = Word I32 ∷ []; results = Word I32 ∷ []; owned = []; body = Stop (0 ∷ []); fixed = 0; branches = 0; derefs = 0; own_traps = [] }

abbrev pub global : CoreObject
global = record { cells = Word I32 ∷ []; starts = (5, 0) ∷ []; constant = false; addressable = true; contents = [] }

abbrev pub version : Core
version = record { units = identity ∷ []; objects = global ∷ [] }

abbrev pub both : JointCore
both = record { old = version; new_side = version; pairs = (0, 0, true) ∷ [] }
