-- Places at which values of a shape stand.
use Rattle.std.specs.Prelude.{◌≡◌, List, Some, slice_get}
use Rattle.std.specs.List.{AllByRecursion}
use Rattle.core_ir.specs.declared.cores.CoreObject.{CoreObject}
use Rattle.core_ir.specs.declared.units.Shape.{Shape}
use Rattle.core_ir.specs.declared.units.Shape.TheVariants.{Word, Pointer}
use Rattle.sym_spots.specs.declared.aims.Aim.{Aim}
use Rattle.sym_spots.specs.declared.aims.Target.{Target}
use Rattle.sym_spots.specs.declared.aims.Target.TheVariants.{Cell, Register}

-- words of one kind, or pointers
abbrev pub AreOneLayout : Shape → Shape → Type 0
AreOneLayout (Word k) (Word l) = k ≡ l
AreOneLayout (Pointer t c) (Pointer u d) = Prim.Unit {0}
AreOneLayout _ _ = ⊥

-- the place is there, and its values have the layout of the shape
abbrev pub Holds : List CoreObject → List Shape → Shape → Target → Type 0
Holds objects shapes s (Cell o c) = (x : CoreObject) × (slice_get objects o ≡ Some x) × (slice_get x.cells c ≡ Some s)
Holds objects shapes s (Register r) = (t : Shape) × (slice_get shapes r ≡ Some t) × AreOneLayout t s

abbrev pub AllHold : List CoreObject → List Shape → Shape → List Aim → Type 0
AllHold objects shapes s aims = AllByRecursion (λ a. Holds objects shapes s a.target) aims
