-- Where a spot is, or how it traps.
use Rattle.std.specs.Prelude.{◌≡◌, ◌<◌, ℕ, Bool, true, false, ◌||◌, List, [], ◌∷◌, length, Option, Some, None, Result, Ok, Err, slice_get, if◌then◌else◌}
use Rattle.std.specs.List.{AllByRecursion}
use Rattle.aig_build.specs.Circuits.{Node, constant, opposite}
use Rattle.bit_ops.specs.declared.values.SymValue.{SymValue}
use Rattle.bit_ops.specs.declared.values.SymValue.TheVariants.{Pointer}
use Rattle.core_ir.specs.Places.{Place, register, pointee, place_of}
use Rattle.core_ir.specs.declared.cores.CoreObject.{CoreObject}
use Rattle.core_ir.specs.declared.units.Index.{Index}
use Rattle.core_ir.specs.declared.units.Shape.{Shape}
use Rattle.core_ir.specs.declared.units.Spot.{Spot}
use Rattle.core_ir.specs.declared.units.Spot.TheVariants as spot
use Rattle.rvt_num.specs.declared.values.Trap.{Trap}
use Rattle.rvt_num.specs.declared.values.Trap.TheVariants as trap
use Rattle.rvt_num.specs.declared.values.Value.{Value}
use Rattle.rvt_num.specs.declared.values.Value.TheVariants.{At}
use Rattle.sym_constants.specs.Tests.{test_built}
use Rattle.sym_spots.specs.Aims.{meant, starts_of, pointed_built, indexed}
use Rattle.sym_spots.specs.declared.aims.Aim.{Aim}
use Rattle.sym_spots.specs.declared.aims.Target.{Target}
use Rattle.sym_spots.specs.declared.aims.Target.TheVariants.{Cell, Register}
use Rattle.sym_spots.specs.declared.spots.SpotTraps.{SpotTraps}
use Rattle.sym_values.specs.Valuations.{Valuation, IsValuation}
use Rattle.sym_values.specs.Values.{values_under, AreLaid}

pub record MadeSpot : Type 0 where
  pub nodes : List Node
  pub aims : List Aim
  pub traps : SpotTraps

-- a spot that is behind no pointer traps by its indexes alone
abbrev pub fixed_built : List SymValue → List Node → Target → List Index → MadeSpot
fixed_built registers ns target indexes =
    let m = indexed registers ns (record { lit = constant true; target = target } ∷ []) (constant true) indexes in
    record { nodes = m.nodes; aims = m.aims; traps = record { index = opposite m.any; null = constant false; place = constant false } }

-- behind a pointer at one of these cells; a register that holds no pointer is as null
abbrev pub behind_built : List (ℕ × ℕ) → ℕ → List SymValue → List Node → List Index → Option SymValue → MadeSpot
behind_built starts cells registers ns indexes (Some (Pointer o c)) =
    let n = test_built ns (constant true) o.bits 0 in
    let p = pointed_built o c cells n.nodes [] (constant false) starts in
    let m = indexed registers p.nodes p.aims (constant true) indexes in
    record { nodes = m.nodes; aims = m.aims; traps = record { index = opposite m.any; null = n.lit; place = opposite p.any } }
behind_built starts cells registers ns indexes _ =
    record { nodes = ns; aims = []; traps = record { index = constant false; null = constant true; place = constant false } }

unfoldable pub spot_built : List CoreObject → List Shape → List SymValue → List Node → Spot → MadeSpot
spot_built objects shapes registers ns (spot.Cell o c indexes) = fixed_built registers ns (Cell o c) indexes
spot_built objects shapes registers ns (spot.Local r indexes) = fixed_built registers ns (Register r) indexes
spot_built objects shapes registers ns (spot.Through p cells indexes) =
    behind_built (starts_of objects (pointee (slice_get shapes p))) cells registers ns indexes (slice_get registers p)

-- ---- what it says

-- the first trap whose literal is true
abbrev pub trap_under : Valuation → SpotTraps → Option Trap
trap_under v t =
    if v t.null then Some trap.Null
    else (if v t.place then Some trap.Place
    else (if v t.index then Some trap.Index else None))

-- one of the aims is true
abbrev pub any_true : Valuation → List Aim → Bool
any_true v [] = false
any_true v (a ∷ more) = v a.lit || any_true v more

-- there is a true aim, and each true aim is at the place
pub record AreAt (v : Valuation) (aims : List Aim) (place : Place) : Type 0 where
  pub some : any_true v aims ≡ true
  pub only : AllByRecursion (λ a. v a.lit ≡ true → meant a.target ≡ place) aims

abbrev pub SaysPlace : Valuation → MadeSpot → Result Place Trap → Type 0
SaysPlace v m (Ok place) = (trap_under v m.traps ≡ None) × AreAt v m.aims place
SaysPlace v m (Err t) = trap_under v m.traps ≡ Some t

-- null, or a pointer into an addressable object of the table
abbrev pub IsKnown : List CoreObject → Value → Type 0
IsKnown objects (At o c) = (x : CoreObject) × (slice_get objects o ≡ Some x) × (x.addressable ≡ true)
IsKnown objects _ = Prim.Unit {0}

abbrev pub PointerIsKnown : List CoreObject → List Value → Spot → Type 0
PointerIsKnown objects registers (spot.Through p cells indexes) = IsKnown objects (register registers p)
PointerIsKnown objects registers _ = Prim.Unit {0}

pub record IsSpot (v : Valuation) (objects : List CoreObject) (shapes : List Shape) (registers : List SymValue) (ns : List Node) (s : Spot) (m : MadeSpot) : Type 0 where
  pub back : IsValuation m.nodes v → IsValuation ns v
  pub says : IsValuation m.nodes v → (values : List Value) → values_under v registers ≡ Some values → PointerIsKnown objects values s → SaysPlace v m (place_of objects shapes values s)

-- where its pointer is null or into an addressable object, a spot is where its true aims are, or traps as its literals say
abbrev pub SpotLaw : Type 0
SpotLaw = (v : Valuation) (objects : List CoreObject) (shapes : List Shape) (registers : List SymValue) (ns : List Node) (s : Spot) → AreLaid shapes registers → IsSpot v objects shapes registers ns s (spot_built objects shapes registers ns s)

-- ---- literals of the circuit

abbrev pub AreAimsThere : List Node → List Aim → Type 0
AreAimsThere ns aims = AllByRecursion (λ a. a.lit.node < length ns) aims

pub record AreTrapsThere (ns : List Node) (t : SpotTraps) : Type 0 where
  pub index : t.index.node < length ns
  pub null : t.null.node < length ns
  pub place : t.place.node < length ns
