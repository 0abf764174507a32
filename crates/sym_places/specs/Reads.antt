-- What is read at a spot.
use Rattle.std.specs.Prelude.{◌≡◌, ℕ, ◌+◌, false, List, [], ◌∷◌, length, Option, Some, None, Result, Ok, Err, slice_get, slice_index_or, nat_lt, if◌then◌else◌}
use Rattle.std.specs.List.{AllByRecursion}
use Rattle.aig_build.specs.Circuits.{Node}
use Rattle.bit_ops.specs.declared.values.SymValue.{SymValue}
use Rattle.core_ir.specs.Cells.{store_shapes}
use Rattle.core_ir.specs.Fits.{ObjectFits, SpotFits}
use Rattle.core_ir.specs.Places.{State, Place, base_of, place_of, held}
use Rattle.core_ir.specs.declared.cores.CoreObject.{CoreObject}
use Rattle.core_ir.specs.declared.units.Shape.{Shape}
use Rattle.core_ir.specs.declared.units.Spot.{Spot}
use Rattle.rvt_num.specs.declared.values.Trap.{Trap}
use Rattle.rvt_num.specs.declared.values.Value.TheVariants.{Null}
use Rattle.sym_constants.specs.Constants.{constant_value, zero_value}
use Rattle.sym_spots.specs.Spots.{spot_built, trap_under, PointerIsKnown}
use Rattle.sym_spots.specs.declared.aims.Aim.{Aim}
use Rattle.sym_spots.specs.declared.aims.Target.{Target}
use Rattle.sym_spots.specs.declared.aims.Target.TheVariants.{Cell, Register}
use Rattle.sym_spots.specs.declared.spots.SpotTraps.{SpotTraps}
use Rattle.sym_store.specs.Merging.{MadeValue, merged_value}
use Rattle.sym_store.specs.Stores.{LitStore, StandsFor, IsStoreLaid}
use Rattle.sym_values.specs.Valuations.{Valuation, IsValuation}
use Rattle.sym_values.specs.Values.{value_under, IsLaid}

-- what a cell of an object holds whose mutable cells begin at the base: of a constant object its contents, and else what the store has
abbrev pub cell_in : CoreObject → ℕ → List SymValue → ℕ → SymValue
cell_in x base cells c =
    if x.constant then constant_value (slice_index_or x.contents c Null)
    else (if nat_lt c (length x.cells) then slice_index_or cells (base + c) (constant_value Null) else constant_value Null)

abbrev pub cell_held : List CoreObject → List SymValue → ℕ → ℕ → Option CoreObject → SymValue
cell_held objects cells o c None = constant_value Null
cell_held objects cells o c (Some x) = cell_in x (base_of objects o) cells c

abbrev pub held_by : List CoreObject → LitStore → Target → SymValue
held_by objects s (Cell o c) = cell_held objects s.cells o c (slice_get objects o)
held_by objects s (Register r) = slice_index_or s.registers r (constant_value Null)

-- a value, or what one of the aims holds where it is true
unfoldable pub picked_from : List CoreObject → LitStore → List Node → SymValue → List Aim → MadeValue
picked_from objects s ns x [] = record { nodes = ns; value = x }
picked_from objects s ns x (a ∷ more) =
    let m = merged_value ns a.lit (held_by objects s a.target) x in
    picked_from objects s m.nodes m.value more

-- what the true aim holds; without aims zero. The first aim needs no choice
abbrev pub picked : List CoreObject → LitStore → List Node → Shape → List Aim → MadeValue
picked objects s ns shape [] = record { nodes = ns; value = zero_value shape }
picked objects s ns shape (a ∷ more) = picked_from objects s ns (held_by objects s a.target) more

pub record MadeRead : Type 0 where
  pub nodes : List Node
  pub value : SymValue
  pub traps : SpotTraps

-- a value of the shape is read at the spot
unfoldable pub read_built : List CoreObject → List Shape → LitStore → List Node → Spot → Shape → MadeRead
read_built objects shapes s ns spot shape =
    let m = spot_built objects shapes s.registers ns spot in
    let x = picked objects s m.nodes shape m.aims in
    record { nodes = x.nodes; value = x.value; traps = m.traps }

-- ---- what it says

abbrev pub SaysRead : Valuation → List CoreObject → State → MadeRead → Result Place Trap → Type 0
SaysRead v objects state m (Ok place) = (trap_under v m.traps ≡ None) × (value_under v m.value ≡ Some (held objects state place))
SaysRead v objects state m (Err t) = trap_under v m.traps ≡ Some t

pub record IsRead (v : Valuation) (objects : List CoreObject) (shapes : List Shape) (s : LitStore) (ns : List Node) (spot : Spot) (shape : Shape) (m : MadeRead) : Type 0 where
  pub back : IsValuation m.nodes v → IsValuation ns v
  pub laid : IsLaid shape m.value
  pub says : IsValuation m.nodes v → (state : State) → StandsFor v s state → PointerIsKnown objects state.registers spot → SaysRead v objects state m (place_of objects shapes state.registers spot)

-- where its pointer is null or into an addressable object, a read has the value of the place or the trap of the meaning
abbrev pub ReadLaw : Type 0
ReadLaw = (v : Valuation) (objects : List CoreObject) (shapes : List Shape) (s : LitStore) (ns : List Node) (spot : Spot) (shape : Shape) → AllByRecursion ObjectFits objects → IsStoreLaid shapes (store_shapes objects) s → SpotFits objects shapes false spot shape
    → IsRead v objects shapes s ns spot shape (read_built objects shapes s ns spot shape)
