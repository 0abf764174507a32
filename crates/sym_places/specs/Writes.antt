-- What is written at a spot.
use Rattle.std.specs.Prelude.{◌≡◌, ℕ, ◌+◌, true, false, List, [], ◌∷◌, length, Option, Some, None, Result, Ok, Err, slice_get, nat_lt, if◌then◌else◌}
use Rattle.std.specs.List.{AllByRecursion}
use Rattle.aig_build.specs.Built.{and_built}
use Rattle.aig_build.specs.Circuits.{Node}
use Rattle.aig_build.specs.declared.lits.Lit.{Lit}
use Rattle.bit_ops.specs.declared.values.SymValue.{SymValue}
use Rattle.core_ir.specs.Cells.{mutable_cells, store_shapes}
use Rattle.core_ir.specs.Fits.{ObjectFits, SpotFits}
use Rattle.core_ir.specs.Places.{State, Place, base_of, place_of, written}
use Rattle.core_ir.specs.declared.cores.CoreObject.{CoreObject}
use Rattle.core_ir.specs.declared.units.Shape.{Shape}
use Rattle.core_ir.specs.declared.units.Spot.{Spot}
use Rattle.rvt_num.specs.declared.values.Trap.{Trap}
use Rattle.rvt_num.specs.declared.values.Value.{Value}
use Rattle.sym_places.specs.Reads.{held_by}
use Rattle.sym_spots.specs.Spots.{spot_built, trap_under, PointerIsKnown}
use Rattle.sym_spots.specs.declared.aims.Aim.{Aim}
use Rattle.sym_spots.specs.declared.aims.Target.{Target}
use Rattle.sym_spots.specs.declared.aims.Target.TheVariants.{Cell, Register}
use Rattle.sym_spots.specs.declared.spots.SpotTraps.{SpotTraps}
use Rattle.sym_store.specs.Merging.{merged_value}
use Rattle.sym_store.specs.Stores.{LitStore, StandsFor, IsStoreLaid, MadeStore, with_value, with_cell_value}
use Rattle.sym_values.specs.Valuations.{Valuation, IsValuation}
use Rattle.sym_values.specs.Values.{value_under, IsLaid}

-- the store with a cell of an object set whose mutable cells begin at the base; nothing is written into a constant object, nor outside
-- the object
abbrev pub with_cell_in : CoreObject → ℕ → LitStore → ℕ → SymValue → LitStore
with_cell_in object base s c x = if nat_lt c (length (mutable_cells object)) then with_cell_value s (base + c) x else s

abbrev pub with_cell_held : List CoreObject → LitStore → ℕ → ℕ → SymValue → Option CoreObject → LitStore
with_cell_held objects s o c x None = s
with_cell_held objects s o c x (Some object) = with_cell_in object (base_of objects o) s c x

abbrev pub with_held : List CoreObject → LitStore → Target → SymValue → LitStore
with_held objects s (Cell o c) x = with_cell_held objects s o c x (slice_get objects o)
with_held objects s (Register r) x = with_value s r x

-- an aim takes the value where the guard and it are true, and else stays
unfoldable pub put_one : List CoreObject → Lit → SymValue → List Node → LitStore → Aim → MadeStore
put_one objects guard x ns s a =
    let g = and_built ns guard a.lit in
    let m = merged_value g.nodes g.lit x (held_by objects s a.target) in
    record { nodes = m.nodes; store = with_held objects s a.target m.value }

-- each of the aims
unfoldable pub put : List CoreObject → Lit → SymValue → List Node → LitStore → List Aim → MadeStore
put objects guard x ns s [] = record { nodes = ns; store = s }
put objects guard x ns s (a ∷ more) =
    let m = put_one objects guard x ns s a in
    put objects guard x m.nodes m.store more

pub record MadeWrite : Type 0 where
  pub nodes : List Node
  pub store : LitStore
  pub traps : SpotTraps

-- the value is written at the spot where the guard is true
unfoldable pub write_built : List CoreObject → List Shape → LitStore → List Node → Spot → SymValue → Lit → MadeWrite
write_built objects shapes s ns spot x guard =
    let m = spot_built objects shapes s.registers ns spot in
    let w = put objects guard x m.nodes s m.aims in
    record { nodes = w.nodes; store = w.store; traps = m.traps }

-- ---- what it says

abbrev pub SaysWritten : Valuation → List CoreObject → State → Lit → Value → MadeWrite → Result Place Trap → Type 0
SaysWritten v objects state guard value m (Ok place) = (trap_under v m.traps ≡ None) × (v guard ≡ true → StandsFor v m.store (written objects state place value))
SaysWritten v objects state guard value m (Err t) = trap_under v m.traps ≡ Some t

pub record IsWritten (v : Valuation) (objects : List CoreObject) (shapes : List Shape) (s : LitStore) (ns : List Node) (spot : Spot) (x : SymValue) (guard : Lit) (m : MadeWrite) : Type 0 where
  pub back : IsValuation m.nodes v → IsValuation ns v
  pub laid : IsStoreLaid shapes (store_shapes objects) m.store
  pub says : IsValuation m.nodes v → (state : State) (value : Value) → StandsFor v s state → value_under v x ≡ Some value → PointerIsKnown objects state.registers spot → SaysWritten v objects state guard value m (place_of objects shapes state.registers spot)
  pub stays : IsValuation m.nodes v → v guard ≡ false → (state : State) → StandsFor v s state → StandsFor v m.store state

-- where its pointer is null or into an addressable object, a write under a true guard gives the state of the meaning or has its trap;
-- under a false guard the store stays
abbrev pub WriteLaw : Type 0
WriteLaw = (v : Valuation) (objects : List CoreObject) (shapes : List Shape) (s : LitStore) (ns : List Node) (spot : Spot) (shape : Shape) (x : SymValue) (guard : Lit) → AllByRecursion ObjectFits objects → IsStoreLaid shapes (store_shapes objects) s → SpotFits objects shapes true spot shape → IsLaid shape x
    → IsWritten v objects shapes s ns spot x guard (write_built objects shapes s ns spot x guard)
