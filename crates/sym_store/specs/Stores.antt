-- Registers and cells made of literals, and the states that they stand for.
use Rattle.std.specs.Prelude.{◌≡◌, ℕ, true, false, List, Some, slice_get, slice_set}
use Rattle.aig_build.specs.Circuits.{Node}
use Rattle.aig_build.specs.declared.lits.Lit.{Lit}
use Rattle.bit_ops.specs.declared.values.SymValue.{SymValue}
use Rattle.bit_words.specs.Words.{AreThere}
use Rattle.core_ir.specs.Meaning.{with_register}
use Rattle.core_ir.specs.Places.{State, register}
use Rattle.core_ir.specs.declared.units.Shape.{Shape}
use Rattle.rvt_num.specs.declared.values.Value.{Value}
use Rattle.sym_store.specs.Merging.{merged_values, AreAlike}
use Rattle.sym_values.specs.Valuations.{Valuation, IsValuation}
use Rattle.sym_values.specs.Values.{value_under, values_under, all_lits, IsLaid, AreLaid}

-- what a contract sees of a `SymStore`: the registers of a unit, and the mutable cells of all objects in the order of the table
pub record LitStore : Type 0 where
  pub registers : List SymValue
  pub cells : List SymValue

-- the state for which it stands
pub record StandsFor (v : Valuation) (s : LitStore) (state : State) : Type 0 where
  pub of_registers : values_under v s.registers ≡ Some state.registers
  pub of_cells : values_under v s.cells ≡ Some state.store

-- its literals stand in the circuit
pub record IsStoreThere (ns : List Node) (s : LitStore) : Type 0 where
  pub registers : AreThere ns (all_lits s.registers)
  pub cells : AreThere ns (all_lits s.cells)

-- its registers and its cells have these shapes
pub record IsStoreLaid (registers cells : List Shape) (s : LitStore) : Type 0 where
  pub of_registers : AreLaid registers s.registers
  pub of_cells : AreLaid cells s.cells

-- two stores of one layout
pub record AreStoresAlike (s t : LitStore) : Type 0 where
  pub registers : AreAlike s.registers t.registers
  pub cells : AreAlike s.cells t.cells

-- ---- a register is read, and set

abbrev pub with_value : LitStore → ℕ → SymValue → LitStore
with_value s r x = record { registers = slice_set s.registers r x; cells = s.cells }

abbrev pub with_cell_value : LitStore → ℕ → SymValue → LitStore
with_cell_value s c x = record { registers = s.registers; cells = slice_set s.cells c x }

-- a register's value is what the state's register holds
abbrev pub RegisterLaw : Type 0
RegisterLaw = (v : Valuation) (s : LitStore) (state : State) (r : ℕ) (x : SymValue) → StandsFor v s state → slice_get s.registers r ≡ Some x → value_under v x ≡ Some (register state.registers r)

-- with a register set it stands for the state with that register set
abbrev pub SetLaw : Type 0
SetLaw = (v : Valuation) (s : LitStore) (state : State) (r : ℕ) (x : SymValue) (value : Value) → StandsFor v s state → value_under v x ≡ Some value → StandsFor v (with_value s r x) (with_register state r value)

-- a value of the register's shape keeps the layout
abbrev pub SetLaidLaw : Type 0
SetLaidLaw = (registers cells : List Shape) (s : LitStore) (r : ℕ) (shape : Shape) (x : SymValue) → IsStoreLaid registers cells s → slice_get registers r ≡ Some shape → IsLaid shape x → IsStoreLaid registers cells (with_value s r x)

-- ---- two stores are merged

pub record MadeStore : Type 0 where
  pub nodes : List Node
  pub store : LitStore

unfoldable pub merged_store : List Node → Lit → LitStore → LitStore → MadeStore
merged_store ns which s t =
    let r = merged_values ns which s.registers t.registers in
    let c = merged_values r.nodes which s.cells t.cells in
    record { nodes = c.nodes; store = record { registers = r.values; cells = c.values } }

-- it stands for what the first stands for where the literal is true, and else for what the second does
pub record IsMergedStore (v : Valuation) (ns : List Node) (which : Lit) (registers cells : List Shape) (s t : LitStore) (m : MadeStore) : Type 0 where
  pub back : IsValuation m.nodes v → IsValuation ns v
  pub laid : IsStoreLaid registers cells m.store
  pub first : IsValuation m.nodes v → v which ≡ true → (state : State) → StandsFor v s state → StandsFor v m.store state
  pub second : IsValuation m.nodes v → v which ≡ false → (state : State) → StandsFor v t state → StandsFor v m.store state

abbrev pub MergeStoreLaw : Type 0
MergeStoreLaw = (v : Valuation) (ns : List Node) (which : Lit) (registers cells : List Shape) (s t : LitStore) → IsStoreLaid registers cells s → IsStoreLaid registers cells t → IsMergedStore v ns which registers cells s t (merged_store ns which s t)

-- stores of one layout can be merged
abbrev pub StoresAlikeLaw : Type 0
StoresAlikeLaw = (registers cells : List Shape) (s t : LitStore) → IsStoreLaid registers cells s → IsStoreLaid registers cells t → AreStoresAlike s t
