-- The literals of what places hold are the circuit's.
use Rattle.std.proofs.Common.{◌≡◌, ℕ, zero, suc, ◌+◌, ◌/◌, ◌<◌, ◌≤◌, Bool, true, false, List, [], ◌∷◌, length, Option, Some, None, refl, sym, ap, arith, subst, pos, get_or, if◌then◌else◌}
use Rattle.std.specs.Prelude.{slice_get, slice_set, slice_index_or, nat_lt}
use Rattle.aig_build.proofs.Nodes.{Grows-length}
use Rattle.aig_build.specs.Circuits.{Node, Grows}
use Rattle.bit_ops.specs.declared.values.SymValue.{SymValue}
use Rattle.bit_words.proofs.ConvertValues.{AreThere-append}
use Rattle.bit_words.proofs.RippleCarry.{AreThere-later}
use Rattle.bit_words.specs.Words.{AreThere}
use Rattle.core_ir.specs.Cells.{mutable_cells}
use Rattle.core_ir.specs.Places.{base_of}
use Rattle.core_ir.specs.declared.cores.CoreObject.{CoreObject}
use Rattle.core_ir.specs.declared.units.Shape.{Shape}
use Rattle.core_ir.specs.declared.units.Shape.TheVariants as shape
use Rattle.rvt_num.specs.Kinds.{width}
use Rattle.rvt_num.specs.Wrapping.{bits_of}
use Rattle.rvt_num.specs.declared.kinds.Kind.TheVariants.{U32}
use Rattle.rvt_num.specs.declared.values.Value.{Value}
use Rattle.rvt_num.specs.declared.values.Value.TheVariants.{Num, Null, At}
use Rattle.sym_constants.specs.Constants.{number_lits, constant_value, zero_value}
use Rattle.sym_places.specs.Reads.{cell_held, held_by}
use Rattle.sym_places.specs.Writes.{with_cell_held, with_held}
use Rattle.sym_spots.proofs.Loops.{aim_there}
use Rattle.sym_spots.specs.Spots.{AreAimsThere, AreTrapsThere}
use Rattle.sym_spots.specs.declared.aims.Aim.{Aim}
use Rattle.sym_spots.specs.declared.aims.Target.{Target}
use Rattle.sym_spots.specs.declared.aims.Target.TheVariants.{Cell, Register}
use Rattle.sym_spots.specs.declared.spots.SpotTraps.{SpotTraps}
use Rattle.sym_store.proofs.MergingSteps.{front_there, back_there}
use Rattle.sym_store.specs.Stores.{LitStore, IsStoreThere}
use Rattle.sym_values.specs.Values.{lits_of, all_lits}

pub store_later : (old new : List Node) (s : LitStore) → Grows old new → IsStoreThere old s → IsStoreThere new s
store_later old new s g t = record { registers = AreThere-later old new (all_lits s.registers) g t.registers; cells = AreThere-later old new (all_lits s.cells) g t.cells }

pub traps_later : (old new : List Node) (t : SpotTraps) → Grows old new → AreTrapsThere old t → AreTrapsThere new t
traps_later old new t g h = let longer = Grows-length old new g in record { index = omega (arith, h.index, longer); null = omega (arith, h.null, longer); place = omega (arith, h.place, longer) }

module _ (ns : List Node) (some : 0 < length ns) where
  number_there : (w n : ℕ) → AreThere ns (number_lits w n)
  number_there zero n = tt
  number_there (suc w) n = (some, number_there w (n / 2))

  pub constant_there : (x : Value) → AreThere ns (lits_of (constant_value x))
  constant_there (Num n) = number_there (width n.kind) (bits_of n)
  constant_there Null = AreThere-append ns (number_lits (width U32) 0) (number_lits (width U32) 0) (number_there (width U32) 0) (number_there (width U32) 0)
  constant_there (At o c) = AreThere-append ns (number_lits (width U32) (o + 1)) (number_lits (width U32) c) (number_there (width U32) (o + 1)) (number_there (width U32) c)

  pub zero_there : (s : Shape) → AreThere ns (lits_of (zero_value s))
  zero_there (shape.Word k) = constant_there (Num (record { kind = k; value = pos 0 }))
  zero_there (shape.Pointer t c) = constant_there Null

  value_there : (xs : List SymValue) (k : ℕ) → AreThere ns (all_lits xs) → AreThere ns (lits_of (slice_index_or xs k (constant_value Null)))
  value_there [] k t = constant_there Null
  value_there (x ∷ xs) zero t = front_there ns (lits_of x) (all_lits xs) t
  value_there (x ∷ xs) (suc k) t = value_there xs k (back_there ns (lits_of x) (all_lits xs) t)

  cell_there : (objects : List CoreObject) (cells : List SymValue) (o c : ℕ) (x : Option CoreObject) → AreThere ns (all_lits cells) → AreThere ns (lits_of (cell_held objects cells o c x))
  cell_there objects cells o c None t = constant_there Null
  cell_there objects cells o c (Some x) t = by x.constant (nat_lt c (length x.cells))
    where
      by : (b d : Bool) → AreThere ns (lits_of (if b then constant_value (slice_index_or x.contents c Null) else (if d then slice_index_or cells (base_of objects o + c) (constant_value Null) else constant_value Null)))
      by true d = constant_there (slice_index_or x.contents c Null)
      by false true = value_there cells (base_of objects o + c) t
      by false false = constant_there Null

  pub held_there : (objects : List CoreObject) (s : LitStore) (t : Target) → IsStoreThere ns s → AreThere ns (lits_of (held_by objects s t))
  held_there objects s (Cell o c) h = cell_there objects s.cells o c (slice_get objects o) h.cells
  held_there objects s (Register r) h = value_there s.registers r h.registers

-- ---- stores that are set

values_set : (ns : List Node) (xs : List SymValue) (k : ℕ) (y : SymValue) → AreThere ns (all_lits xs) → AreThere ns (lits_of y) → AreThere ns (all_lits (slice_set xs k y))
values_set ns [] k y t h = tt
values_set ns (x ∷ xs) zero y t h = AreThere-append ns (lits_of y) (all_lits xs) h (back_there ns (lits_of x) (all_lits xs) t)
values_set ns (x ∷ xs) (suc k) y t h =
    AreThere-append ns (lits_of x) (all_lits (slice_set xs k y)) (front_there ns (lits_of x) (all_lits xs) t) (values_set ns xs k y (back_there ns (lits_of x) (all_lits xs) t) h)

cell_set : (ns : List Node) (objects : List CoreObject) (s : LitStore) (o c : ℕ) (y : SymValue) (x : Option CoreObject) → IsStoreThere ns s → AreThere ns (lits_of y) → IsStoreThere ns (with_cell_held objects s o c y x)
cell_set ns objects s o c y None t h = t
cell_set ns objects s o c y (Some x) t h = by (nat_lt c (length (mutable_cells x)))
  where
    by : (b : Bool) → IsStoreThere ns (if b then record { registers = s.registers; cells = slice_set s.cells (base_of objects o + c) y } else s)
    by true = record { registers = t.registers; cells = values_set ns s.cells (base_of objects o + c) y t.cells h }
    by false = t

pub set_there : (ns : List Node) (objects : List CoreObject) (s : LitStore) (t : Target) (y : SymValue) → IsStoreThere ns s → AreThere ns (lits_of y) → IsStoreThere ns (with_held objects s t y)
set_there ns objects s (Cell o c) y t h = cell_set ns objects s o c y (slice_get objects o) t h
set_there ns objects s (Register r) y t h = record { registers = values_set ns s.registers r y t.registers h; cells = t.cells }

-- ---- a place that isn't there

pub set_past : (xs : List SymValue) (k : ℕ) (y : SymValue) → length xs ≤ k → slice_set xs k y ≡ xs
set_past [] k y p = refl
set_past (x ∷ xs) zero y p = absurd (omega arith)
set_past (x ∷ xs) (suc k) y p = ap (λ l. x ∷ l) (set_past xs k y (omega arith))

-- ---- what the loops ask

pub aims_at : (old new : List Node) (aims : List Aim) (at : ℕ) (d : Aim) → Grows old new → AreAimsThere old aims → at < length aims → (get_or aims at d).lit.node < length new
aims_at old new aims at d g t p = let there = aim_there old aims at d t p in omega (arith, there, Grows-length old new g)

pub zero_is_there : (ns : List Node) (s : Shape) (x : SymValue) → 0 < length ns → x ≡ zero_value s → AreThere ns (lits_of x)
zero_is_there ns s x some e = subst (λ y. AreThere ns (lits_of y)) (sym e) (zero_there ns some s)

pub held_is_there : (old new : List Node) (objects : List CoreObject) (s : LitStore) (t : Target) (x : SymValue) → 0 < length old → Grows old new → IsStoreThere old s → x ≡ held_by objects s t → AreThere new (lits_of x)
held_is_there old new objects s t x some g h e = subst (λ y. AreThere new (lits_of y)) (sym e) (AreThere-later old new _ g (held_there old some objects s t h))

pub put_there : (old new : List Node) (objects : List CoreObject) (s after : LitStore) (t : Target) (x : SymValue) → Grows old new → IsStoreThere old s → AreThere new (lits_of x) → after ≡ with_held objects s t x → IsStoreThere new after
put_there old new objects s after t x g h l e = subst (IsStoreThere new) (sym e) (set_there new objects s t x (store_later old new s g h) l)

pub registers_there : (ns : List Node) (s : LitStore) (registers : List SymValue) → registers ≡ s.registers → IsStoreThere ns s → AreThere ns (all_lits registers)
registers_there ns s registers e h = subst (λ xs. AreThere ns (all_lits xs)) (sym e) h.registers
