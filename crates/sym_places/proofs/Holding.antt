-- What a place holds stands for what the meaning holds there, and has the layout of its shape.
use Rattle.std.proofs.Common.{◌≡◌, ℕ, zero, suc, ◌+◌, Bool, true, false, List, [], ◌∷◌, length, Option, Some, None, refl, sym, arith, subst, if◌then◌else◌}
use Rattle.std.specs.Prelude.{slice_get, slice_index_or, nat_lt}
use Rattle.std.specs.List.{AllByRecursion}
use Rattle.std.proofs.lemmas.Bool.Decides.{nat_tests}
use Rattle.std.proofs.lemmas.Option.{none-some, same_Some}
use Rattle.aig_build.specs.Circuits.{Node}
use Rattle.bit_ops.specs.declared.values.SymValue.{SymValue}
use Rattle.bit_ops.specs.declared.values.SymValue.TheVariants.{Word, Pointer}
use Rattle.core_ir.proofs.Shapes.{get_kept, base_shape}
use Rattle.core_ir.specs.Cells.{store_shapes}
use Rattle.core_ir.specs.Fits.{ObjectFits}
use Rattle.core_ir.specs.Inputs.{HasShape, HaveShapes}
use Rattle.core_ir.specs.Places.{State, base_of, cell_value, held}
use Rattle.core_ir.specs.declared.cores.CoreObject.{CoreObject}
use Rattle.core_ir.specs.declared.units.Shape.{Shape}
use Rattle.core_ir.specs.declared.units.Shape.TheVariants as shape
use Rattle.rvt_num.specs.Kinds.{IsOf}
use Rattle.rvt_num.specs.declared.values.Value.{Value}
use Rattle.rvt_num.specs.declared.values.Value.TheVariants.{Num, Null, At}
use Rattle.sym_constants.proofs.Bits.{constant_is, constant_laid}
use Rattle.sym_constants.specs.Constants.{constant_value, IsConstant, IsOfShape}
use Rattle.sym_places.specs.Placing.{AreOneLayout, Holds}
use Rattle.sym_places.specs.Reads.{cell_held, held_by}
use Rattle.sym_spots.proofs.Indexing.{parts}
use Rattle.sym_spots.specs.Aims.{meant}
use Rattle.sym_spots.specs.declared.aims.Target.{Target}
use Rattle.sym_spots.specs.declared.aims.Target.TheVariants.{Cell, Register}
use Rattle.sym_store.specs.Stores.{LitStore, StandsFor, IsStoreLaid}
use Rattle.sym_values.specs.Valuations.{Valuation, IsValuation}
use Rattle.sym_values.specs.Values.{value_under, values_under, IsLaid, AreLaid}

-- ---- contents of constant objects

word_constant : (s : Shape) (x : Value) → HasShape [] (λ _. ⊥) s x → IsConstant x
word_constant (shape.Word k) (Num n) h = subst (λ l. IsOf l n.value) (sym h.of_kind) h.in_range
word_constant (shape.Word k) Null h = absurd h
word_constant (shape.Word k) (At o c) h = absurd h
word_constant (shape.Pointer t u) (Num n) h = absurd h
word_constant (shape.Pointer t u) Null h = tt
word_constant (shape.Pointer t u) (At o c) h = absurd h.1

contents_constant : (shapes : List Shape) (xs : List Value) (c : ℕ) → HaveShapes [] (λ _. ⊥) shapes xs → IsConstant (slice_index_or xs c Null)
contents_constant [] [] c h = tt
contents_constant [] (x ∷ xs) c h = absurd h
contents_constant (s ∷ ss) [] c h = absurd h
contents_constant (s ∷ ss) (x ∷ xs) zero h = word_constant s x h.0
contents_constant (s ∷ ss) (x ∷ xs) (suc n) h = contents_constant ss xs n h.1

shaped : (s : Shape) (x : Value) → HasShape [] (λ _. ⊥) s x → IsOfShape s x
shaped (shape.Word k) (Num n) h = h.of_kind
shaped (shape.Word k) Null h = absurd h
shaped (shape.Word k) (At o c) h = absurd h
shaped (shape.Pointer t u) (Num n) h = absurd h
shaped (shape.Pointer t u) Null h = tt
shaped (shape.Pointer t u) (At o c) h = tt

fits_at : (objects : List CoreObject) (o : ℕ) (x : CoreObject) → AllByRecursion ObjectFits objects → slice_get objects o ≡ Some x → ObjectFits x
fits_at [] o x h e = absurd (none-some _ e)
fits_at (y ∷ ys) zero x h e = subst ObjectFits (same_Some y x e) h.0
fits_at (y ∷ ys) (suc o) x h e = fits_at ys o x h.1 e

-- ---- values of a list, or null

module _ (v : Valuation) (ns : List Node) (is : IsValuation ns v) where
  under_or : (xs : List SymValue) (values : List Value) (r : ℕ) → values_under v xs ≡ Some values → value_under v (slice_index_or xs r (constant_value Null)) ≡ Some (slice_index_or values r Null)
  under_or [] values r h = subst (λ vs. value_under v (constant_value Null) ≡ Some (slice_index_or vs r Null)) (same_Some _ _ h) (constant_is v ns Null is tt)
  under_or (a ∷ more) values zero h =
      let p = parts (value_under v a) (values_under v more) values h in
      subst (λ vs. value_under v a ≡ Some (slice_index_or vs zero Null)) p.are p.of_head
  under_or (a ∷ more) values (suc n) h =
      let p = parts (value_under v a) (values_under v more) values h in
      subst (λ vs. value_under v (slice_index_or more n (constant_value Null)) ≡ Some (slice_index_or vs (suc n) Null)) p.are (under_or more p.tail n p.of_tail)

  cell_is : (objects : List CoreObject) (cells : List SymValue) (store : List Value) (o c : ℕ) (x : Option CoreObject) → ((y : CoreObject) → x ≡ Some y → ObjectFits y) → values_under v cells ≡ Some store
      → value_under v (cell_held objects cells o c x) ≡ Some (cell_value objects store o c x)
  cell_is objects cells store o c None f h = constant_is v ns Null is tt
  cell_is objects cells store o c (Some x) f h = by x.constant refl
    where
      inside : (b : Bool) → value_under v (if b then slice_index_or cells (base_of objects o + c) (constant_value Null) else constant_value Null) ≡ Some (if b then slice_index_or store (base_of objects o + c) Null else Null)
      inside true = under_or cells store (base_of objects o + c) h
      inside false = constant_is v ns Null is tt

      by : (b : Bool) → x.constant ≡ b
          → value_under v (if b then constant_value (slice_index_or x.contents c Null) else (if nat_lt c (length x.cells) then slice_index_or cells (base_of objects o + c) (constant_value Null) else constant_value Null))
          ≡ Some (if b then slice_index_or x.contents c Null else (if nat_lt c (length x.cells) then slice_index_or store (base_of objects o + c) Null else Null))
      by true e = constant_is v ns (slice_index_or x.contents c Null) is (contents_constant x.cells x.contents c ((f x refl).contents e))
      by false e = inside (nat_lt c (length x.cells))

  pub held_is : (objects : List CoreObject) (s : LitStore) (state : State) (t : Target) → AllByRecursion ObjectFits objects → StandsFor v s state → value_under v (held_by objects s t) ≡ Some (held objects state (meant t))
  held_is objects s state (Cell o c) fits h = cell_is objects s.cells state.store o c (slice_get objects o) (λ y e. fits_at objects o y fits e) h.of_cells
  held_is objects s state (Register r) fits h = under_or s.registers state.registers r h.of_registers

-- ---- layout

laid_or : (shapes : List Shape) (xs : List SymValue) (r : ℕ) (t : Shape) (d : SymValue) → AreLaid shapes xs → slice_get shapes r ≡ Some t → IsLaid t (slice_index_or xs r d)
laid_or [] xs r t d h e = absurd (none-some _ e)
laid_or (s ∷ ss) [] r t d h e = absurd h
laid_or (s ∷ ss) (x ∷ xs) zero t d h e = subst (λ u. IsLaid u x) (same_Some s t e) h.0
laid_or (s ∷ ss) (x ∷ xs) (suc n) t d h e = laid_or ss xs n t d h.1 e

pub one_layout : (t s : Shape) (x : SymValue) → AreOneLayout t s → IsLaid t x → IsLaid s x
one_layout (shape.Word k) (shape.Word l) x e h = subst (λ m. IsLaid (shape.Word m) x) e h
one_layout (shape.Word k) (shape.Pointer u d) x e h = absurd e
one_layout (shape.Pointer t c) (shape.Word l) x e h = absurd e
one_layout (shape.Pointer t c) (shape.Pointer u d) (Word w) e h = absurd h
one_layout (shape.Pointer t c) (shape.Pointer u d) (Pointer o q) e h = h

pub other_layout : (t s : Shape) (x : SymValue) → AreOneLayout t s → IsLaid s x → IsLaid t x
other_layout (shape.Word k) (shape.Word l) x e h = subst (λ m. IsLaid (shape.Word m) x) (sym e) h
other_layout (shape.Word k) (shape.Pointer u d) x e h = absurd e
other_layout (shape.Pointer t c) (shape.Word l) x e h = absurd e
other_layout (shape.Pointer t c) (shape.Pointer u d) (Word w) e h = absurd h
other_layout (shape.Pointer t c) (shape.Pointer u d) (Pointer o q) e h = h

below_shapes : (shapes : List Shape) (c : ℕ) (s : Shape) → slice_get shapes c ≡ Some s → nat_lt c (length shapes) ≡ true
below_shapes [] c s e = absurd (none-some _ e)
below_shapes (t ∷ ts) zero s e = grind (arith, nat_tests)
below_shapes (t ∷ ts) (suc c) s e = let rest = below_shapes ts c s e in grind (arith, nat_tests)

cell_laid : (objects : List CoreObject) (cells : List SymValue) (o c : ℕ) (x : CoreObject) (s : Shape) → AllByRecursion ObjectFits objects → AreLaid (store_shapes objects) cells → slice_get objects o ≡ Some x → slice_get x.cells c ≡ Some s
    → IsLaid s (cell_held objects cells o c (Some x))
cell_laid objects cells o c x s fits laid e f = by x.constant refl
  where
    by : (b : Bool) → x.constant ≡ b
        → IsLaid s (if b then constant_value (slice_index_or x.contents c Null) else (if nat_lt c (length x.cells) then slice_index_or cells (base_of objects o + c) (constant_value Null) else constant_value Null))
    by true q =
        constant_laid s (slice_index_or x.contents c Null) (shaped s (slice_index_or x.contents c Null) (get_kept [] (λ _. ⊥) x.cells x.contents c s f ((fits_at objects o x fits e).contents q)))
    by false q =
        subst (λ (b : Bool). IsLaid s (if b then slice_index_or cells (base_of objects o + c) (constant_value Null) else constant_value Null)) (sym (below_shapes x.cells c s f))
        (laid_or (store_shapes objects) cells (base_of objects o + c) s (constant_value Null) laid (base_shape objects o c (base_of objects o + c) x s refl e q f))

pub held_laid : (objects : List CoreObject) (shapes : List Shape) (store : LitStore) (s : Shape) (t : Target) → AllByRecursion ObjectFits objects → IsStoreLaid shapes (store_shapes objects) store → Holds objects shapes s t → IsLaid s (held_by objects store t)
held_laid objects shapes store s (Cell o c) fits laid h =
    subst (λ x. IsLaid s (cell_held objects store.cells o c x)) (sym h.1) (cell_laid objects store.cells o c h.0 s fits laid.of_cells h.1 h.2)
held_laid objects shapes store s (Register r) fits laid h = one_layout h.0 s _ h.2 (laid_or shapes store.registers r h.0 (constant_value Null) laid.of_registers h.1)
