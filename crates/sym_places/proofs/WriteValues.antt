-- What is written stands where the true aim is.
use Rattle.std.proofs.Common.{◌≡◌, ℕ, zero, suc, ◌+◌, ◌||◌, ◌&&◌, Bool, true, false, cond, List, [], ◌∷◌, length, Option, Some, None, Result, Ok, Err, refl, sym, ap, ◌∙◌, subst, arith, if◌then◌else◌}
use Rattle.std.specs.Prelude.{slice_get, slice_set, slice_index_or, nat_lt}
use Rattle.std.specs.List.{AllByRecursion}
use Rattle.std.proofs.lemmas.Bool.{true≢false}
use Rattle.std.proofs.lemmas.Bool.Decides.{nat_tests}
use Rattle.aig_build.specs.Built.{and_built}
use Rattle.aig_build.specs.Circuits.{Node}
use Rattle.aig_build.specs.declared.lits.Lit.{Lit}
use Rattle.bit_ops.specs.declared.values.SymValue.{SymValue}
use Rattle.core_ir.proofs.Shapes.{base_shape}
use Rattle.core_ir.specs.Cells.{store_shapes, mutable_cells}
use Rattle.core_ir.specs.Fits.{ObjectFits}
use Rattle.core_ir.specs.Places.{State, Place, In_object, In_register, base_of, cell_value, with_cell, place_of, held, written}
use Rattle.core_ir.specs.declared.cores.CoreObject.{CoreObject}
use Rattle.core_ir.specs.declared.units.Shape.{Shape}
use Rattle.rvt_num.specs.declared.values.Trap.{Trap}
use Rattle.rvt_num.specs.declared.values.Value.{Value}
use Rattle.rvt_num.specs.declared.values.Value.TheVariants.{Null}
use Rattle.sym_places.proofs.AimsHold.{spot_holds}
use Rattle.sym_places.proofs.Holding.{held_is, held_laid, other_layout}
use Rattle.sym_places.specs.Placing.{Holds, AllHold}
use Rattle.sym_places.specs.Reads.{held_by}
use Rattle.sym_places.specs.Writes.{with_cell_held, with_held, put_one, put, write_built, SaysWritten, WriteLaw}
use Rattle.sym_spots.proofs.SpotValues.{spot_is}
use Rattle.sym_spots.proofs.Spreads.{Only}
use Rattle.sym_spots.specs.Aims.{meant}
use Rattle.sym_spots.specs.Spots.{MadeSpot, spot_built, any_true, AreAt, SaysPlace}
use Rattle.sym_spots.specs.declared.aims.Aim.{Aim}
use Rattle.sym_spots.specs.declared.aims.Target.{Target}
use Rattle.sym_spots.specs.declared.aims.Target.TheVariants.{Cell, Register}
use Rattle.sym_store.proofs.Choices.{value_merged}
use Rattle.sym_store.proofs.Stores.{set_is, set_laid}
use Rattle.sym_store.specs.Merging.{merged_value}
use Rattle.sym_store.specs.Stores.{LitStore, StandsFor, IsStoreLaid, MadeStore}
use Rattle.sym_values.proofs.Conjunctions.{conjunction}
use Rattle.sym_values.specs.Valuations.{Valuation, IsValuation}
use Rattle.sym_values.specs.Values.{value_under, values_under, IsLaid, AreLaid}

-- ---- lists

set_twice : {X : Type 0} (xs : List X) (r : ℕ) (x : X) → slice_set (slice_set xs r x) r x ≡ slice_set xs r x
set_twice [] r x = refl
set_twice (y ∷ ys) zero x = refl
set_twice (y ∷ ys) (suc r) x = ap (λ l. y ∷ l) (set_twice ys r x)

set_same : {X : Type 0} (xs : List X) (r : ℕ) (d : X) → slice_set xs r (slice_index_or xs r d) ≡ xs
set_same [] r d = refl
set_same (y ∷ ys) zero d = refl
set_same (y ∷ ys) (suc r) d = ap (λ l. y ∷ l) (set_same ys r d)

-- ---- states

cell_twice : (objects : List CoreObject) (store : List Value) (o c : ℕ) (x : Value) (object : Option CoreObject) → with_cell objects (with_cell objects store o c x object) o c x object ≡ with_cell objects store o c x object
cell_twice objects store o c x None = refl
cell_twice objects store o c x (Some object) = by (nat_lt c (length (mutable_cells object)))
  where
    by : (b : Bool) → (if b then slice_set (if b then slice_set store (base_of objects o + c) x else store) (base_of objects o + c) x else (if b then slice_set store (base_of objects o + c) x else store)) ≡ (if b then slice_set store (base_of objects o + c) x else store)
    by true = set_twice store (base_of objects o + c) x
    by false = refl

written_twice : (objects : List CoreObject) (state : State) (p : Place) (x : Value) → written objects (written objects state p x) p x ≡ written objects state p x
written_twice objects state (In_object o c) x = ap (λ l. record { registers = state.registers; store = l }) (cell_twice objects state.store o c x (slice_get objects o))
written_twice objects state (In_register r) x = ap (λ l. record { registers = l; store = state.store }) (set_twice state.registers r x)

none_below : (c : ℕ) → nat_lt c 0 ≡ false
none_below c = grind (arith, nat_tests)

cell_same : (objects : List CoreObject) (store : List Value) (o c : ℕ) (object : Option CoreObject) → with_cell objects store o c (cell_value objects store o c object) object ≡ store
cell_same objects store o c None = refl
cell_same objects store o c (Some object) = by object.constant refl
  where
    inside : (b : Bool) → (if b then slice_set store (base_of objects o + c) (if b then slice_index_or store (base_of objects o + c) Null else Null) else store) ≡ store
    inside true = set_same store (base_of objects o + c) Null
    inside false = refl

    by : (b : Bool) → object.constant ≡ b
        → (if nat_lt c (length (cond b [] object.cells)) then slice_set store (base_of objects o + c) (if b then slice_index_or object.contents c Null else (if nat_lt c (length object.cells) then slice_index_or store (base_of objects o + c) Null else Null)) else store) ≡ store
    by true e = ap (λ (b : Bool). if b then slice_set store (base_of objects o + c) (slice_index_or object.contents c Null) else store) (none_below c)
    by false e = inside (nat_lt c (length object.cells))

written_same : (objects : List CoreObject) (state : State) (p : Place) → written objects state p (held objects state p) ≡ state
written_same objects state (In_object o c) = ap (λ l. record { registers = state.registers; store = l }) (cell_same objects state.store o c (slice_get objects o))
written_same objects state (In_register r) = ap (λ l. record { registers = l; store = state.store }) (set_same state.registers r Null)

-- ---- stores

module _ (v : Valuation) (objects : List CoreObject) where
  cells_set : (cells : List SymValue) (store : List Value) (k : ℕ) (y : SymValue) (x : Value) → values_under v cells ≡ Some store → value_under v y ≡ Some x → values_under v (slice_set cells k y) ≡ Some (slice_set store k x)
  cells_set cells store k y x h e =
      (set_is v (record { registers = cells; cells = [] }) (record { registers = store; store = [] }) k y x (record { of_registers = h; of_cells = refl }) e).of_registers

  cell_stands : (s : LitStore) (state : State) (o c : ℕ) (y : SymValue) (x : Value) (object : Option CoreObject) → StandsFor v s state → value_under v y ≡ Some x
      → StandsFor v (with_cell_held objects s o c y object) (record { registers = state.registers; store = with_cell objects state.store o c x object })
  cell_stands s state o c y x None h e = h
  cell_stands s state o c y x (Some object) h e = by (nat_lt c (length (mutable_cells object)))
    where
      by : (b : Bool) → StandsFor v (if b then record { registers = s.registers; cells = slice_set s.cells (base_of objects o + c) y } else s) (record { registers = state.registers; store = if b then slice_set state.store (base_of objects o + c) x else state.store })
      by true = record { of_registers = h.of_registers; of_cells = cells_set s.cells state.store (base_of objects o + c) y x h.of_cells e }
      by false = h

  pub set_stands : (s : LitStore) (state : State) (t : Target) (y : SymValue) (x : Value) → StandsFor v s state → value_under v y ≡ Some x → StandsFor v (with_held objects s t y) (written objects state (meant t) x)
  set_stands s state (Cell o c) y x h e = cell_stands s state o c y x (slice_get objects o) h e
  set_stands s state (Register r) y x h e = set_is v s state r y x h e

module _ (objects : List CoreObject) (shapes : List Shape) (shape : Shape) where
  cells_laid : (cells : List SymValue) (k : ℕ) (y : SymValue) → AreLaid (store_shapes objects) cells → slice_get (store_shapes objects) k ≡ Some shape → IsLaid shape y → AreLaid (store_shapes objects) (slice_set cells k y)
  cells_laid cells k y h e l =
      (set_laid (store_shapes objects) [] (record { registers = cells; cells = [] }) k shape y (record { of_registers = h; of_cells = tt }) e l).of_registers

  cell_set_laid : (s : LitStore) (o c : ℕ) (y : SymValue) (x : CoreObject) → IsStoreLaid shapes (store_shapes objects) s → slice_get objects o ≡ Some x → slice_get x.cells c ≡ Some shape → IsLaid shape y
      → IsStoreLaid shapes (store_shapes objects) (with_cell_held objects s o c y (Some x))
  cell_set_laid s o c y x h e f l = by x.constant refl
    where
      stays : (b : Bool) → (b ≡ true → slice_get (store_shapes objects) (base_of objects o + c) ≡ Some shape)
          → IsStoreLaid shapes (store_shapes objects) (if b then record { registers = s.registers; cells = slice_set s.cells (base_of objects o + c) y } else s)
      stays true g = record { of_registers = h.of_registers; of_cells = cells_laid s.cells (base_of objects o + c) y h.of_cells (g refl) l }
      stays false g = h

      by : (b : Bool) → x.constant ≡ b
          → IsStoreLaid shapes (store_shapes objects) (if nat_lt c (length (cond b [] x.cells)) then record { registers = s.registers; cells = slice_set s.cells (base_of objects o + c) y } else s)
      by true q = stays (nat_lt c 0) (λ t. absurd (true≢false (sym t ∙ none_below c)))
      by false q = stays (nat_lt c (length x.cells)) (λ t. base_shape objects o c (base_of objects o + c) x shape refl e q f)

  pub set_is_laid : (s : LitStore) (t : Target) (y : SymValue) → IsStoreLaid shapes (store_shapes objects) s → Holds objects shapes shape t → IsLaid shape y → IsStoreLaid shapes (store_shapes objects) (with_held objects s t y)
  set_is_laid s (Cell o c) y h p l = subst (λ x. IsStoreLaid shapes (store_shapes objects) (with_cell_held objects s o c y x)) (sym p.1) (cell_set_laid s o c y p.0 h p.1 p.2 l)
  set_is_laid s (Register r) y h p l = set_laid shapes (store_shapes objects) s r p.0 y h p.1 (other_layout p.0 shape y p.2 l)

-- ---- one aim, and all

module _ (v : Valuation) (objects : List CoreObject) (shapes : List Shape) (shape : Shape) (fits : AllByRecursion ObjectFits objects) (guard : Lit) (x : SymValue) (x_laid : IsLaid shape x) where
  pub record IsPutOne (ns : List Node) (s : LitStore) (a : Aim) (m : MadeStore) : Type 0 where
    pub back : IsValuation m.nodes v → IsValuation ns v
    pub laid : IsStoreLaid shapes (store_shapes objects) m.store
    pub on : IsValuation m.nodes v → (state : State) (value : Value) → (v guard && v a.lit) ≡ true → StandsFor v s state → value_under v x ≡ Some value → StandsFor v m.store (written objects state (meant a.target) value)
    pub off : IsValuation m.nodes v → (state : State) → (v guard && v a.lit) ≡ false → StandsFor v s state → StandsFor v m.store state

  pub put_one_is : (ns : List Node) (s : LitStore) (a : Aim) → IsStoreLaid shapes (store_shapes objects) s → Holds objects shapes shape a.target → IsPutOne ns s a (put_one objects guard x ns s a)
  unfolding put_one
  put_one_is ns s a laid holds =
      let G = and_built ns guard a.lit in
      let g = conjunction v ns guard a.lit in
      let y = held_by objects s a.target in
      let M = merged_value G.nodes G.lit x y in
      let m = value_merged v G.lit G.nodes shape x y x_laid (held_laid objects shapes s shape a.target fits laid holds) in
      record {
        back = λ h. g.back (m.back h);
        laid = set_is_laid objects shapes shape s a.target M.value laid holds m.laid;
        on = λ h state value e st f. set_stands v objects s state a.target M.value value st (m.first h (g.is (m.back h) ∙ e) ∙ f);
        off = λ h state e st.
            let same = m.second h (g.is (m.back h) ∙ e) ∙ held_is v G.nodes (m.back h) objects s state a.target fits st in
            subst (StandsFor v (with_held objects s a.target M.value)) (written_same objects state (meant a.target)) (set_stands v objects s state a.target M.value (held objects state (meant a.target)) st same);
      }

  pub record IsPut (ns : List Node) (s : LitStore) (aims : List Aim) (m : MadeStore) : Type 0 where
    pub back : IsValuation m.nodes v → IsValuation ns v
    pub laid : IsStoreLaid shapes (store_shapes objects) m.store
    pub on : IsValuation m.nodes v → (state : State) (value : Value) (place : Place) (done : Bool) → v guard ≡ true → value_under v x ≡ Some value → Only v place aims
        → StandsFor v s (cond done (written objects state place value) state) → StandsFor v m.store (cond (done || any_true v aims) (written objects state place value) state)
    pub off : IsValuation m.nodes v → (state : State) → v guard ≡ false → StandsFor v s state → StandsFor v m.store state

  or_none : (b : Bool) → b ≡ (b || false)
  or_none true = refl
  or_none false = refl

  or_assoc : (a b c : Bool) → ((a || b) || c) ≡ (a || (b || c))
  or_assoc true b c = refl
  or_assoc false b c = refl

  step : (ns : List Node) (s : LitStore) (a : Aim) (m : MadeStore) → IsPutOne ns s a m → IsValuation m.nodes v → (state : State) (value : Value) (place : Place) (done : Bool) → v guard ≡ true → value_under v x ≡ Some value
      → (v a.lit ≡ true → meant a.target ≡ place) → StandsFor v s (cond done (written objects state place value) state) → (b : Bool) → v a.lit ≡ b → StandsFor v m.store (cond (done || b) (written objects state place value) state)
  step ns s a m p h state value place false g f at st true e =
      subst (λ q. StandsFor v m.store (written objects state q value)) (at e) (p.on h state value (λ i. g i && e i) st f)
  step ns s a m p h state value place true g f at st true e =
      subst (StandsFor v m.store) (ap (λ q. written objects (written objects state place value) q value) (at e) ∙ written_twice objects state place value)
      (p.on h (written objects state place value) value (λ i. g i && e i) st f)
  step ns s a m p h state value place false g f at st false e = p.off h state (λ i. g i && e i) st
  step ns s a m p h state value place true g f at st false e = p.off h (written objects state place value) (λ i. g i && e i) st

  pub put_is : (ns : List Node) (s : LitStore) (aims : List Aim) → IsStoreLaid shapes (store_shapes objects) s → AllHold objects shapes shape aims → IsPut ns s aims (put objects guard x ns s aims)
  unfolding put
  put_is ns s [] laid h = record {
    back = λ k. k;
    laid = laid;
    on = λ k state value place done g f only st. subst (λ b. StandsFor v s (cond b (written objects state place value) state)) (or_none done) st;
    off = λ k state g st. st;
  }
  put_is ns s (a ∷ more) laid h =
      let M = put_one objects guard x ns s a in
      let m = put_one_is ns s a laid h.0 in
      let rest = put_is M.nodes M.store more m.laid h.1 in
      record {
        back = λ k. m.back (rest.back k);
        laid = rest.laid;
        on = λ k state value place done g f only st.
            subst (λ b. StandsFor v (put objects guard x M.nodes M.store more).store (cond b (written objects state place value) state)) (or_assoc done (v a.lit) (any_true v more))
            (rest.on k state value place (done || v a.lit) g f only.1 (step ns s a M m (rest.back k) state value place done g f only.0 st (v a.lit) refl));
        off = λ k state g st. rest.off k state g (m.off (rest.back k) state (ap (λ b. b && v a.lit) g) st);
      }

  says_by : (m : MadeSpot) (w : MadeStore) (state : State) (value : Value) (r : Result Place Trap) → SaysPlace v m r
      → ((place : Place) → AreAt v m.aims place → v guard ≡ true → StandsFor v w.store (written objects state place value)) → SaysWritten v objects state guard value (record { nodes = w.nodes; store = w.store; traps = m.traps }) r
  says_by m w state value (Ok place) says f = (says.0, f place says.1)
  says_by m w state value (Err t) says f = says

pub write_is : WriteLaw
unfolding write_built
write_is v objects shapes s ns spot shape x guard fits laid spot_fits x_laid =
    let M = spot_built objects shapes s.registers ns spot in
    let m = spot_is v objects shapes s.registers ns spot laid.of_registers in
    let W = put objects guard x M.nodes s M.aims in
    let w = put_is v objects shapes shape fits guard x x_laid M.nodes s M.aims laid (spot_holds objects shapes s.registers shape ns true spot spot_fits) in
    record {
      back = λ h. m.back (w.back h);
      laid = w.laid;
      says = λ h state value st f known.
          says_by v objects shapes shape fits guard x x_laid M W state value (place_of objects shapes state.registers spot) (m.says (w.back h) state.registers st.of_registers known)
          (λ place at g. subst (λ b. StandsFor v W.store (cond b (written objects state place value) state)) at.some (w.on h state value place false g f at.only st));
      stays = λ h g state st. w.off h state g st;
    }
