-- What is read is what the true aim holds.
use Rattle.std.proofs.Common.{◌≡◌, ◌||◌, Bool, true, false, List, [], ◌∷◌, Option, Some, Result, Ok, Err, refl, sym, ap, ◌∙◌}
use Rattle.std.specs.List.{AllByRecursion}
use Rattle.std.proofs.lemmas.Bool.{true≢false}
use Rattle.aig_build.specs.Circuits.{Node}
use Rattle.bit_ops.specs.declared.values.SymValue.{SymValue}
use Rattle.core_ir.specs.Cells.{store_shapes}
use Rattle.core_ir.specs.Fits.{ObjectFits}
use Rattle.core_ir.specs.Places.{State, Place, place_of, held}
use Rattle.core_ir.specs.declared.cores.CoreObject.{CoreObject}
use Rattle.core_ir.specs.declared.units.Shape.{Shape}
use Rattle.rvt_num.specs.declared.values.Trap.{Trap}
use Rattle.rvt_num.specs.declared.values.Value.{Value}
use Rattle.sym_constants.proofs.Bits.{zero_is}
use Rattle.sym_places.proofs.AimsHold.{spot_holds}
use Rattle.sym_places.proofs.Holding.{held_is, held_laid}
use Rattle.sym_places.specs.Placing.{AllHold}
use Rattle.sym_places.specs.Reads.{held_by, picked_from, picked, read_built, SaysRead, ReadLaw}
use Rattle.sym_spots.proofs.SpotValues.{spot_is}
use Rattle.sym_spots.proofs.Spreads.{Only}
use Rattle.sym_spots.specs.Spots.{MadeSpot, spot_built, any_true, AreAt, SaysPlace}
use Rattle.sym_spots.specs.declared.aims.Aim.{Aim}
use Rattle.sym_store.proofs.Choices.{value_merged}
use Rattle.sym_store.specs.Merging.{MadeValue, merged_value}
use Rattle.sym_store.specs.Stores.{LitStore, StandsFor, IsStoreLaid}
use Rattle.sym_values.specs.Valuations.{Valuation, IsValuation}
use Rattle.sym_values.specs.Values.{value_under, IsLaid}

or_last : (a : Bool) → (a || false) ≡ true → a ≡ true
or_last true e = refl
or_last false e = e

or_assoc : (a b c : Bool) → (a || (b || c)) ≡ ((a || b) || c)
or_assoc true b c = refl
or_assoc false b c = refl

choose : (b done : Bool) (m y x value : Option Value) → (b ≡ true → m ≡ y) → (b ≡ false → m ≡ x) → (b ≡ true → y ≡ value) → (done ≡ true → x ≡ value) → (done || b) ≡ true → m ≡ value
choose true done m y x value first second one before e = first refl ∙ one refl
choose false done m y x value first second one before e = second refl ∙ before (or_last done e)

module _ (v : Valuation) (objects : List CoreObject) (shapes : List Shape) (s : LitStore) (shape : Shape) (fits : AllByRecursion ObjectFits objects) (store_laid : IsStoreLaid shapes (store_shapes objects) s) where
  pub record IsPicked (ns : List Node) (x : SymValue) (aims : List Aim) (m : MadeValue) : Type 0 where
    pub back : IsValuation m.nodes v → IsValuation ns v
    pub laid : IsLaid shape m.value
    pub value : IsValuation m.nodes v → (state : State) (place : Place) (done : Bool) → StandsFor v s state → Only v place aims → (done ≡ true → value_under v x ≡ Some (held objects state place)) → (done || any_true v aims) ≡ true
        → value_under v m.value ≡ Some (held objects state place)

  pub from_is : (ns : List Node) (x : SymValue) (aims : List Aim) → IsLaid shape x → AllHold objects shapes shape aims → IsPicked ns x aims (picked_from objects s ns x aims)
  unfolding picked_from
  from_is ns x [] l h = record { back = λ k. k; laid = l; value = λ k state place done st only f e. f (or_last done e) }
  from_is ns x (a ∷ more) l h =
      let y = held_by objects s a.target in
      let M = merged_value ns a.lit y x in
      let m = value_merged v a.lit ns shape y x (held_laid objects shapes s shape a.target fits store_laid h.0) l in
      let rest = from_is M.nodes M.value more m.laid h.1 in
      record {
        back = λ k. m.back (rest.back k);
        laid = rest.laid;
        value = λ k state place done st only f e.
            let g = rest.back k in
            rest.value k state place (done || v a.lit) st only.1
            (choose (v a.lit) done (value_under v M.value) (value_under v y) (value_under v x) (Some (held objects state place)) (m.first g) (m.second g)
            (λ t. held_is v ns (m.back g) objects s state a.target fits st ∙ ap (λ p. Some (held objects state p)) (only.0 t)) f)
            (sym (or_assoc done (v a.lit) (any_true v more)) ∙ e);
      }

  pub record IsPick (ns : List Node) (aims : List Aim) (m : MadeValue) : Type 0 where
    pub back : IsValuation m.nodes v → IsValuation ns v
    pub laid : IsLaid shape m.value
    pub value : IsValuation m.nodes v → (state : State) (place : Place) → StandsFor v s state → AreAt v aims place → value_under v m.value ≡ Some (held objects state place)

  pub picked_is : (ns : List Node) (aims : List Aim) → AllHold objects shapes shape aims → IsPick ns aims (picked objects s ns shape aims)
  picked_is ns [] h = record { back = λ k. k; laid = zero_is.laid shape; value = λ k state place st at. absurd (true≢false (sym at.some)) }
  picked_is ns (a ∷ more) h =
      let x = held_by objects s a.target in
      let m = from_is ns x more (held_laid objects shapes s shape a.target fits store_laid h.0) h.1 in
      record {
        back = m.back;
        laid = m.laid;
        value = λ k state place st at.
            m.value k state place (v a.lit) st at.only.1 (λ t. held_is v ns (m.back k) objects s state a.target fits st ∙ ap (λ p. Some (held objects state p)) (at.only.0 t)) at.some;
      }

  says_by : (m : MadeSpot) (x : MadeValue) (state : State) (r : Result Place Trap) → SaysPlace v m r → ((place : Place) → AreAt v m.aims place → value_under v x.value ≡ Some (held objects state place))
      → SaysRead v objects state (record { nodes = x.nodes; value = x.value; traps = m.traps }) r
  says_by m x state (Ok place) says f = (says.0, f place says.1)
  says_by m x state (Err t) says f = says

pub read_is : ReadLaw
unfolding read_built
read_is v objects shapes s ns spot shape fits laid spot_fits =
    let M = spot_built objects shapes s.registers ns spot in
    let m = spot_is v objects shapes s.registers ns spot laid.of_registers in
    let X = picked objects s M.nodes shape M.aims in
    let x = picked_is v objects shapes s shape fits laid M.nodes M.aims (spot_holds objects shapes s.registers shape ns false spot spot_fits) in
    record {
      back = λ h. m.back (x.back h);
      laid = x.laid;
      says = λ h state st known.
          says_by v objects shapes s shape fits laid M X state (place_of objects shapes state.registers spot) (m.says (x.back h) state.registers st.of_registers known) (λ place at. x.value h state place st at);
    }
