-- A spot is where its true aims are, or traps as its literals say.
use Rattle.std.proofs.Common.{◌≡◌, ℕ, zero, suc, ◌+◌, ◌==◌, ◌||◌, Bool, true, false, not, List, [], ◌∷◌, Option, Some, None, Result, Ok, Err, refl, sym, ap, ◌∙◌, subst, arith, if◌then◌else◌}
use Rattle.std.specs.Prelude.{slice_get}
use Rattle.std.proofs.lemmas.Bool.{ne_eqb}
use Rattle.std.proofs.lemmas.Option.{none-some, same_Some}
use Rattle.aig_build.specs.Circuits.{Node, constant, opposite}
use Rattle.aig_build.specs.declared.lits.Lit.{Lit}
use Rattle.bit_ops.specs.declared.values.SymValue.{SymValue}
use Rattle.bit_ops.specs.declared.values.SymValue.TheVariants.{Word, Pointer}
use Rattle.aig_build.specs.Built.{and_built}
use Rattle.bit_words.specs.Built.{sign_bit}
use Rattle.bit_words.specs.Words.{LitWord}
use Rattle.core_ir.specs.Places.{Place, In_object, register, begins_at, behind, in_object, offset_from, pointee, place_of}
use Rattle.core_ir.specs.declared.cores.CoreObject.{CoreObject}
use Rattle.core_ir.specs.declared.units.Index.{Index}
use Rattle.core_ir.specs.declared.units.Shape.{Shape}
use Rattle.core_ir.specs.declared.units.Spot.{Spot}
use Rattle.core_ir.specs.declared.units.Spot.TheVariants as spot
use Rattle.rvt_num.specs.declared.values.Trap.{Trap}
use Rattle.rvt_num.specs.declared.values.Trap.TheVariants as trap
use Rattle.rvt_num.specs.declared.values.Value.{Value}
use Rattle.rvt_num.specs.declared.values.Value.TheVariants.{Null, At}
use Rattle.sym_constants.specs.Tests.{test_built}
use Rattle.sym_spots.proofs.Indexing.{at_register, register_under, place_from, SaysIndexed, indexed_is}
use Rattle.sym_spots.proofs.Pointing.{found, found_is, word_is, pointed_is}
use Rattle.sym_constants.proofs.Testing.{test_is}
use Rattle.sym_spots.proofs.Spreads.{Only, spread_is}
use Rattle.sym_values.proofs.Conjunctions.{conjunction}
use Rattle.sym_values.proofs.Ripples.{or_gives}
use Rattle.sym_spots.specs.Aims.{meant, MadeAims, starts_of, pointed_built, word_test, word_tests, index_tests, spread, indexed}
use Rattle.sym_spots.specs.Spots.{MadeSpot, fixed_built, behind_built, spot_built, any_true, AreAt, SaysPlace, IsKnown, PointerIsKnown, SpotLaw}
use Rattle.sym_spots.specs.declared.aims.Aim.{Aim}
use Rattle.sym_spots.specs.declared.aims.Target.{Target}
use Rattle.sym_spots.specs.declared.aims.Target.TheVariants.{Cell, Register}
use Rattle.sym_values.specs.Valuations.{Valuation, IsValuation}
use Rattle.sym_values.specs.Values.{pattern_under, pointer_of, values_under, AreLaid}

abbrev trap_of : Bool → Bool → Bool → Option Trap
trap_of null place index = if null then Some trap.Null else (if place then Some trap.Place else (if index then Some trap.Index else None))

module _ (v : Valuation) where
  abbrev made : MadeAims → Lit → Lit → MadeSpot
  made m null place = record { nodes = m.nodes; aims = m.aims; traps = record { index = opposite m.any; null = null; place = place } }

  -- where neither the null nor the place trap is true, the indexes decide
  finish : (m : MadeAims) (any null place : Lit) (aims : List Aim) (from : Place) (r : Result Place Trap) → IsValuation m.nodes v → v any ≡ true → v null ≡ false → v place ≡ false → AreAt v aims from
      → SaysIndexed v any aims from m r → SaysPlace v (made m null place) r
  finish m any null place aims from (Ok p) h a n q at s =
      let inside : v (opposite m.any) ≡ false = h.of_opposite m.any ∙ ap not (s.0 ∙ a) in
      ((λ i. trap_of (n i) (q i) (inside i)), s.1 at)
  finish m any null place aims from (Err t) h a n q at s =
      let outside : v (opposite m.any) ≡ true = h.of_opposite m.any ∙ ap not s.0 in
      (λ i. trap_of (n i) (q i) (outside i)) ∙ ap (λ x. Some x) (sym s.1)

  true_is : (ns : List Node) → IsValuation ns v → v (constant true) ≡ true
  true_is ns h = h.of_opposite (constant false) ∙ ap not h.of_constant

  module _ (objects : List CoreObject) (shapes : List Shape) (registers : List SymValue) (values : List Value) (laid : AreLaid shapes registers) (under : values_under v registers ≡ Some values) where
    record Says (ns : List Node) (m : MadeSpot) (r : Result Place Trap) : Type 0 where
      back : IsValuation m.nodes v → IsValuation ns v
      says : IsValuation m.nodes v → SaysPlace v m r

    fixed_is : (ns : List Node) (target : Target) (is : List Index) → Says ns (fixed_built registers ns target is) (place_from v values is (meant target))
    fixed_is ns target is =
        let aims = record { lit = constant true; target = target } ∷ [] in
        let m = indexed registers ns aims (constant true) is in
        let f = indexed_is v shapes registers values ns aims (constant true) is laid under in
        record {
          back = f.back;
          says = λ h. let g = f.back h in
              finish m (constant true) (constant false) (constant false) aims (meant target) (place_from v values is (meant target)) h (true_is ns g) g.of_constant g.of_constant
              (record { some = ap (λ b. b || false) (true_is ns g); only = (λ e. refl, tt) }) (f.says h (meant target));
        }

    module _ (type : Option ℕ) (cells : ℕ) (is : List Index) where
      abbrev next : ℕ → Result ℕ Trap
      next c = offset_from values is (c + cells)

      abbrev no_pointer : List Node → MadeSpot
      no_pointer ns = record { nodes = ns; aims = []; traps = record { index = constant false; null = constant true; place = constant false } }

      null_says : (ns : List Node) (x y : Value) → y ≡ x → behind objects type y next ≡ Err trap.Null → Says ns (no_pointer ns) (behind objects type x next)
      null_says ns x y e b = record {
        back = λ h. h;
        says = λ h. subst (SaysPlace v (no_pointer ns)) (sym b ∙ ap (λ z. behind objects type z next) e) (ap (λ t. trap_of t (v (constant false)) (v (constant false))) (true_is ns h));
      }

      -- a pointer with these two numbers
      pointer_says : (O C : ℕ) (x : Value) (n : Lit) (P m : MadeAims) → pointer_of O C ≡ Some x → IsKnown objects x → IsValuation m.nodes v
          → v n ≡ (O == 0) → v (opposite P.any) ≡ not (found O C (starts_of objects type)) → any_true v P.aims ≡ found O C (starts_of objects type)
          → ((k : ℕ) → O ≡ suc k → Only v (In_object k (C + cells)) P.aims) → v (constant true) ≡ true
          → ((from : Place) → SaysIndexed v (constant true) P.aims from m (place_from v values is from))
          → SaysPlace v (made m n (opposite P.any)) (behind objects type x next)
      pointer_says zero zero x n P m e known h null place some only t says =
          subst (λ y. SaysPlace v (made m n (opposite P.any)) (behind objects type y next)) (same_Some Null x e) (ap (λ b. trap_of b (v (opposite P.any)) (v (opposite m.any))) null)
      pointer_says zero (suc C) x n P m e known h null place some only t says = absurd (none-some _ e)
      pointer_says (suc k) C x n P m e known h null place some only t says =
          let same : At k C ≡ x = same_Some (At k C) x e in
          let known_at : IsKnown objects (At k C) = subst (IsKnown objects) (sym same) known in
          let here = found_is objects type k C known_at.0 known_at.1 known_at.2 in
          subst (λ y. SaysPlace v (made m n (opposite P.any)) (behind objects type y next)) same (by (begins_at objects type k C) here)
        where
          lit_null : v n ≡ false
          lit_null = null ∙ ne_eqb (suc k) 0 (λ q. let no : ⊥ = omega (arith, q) in no)

          by : (b : Bool) → found (suc k) C (starts_of objects type) ≡ b → SaysPlace v (made m n (opposite P.any)) (if b then in_object k (next C) else Err trap.Place)
          by false f = λ i. trap_of (lit_null i) ((place ∙ ap not f) i) (v (opposite m.any))
          by true f =
              finish m (constant true) n (opposite P.any) P.aims (In_object k (C + cells)) (in_object k (next C)) h t lit_null (place ∙ ap not f) (record { some = some ∙ f; only = only k refl }) (says (In_object k (C + cells)))

      behind_is : (ns : List Node) (s : Option SymValue) (x : Value) → at_register v s ≡ Some x → IsKnown objects x → Says ns (behind_built (starts_of objects type) cells registers ns is s) (behind objects type x next)
      behind_is ns None x e known = null_says ns x Null (same_Some Null x e) refl
      behind_is ns (Some (Word w)) x e known = null_says ns x _ (same_Some _ x e) refl
      behind_is ns (Some (Pointer o c)) x e known =
          let N = test_built ns (constant true) o.bits 0 in
          let null = word_is v ns o 0 in
          let P = pointed_built o c cells N.nodes [] (constant false) (starts_of objects type) in
          let p = pointed_is v o c cells N.nodes [] (constant false) (starts_of objects type) in
          let M = indexed registers P.nodes P.aims (constant true) is in
          let m = indexed_is v shapes registers values P.nodes P.aims (constant true) is laid under in
          record {
            back = λ h. null.back (p.back (m.back h));
            says = λ h.
                let g = m.back h in
                let f = p.back g in
                pointer_says (pattern_under v o) (pattern_under v c) x N.lit P M e known h (null.is f)
                (g.of_opposite P.any ∙ ap not (p.any_is g ∙ ap (λ b. b || found (pattern_under v o) (pattern_under v c) (starts_of objects type)) f.of_constant))
                (p.some g) (λ k q. p.only g k q tt) (true_is P.nodes g) (m.says h);
          }

    spot_by : (ns : List Node) (s : Spot) → PointerIsKnown objects values s → Says ns (spot_built objects shapes registers ns s) (place_of objects shapes values s)
    unfolding spot_built
    spot_by ns (spot.Cell o c is) known = fixed_is ns (Cell o c) is
    spot_by ns (spot.Local r is) known = fixed_is ns (Register r) is
    spot_by ns (spot.Through p cells is) known =
        behind_is (pointee (slice_get shapes p)) cells is ns (slice_get registers p) (register values p) (register_under v registers values p under) known

-- the values of the circuit before do not depend on where the spot is
module _ (v : Valuation) (registers : List SymValue) where
  word_back : (ns : List Node) (w : LitWord) (n : ℕ) → IsValuation (word_tests ns w n).nodes v → IsValuation ns v
  unfolding word_tests
  word_back ns w zero h = h
  word_back ns w (suc n) h =
      let m = word_tests ns w n in
      let t = word_test m.nodes w n in
      word_back ns w n ((test_is v m.nodes (opposite (sign_bit w)) w.bits n).back ((or_gives v t.nodes m.any t.lit).back h))

  tests_back : (ns : List Node) (s : Option SymValue) (count : ℕ) → IsValuation (index_tests ns s count).nodes v → IsValuation ns v
  tests_back ns None count h = h
  tests_back ns (Some (Word w)) count h = word_back ns w count h
  tests_back ns (Some (Pointer o c)) count h = h

  indexed_back : (ns : List Node) (aims : List Aim) (any : Lit) (is : List Index) → IsValuation (indexed registers ns aims any is).nodes v → IsValuation ns v
  unfolding indexed
  indexed_back ns aims any [] h = h
  indexed_back ns aims any (i ∷ is) h =
      let t = index_tests ns (slice_get registers i.register) i.count in
      let a = and_built t.nodes any t.any in
      let m = spread i.size t.lits a.nodes [] aims in
      tests_back ns (slice_get registers i.register) i.count ((conjunction v t.nodes any t.any).back ((spread_is v a.nodes i.size None t.lits [] aims).back (indexed_back m.nodes m.aims a.lit is h)))

  behind_back : (ns : List Node) (starts : List (ℕ × ℕ)) (cells : ℕ) (is : List Index) (s : Option SymValue) → IsValuation (behind_built starts cells registers ns is s).nodes v → IsValuation ns v
  behind_back ns starts cells is None h = h
  behind_back ns starts cells is (Some (Word w)) h = h
  behind_back ns starts cells is (Some (Pointer o c)) h =
      let n = test_built ns (constant true) o.bits 0 in
      let p = pointed_built o c cells n.nodes [] (constant false) starts in
      (word_is v ns o 0).back ((pointed_is v o c cells n.nodes [] (constant false) starts).back (indexed_back p.nodes p.aims (constant true) is h))

  spot_back : (objects : List CoreObject) (shapes : List Shape) (ns : List Node) (s : Spot) → IsValuation (spot_built objects shapes registers ns s).nodes v → IsValuation ns v
  unfolding spot_built
  spot_back objects shapes ns (spot.Cell o c is) h = indexed_back ns (record { lit = constant true; target = Cell o c } ∷ []) (constant true) is h
  spot_back objects shapes ns (spot.Local r is) h = indexed_back ns (record { lit = constant true; target = Register r } ∷ []) (constant true) is h
  spot_back objects shapes ns (spot.Through p cells is) h = behind_back ns (starts_of objects (pointee (slice_get shapes p))) cells is (slice_get registers p) h

pub spot_is : SpotLaw
spot_is v objects shapes registers ns s laid = record {
  back = spot_back v registers objects shapes ns s;
  says = λ h values under known. (spot_by v objects shapes registers values laid under ns s known).says h;
}
