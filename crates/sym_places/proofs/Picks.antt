-- The loop over the aims of a read.
use Rattle.std.proofs.Common.{◌≡◌, ℕ, zero, suc, ◌+◌, ◌<◌, ◌≤◌, ◌==◌, Bool, true, false, List, [], ◌∷◌, length, drop, refl, sym, ap, ◌∙◌, arith, subst, get_or, add-one, drop-cons}
use Rattle.std.specs.List.{AllByRecursion}
use Rattle.std.proofs.lemmas.Bool.{eqb-true}
use Rattle.aig_build.proofs.Nodes.{Grows-refl, Grows-trans}
use Rattle.aig_build.specs.Circuits.{Node, Grows}
use Rattle.bit_ops.specs.declared.values.SymValue.{SymValue}
use Rattle.bit_words.specs.Words.{AreThere}
use Rattle.core_ir.specs.Cells.{store_shapes}
use Rattle.core_ir.specs.Fits.{ObjectFits, SpotFits}
use Rattle.core_ir.specs.declared.cores.CoreObject.{CoreObject}
use Rattle.core_ir.specs.declared.units.Shape.{Shape}
use Rattle.core_ir.specs.declared.units.Spot.{Spot}
use Rattle.sym_constants.specs.Constants.{zero_value}
use Rattle.sym_places.proofs.AimsHold.{spot_holds}
use Rattle.sym_places.proofs.Holding.{held_laid}
use Rattle.sym_places.proofs.There.{held_there}
use Rattle.sym_places.specs.Loops.{Suits, IsPicking}
use Rattle.sym_places.specs.Placing.{Holds, AllHold}
use Rattle.sym_places.specs.Reads.{held_by, picked_from, picked, read_built}
use Rattle.sym_spots.proofs.Loops.{drop_all}
use Rattle.sym_spots.specs.Spots.{MadeSpot, spot_built}
use Rattle.sym_spots.specs.declared.aims.Aim.{Aim}
use Rattle.sym_store.proofs.Choices.{alike, value_merged}
use Rattle.sym_store.specs.Merging.{MadeValue, merged_value, IsAlike}
use Rattle.sym_store.specs.Stores.{LitStore, IsStoreThere, IsStoreLaid}
use Rattle.sym_values.specs.Values.{lits_of, IsLaid}

pub one_alike : (shape : Shape) (x y : SymValue) → IsLaid shape x → IsLaid shape y → IsAlike x y
one_alike shape x y p q = (alike (shape ∷ []) (x ∷ []) (y ∷ []) (p, tt) (q, tt)).0

pub hold_at : (objects : List CoreObject) (shapes : List Shape) (shape : Shape) (aims : List Aim) (at : ℕ) (d : Aim) → AllHold objects shapes shape aims → at < length aims → Holds objects shapes shape (get_or aims at d).target
hold_at objects shapes shape [] at d h p = absurd (omega arith)
hold_at objects shapes shape (a ∷ more) zero d h p = h.0
hold_at objects shapes shape (a ∷ more) (suc n) d h p = hold_at objects shapes shape more n d h.1 (omega arith)

-- ---- the loop

pub no_aims : (n : ℕ) → true ≡ (n == 0) → n ≡ 0
no_aims n e = eqb-true n 0 (sym e)

pub some_aims : (n : ℕ) → false ≡ (n == 0) → 0 < n
some_aims zero e = cc
some_aims (suc n) e = omega arith

module _ (objects : List CoreObject) (s : LitStore) (shape : Shape) where
  pub aim_laid : (aims : List Aim) (at : ℕ) (d : Aim) → Suits objects s shape aims → at < length aims → IsLaid shape (held_by objects s (get_or aims at d).target)
  aim_laid aims at d u p = held_laid objects u.shapes s shape (get_or aims at d).target u.fits u.laid (hold_at objects u.shapes shape aims at d u.hold p)

  pub aim_alike : (aims : List Aim) (at : ℕ) (d : Aim) (here x : SymValue) → Suits objects s shape aims → at < length aims → here ≡ held_by objects s (get_or aims at d).target → IsLaid shape x → IsAlike here x
  aim_alike aims at d here x u p e l = one_alike shape here x (subst (IsLaid shape) (sym e) (aim_laid aims at d u p)) l

  from_step : (now : List Node) (x y : SymValue) (a : Aim) (more : List Aim) (m : MadeValue) → y ≡ held_by objects s a.target → merged_value now a.lit y x ≡ m → picked_from objects s m.nodes m.value more ≡ picked_from objects s now x (a ∷ more)
  unfolding picked_from
  from_step now x y a more m f e =
      sym (ap (λ h. picked_from objects s (merged_value now a.lit h x).nodes (merged_value now a.lit h x).value more) (sym f) ∙ ap (λ (t : MadeValue). picked_from objects s t.nodes t.value more) e)

  from_none : (now : List Node) (x : SymValue) → picked_from objects s now x [] ≡ record { nodes = now; value = x }
  unfolding picked_from
  from_none now x = refl

  pub picking_first : (ns : List Node) (aims : List Aim) (d : Aim) (x : SymValue) → 0 < length aims → x ≡ held_by objects s (get_or aims 0 d).target → Suits objects s shape aims → IsStoreThere ns s → 0 < length ns → IsPicking objects s shape ns ns x aims 1
  picking_first ns [] d x p e u t some = absurd (omega arith)
  picking_first ns (a ∷ more) d x p e u t some =
      subst (λ y. IsPicking objects s shape ns ns y (a ∷ more) 1) (sym e)
      (record { resumes = refl; grows = Grows-refl ns; there = held_there ns some objects s a.target t; laid = aim_laid (a ∷ more) 0 d u p })

  pub picking_more : (first now new : List Node) (x here next : SymValue) (aims : List Aim) (at : ℕ) (d : Aim) → IsPicking objects s shape first now x aims at → at < length aims → Suits objects s shape aims → here ≡ held_by objects s (get_or aims at d).target
      → merged_value now (get_or aims at d).lit here x ≡ record { nodes = new; value = next } → AreThere new (lits_of next) → Grows now new → IsPicking objects s shape first new next aims (at + 1)
  picking_more first now new x here next aims at d k p u f e t g = record {
    resumes = rw add-one (from_step now x here (get_or aims at d) (drop (suc at) aims) (record { nodes = new; value = next }) f e ∙ ap (picked_from objects s now x) (sym (drop-cons aims at d p)) ∙ k.resumes);
    grows = Grows-trans _ _ _ k.grows g;
    there = t;
    laid = subst (λ (m : MadeValue). IsLaid shape m.value) e (value_merged (λ _. false) (get_or aims at d).lit now shape here x (subst (IsLaid shape) (sym f) (aim_laid aims at d u p)) k.laid).laid;
  }

  pub picking_all : (first now : List Node) (x : SymValue) (aims : List Aim) (at : ℕ) → IsPicking objects s shape first now x aims at → length aims ≤ at → picked objects s first shape aims ≡ record { nodes = now; value = x }
  picking_all first now x aims at k p = sym k.resumes ∙ ap (picked_from objects s now x) (drop_all at aims p) ∙ from_none now x

  pub picked_none : (ns : List Node) (aims : List Aim) (x : SymValue) → length aims ≡ 0 → x ≡ zero_value shape → picked objects s ns shape aims ≡ record { nodes = ns; value = x }
  picked_none ns [] x p e = λ i. record { nodes = ns; value = sym e i }
  picked_none ns (a ∷ more) x p e = absurd (omega arith)

-- ---- the read

pub spot_suits : (objects : List CoreObject) (shapes : List Shape) (s : LitStore) (shape : Shape) (registers : List SymValue) (ns : List Node) (writes : Bool) (spot : Spot) (m : MadeSpot) → AllByRecursion ObjectFits objects → IsStoreLaid shapes (store_shapes objects) s
    → SpotFits objects shapes writes spot shape → spot_built objects shapes registers ns spot ≡ m → Suits objects s shape m.aims
spot_suits objects shapes s shape registers ns writes spot m fits laid spot_fits e = record {
  shapes = shapes;
  fits = fits;
  laid = laid;
  hold = subst (λ (x : MadeSpot). AllHold objects shapes shape x.aims) e (spot_holds objects shapes registers shape ns writes spot spot_fits);
}

pub read_made : (objects : List CoreObject) (shapes : List Shape) (s : LitStore) (registers : List SymValue) (ns : List Node) (spot : Spot) (shape : Shape) (m : MadeSpot) (passed : List Aim) (x : MadeValue) → registers ≡ s.registers → spot_built objects shapes registers ns spot ≡ m → passed ≡ m.aims → picked objects s m.nodes shape passed ≡ x
    → read_built objects shapes s ns spot shape ≡ record { nodes = x.nodes; value = x.value; traps = m.traps }
unfolding read_built
read_made objects shapes s registers ns spot shape m passed x r e p f =
    ap (λ (t : MadeSpot). let y = picked objects s t.nodes shape t.aims in record { nodes = y.nodes; value = y.value; traps = t.traps }) (ap (λ rs. spot_built objects shapes rs ns spot) (sym r) ∙ e)
    ∙ ap (λ (y : MadeValue). record { nodes = y.nodes; value = y.value; traps = m.traps }) (ap (picked objects s m.nodes shape) (sym p) ∙ f)
