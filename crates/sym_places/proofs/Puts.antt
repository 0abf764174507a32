-- The loop over the aims of a write.
use Rattle.std.proofs.Common.{◌≡◌, ℕ, suc, ◌+◌, ◌<◌, ◌≤◌, true, false, List, [], ◌∷◌, length, drop, refl, sym, ap, ◌∙◌, subst, get_or, add-one, drop-cons}
use Rattle.std.specs.List.{AllByRecursion}
use Rattle.aig_build.proofs.Nodes.{Grows-refl, Grows-trans}
use Rattle.aig_build.specs.Built.{Made, and_built}
use Rattle.aig_build.specs.Circuits.{Node, Grows}
use Rattle.aig_build.specs.declared.lits.Lit.{Lit}
use Rattle.bit_ops.specs.declared.values.SymValue.{SymValue}
use Rattle.core_ir.specs.Cells.{store_shapes}
use Rattle.core_ir.specs.Fits.{ObjectFits}
use Rattle.core_ir.specs.declared.cores.CoreObject.{CoreObject}
use Rattle.core_ir.specs.declared.units.Shape.{Shape}
use Rattle.core_ir.specs.declared.units.Spot.{Spot}
use Rattle.sym_places.proofs.Holding.{held_laid}
use Rattle.sym_places.proofs.Picks.{one_alike, hold_at, spot_suits}
use Rattle.sym_places.proofs.WriteValues.{put_one_is}
use Rattle.sym_places.specs.Loops.{MayTake, FitsAt, IsPutting}
use Rattle.sym_places.specs.Reads.{held_by}
use Rattle.sym_places.specs.Writes.{with_held, put_one, put, write_built}
use Rattle.sym_spots.proofs.Loops.{drop_all}
use Rattle.sym_spots.specs.Spots.{MadeSpot, spot_built}
use Rattle.sym_spots.specs.declared.aims.Aim.{Aim}
use Rattle.sym_store.specs.Merging.{MadeValue, merged_value, IsAlike}
use Rattle.sym_store.specs.Stores.{LitStore, MadeStore, IsStoreThere, IsStoreLaid}
use Rattle.sym_values.specs.Values.{IsLaid}

module _ (objects : List CoreObject) (guard : Lit) (x : SymValue) where
  -- ---- one aim

  pub put_alike : (s : LitStore) (a : Aim) (y : SymValue) → MayTake objects s (a ∷ []) x → y ≡ held_by objects s a.target → IsAlike x y
  put_alike s a y t e =
      let u = t.places in
      one_alike t.shape x y t.is_laid (subst (IsLaid t.shape) (sym e) (held_laid objects u.shapes s t.shape a.target u.fits u.laid u.hold.0))

  pub one_made : (ns : List Node) (s after : LitStore) (a : Aim) (g : Made) (y : SymValue) (m : MadeValue) → and_built ns guard a.lit ≡ g → y ≡ held_by objects s a.target → merged_value g.nodes g.lit x y ≡ m → after ≡ with_held objects s a.target m.value
      → put_one objects guard x ns s a ≡ record { nodes = m.nodes; store = after }
  unfolding put_one
  one_made ns s after a g y m e f h k =
      ap (λ (b : Made). let n = merged_value b.nodes b.lit x (held_by objects s a.target) in record { nodes = n.nodes; store = with_held objects s a.target n.value }) e
      ∙ ap (λ z. let n = merged_value g.nodes g.lit x z in record { nodes = n.nodes; store = with_held objects s a.target n.value }) (sym f)
      ∙ ap (λ (n : MadeValue). record { nodes = n.nodes; store = with_held objects s a.target n.value }) h
      ∙ ap (λ t. record { nodes = m.nodes; store = t }) (sym k)

  -- ---- the loop

  pub one_takes : (s : LitStore) (aims : List Aim) (at : ℕ) (d : Aim) → MayTake objects s aims x → at < length aims → MayTake objects s (get_or aims at d ∷ []) x
  one_takes s aims at d t p = record {
    shape = t.shape;
    places = record { shapes = t.places.shapes; fits = t.places.fits; laid = t.places.laid; hold = (hold_at objects t.places.shapes t.shape aims at d t.places.hold p, tt) };
    is_laid = t.is_laid;
  }

  next_takes : (ns : List Node) (s : LitStore) (aims : List Aim) (at : ℕ) (d : Aim) (m : MadeStore) → MayTake objects s aims x → at < length aims → put_one objects guard x ns s (get_or aims at d) ≡ m → MayTake objects m.store aims x
  next_takes ns s aims at d m t p e =
      let u = t.places in
      let one = put_one_is (λ _. false) objects u.shapes t.shape u.fits guard x t.is_laid ns s (get_or aims at d) u.laid (hold_at objects u.shapes t.shape aims at d u.hold p) in
      record {
        shape = t.shape;
        places = record { shapes = u.shapes; fits = u.fits; laid = subst (λ (n : MadeStore). IsStoreLaid u.shapes (store_shapes objects) n.store) e one.laid; hold = u.hold };
        is_laid = t.is_laid;
      }

  put_step : (now : List Node) (s : LitStore) (a : Aim) (more : List Aim) (m : MadeStore) → put_one objects guard x now s a ≡ m → put objects guard x m.nodes m.store more ≡ put objects guard x now s (a ∷ more)
  unfolding put
  put_step now s a more m e = sym (ap (λ (n : MadeStore). put objects guard x n.nodes n.store more) e)

  put_none : (now : List Node) (s : LitStore) → put objects guard x now s [] ≡ record { nodes = now; store = s }
  unfolding put
  put_none now s = refl

  pub putting_first : (ns : List Node) (s : LitStore) (aims : List Aim) → IsStoreThere ns s → MayTake objects s aims x → IsPutting objects guard x ns ns s s aims 0
  putting_first ns s aims t u = record { resumes = refl; grows = Grows-refl ns; there = t; takes = u }

  pub putting_more : (first now new : List Node) (before s next : LitStore) (aims : List Aim) (at : ℕ) (d : Aim) → IsPutting objects guard x first now before s aims at → at < length aims
      → put_one objects guard x now s (get_or aims at d) ≡ record { nodes = new; store = next } → IsStoreThere new next → Grows now new → IsPutting objects guard x first new before next aims (at + 1)
  putting_more first now new before s next aims at d k p e t g = record {
    resumes = rw add-one (put_step now s (get_or aims at d) (drop (suc at) aims) (record { nodes = new; store = next }) e ∙ ap (put objects guard x now s) (sym (drop-cons aims at d p)) ∙ k.resumes);
    grows = Grows-trans _ _ _ k.grows g;
    there = t;
    takes = next_takes now s aims at d (record { nodes = new; store = next }) k.takes p e;
  }

  pub putting_all : (first now : List Node) (before s : LitStore) (aims : List Aim) (at : ℕ) → IsPutting objects guard x first now before s aims at → length aims ≤ at → put objects guard x first before aims ≡ record { nodes = now; store = s }
  putting_all first now before s aims at k p = sym k.resumes ∙ ap (put objects guard x now s) (drop_all at aims p) ∙ put_none now s

  -- ---- the write

  pub spot_takes : (shapes : List Shape) (s : LitStore) (registers : List SymValue) (ns : List Node) (spot : Spot) (m : MadeSpot) → AllByRecursion ObjectFits objects → IsStoreLaid shapes (store_shapes objects) s → FitsAt objects shapes spot x
      → spot_built objects shapes registers ns spot ≡ m → MayTake objects s m.aims x
  spot_takes shapes s registers ns spot m fits laid f e = record { shape = f.shape; places = spot_suits objects shapes s f.shape registers ns true spot m fits laid f.fits e; is_laid = f.is_laid }

  pub write_made : (shapes : List Shape) (s : LitStore) (registers : List SymValue) (ns : List Node) (spot : Spot) (m : MadeSpot) (passed : List Aim) (w : MadeStore) → registers ≡ s.registers → spot_built objects shapes registers ns spot ≡ m → passed ≡ m.aims → put objects guard x m.nodes s passed ≡ w
      → write_built objects shapes s ns spot x guard ≡ record { nodes = w.nodes; store = w.store; traps = m.traps }
  unfolding write_built
  write_made shapes s registers ns spot m passed w r e p f =
      ap (λ (t : MadeSpot). let y = put objects guard x t.nodes s t.aims in record { nodes = y.nodes; store = y.store; traps = t.traps }) (ap (λ rs. spot_built objects shapes rs ns spot) (sym r) ∙ e)
      ∙ ap (λ (y : MadeStore). record { nodes = y.nodes; store = y.store; traps = m.traps }) (ap (put objects guard x m.nodes s) (sym p) ∙ f)
