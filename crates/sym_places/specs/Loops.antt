-- What the loops over aims keep: what is made at those that are left, after what is there, is what is made at all.
use Rattle.std.specs.Prelude.{◌≡◌, ℕ, true, List, drop}
use Rattle.std.specs.List.{AllByRecursion}
use Rattle.aig_build.specs.Circuits.{Node, Grows}
use Rattle.aig_build.specs.declared.lits.Lit.{Lit}
use Rattle.bit_ops.specs.declared.values.SymValue.{SymValue}
use Rattle.bit_words.specs.Words.{AreThere}
use Rattle.core_ir.specs.Cells.{store_shapes}
use Rattle.core_ir.specs.Fits.{ObjectFits, SpotFits}
use Rattle.core_ir.specs.declared.cores.CoreObject.{CoreObject}
use Rattle.core_ir.specs.declared.units.Shape.{Shape}
use Rattle.core_ir.specs.declared.units.Spot.{Spot}
use Rattle.sym_places.specs.Placing.{AllHold}
use Rattle.sym_places.specs.Reads.{picked_from, picked}
use Rattle.sym_places.specs.Writes.{put}
use Rattle.sym_spots.specs.declared.aims.Aim.{Aim}
use Rattle.sym_store.specs.Stores.{LitStore, IsStoreThere, IsStoreLaid}
use Rattle.sym_values.specs.Values.{lits_of, IsLaid}

-- the aims are at places of the store that hold values of the shape
pub record Suits (objects : List CoreObject) (s : LitStore) (shape : Shape) (aims : List Aim) : Type 0 where
  pub shapes : List Shape
  pub fits : AllByRecursion ObjectFits objects
  pub laid : IsStoreLaid shapes (store_shapes objects) s
  pub hold : AllHold objects shapes shape aims

-- the aims are at places of the store that may take the value
pub record MayTake (objects : List CoreObject) (s : LitStore) (aims : List Aim) (x : SymValue) : Type 0 where
  pub shape : Shape
  pub places : Suits objects s shape aims
  pub is_laid : IsLaid shape x

-- the spot is one that may be written, and the value has the layout of what stands there
pub record FitsAt (objects : List CoreObject) (shapes : List Shape) (spot : Spot) (x : SymValue) : Type 0 where
  pub shape : Shape
  pub fits : SpotFits objects shapes true spot shape
  pub is_laid : IsLaid shape x

-- ---- the loops

pub record IsPicking (objects : List CoreObject) (s : LitStore) (shape : Shape) (first now : List Node) (x : SymValue) (aims : List Aim) (at : ℕ) : Type 0 where
  pub resumes : picked_from objects s now x (drop at aims) ≡ picked objects s first shape aims
  pub grows : Grows first now
  pub there : AreThere now (lits_of x)
  pub laid : IsLaid shape x

pub record IsPutting (objects : List CoreObject) (guard : Lit) (x : SymValue) (first now : List Node) (before s : LitStore) (aims : List Aim) (at : ℕ) : Type 0 where
  pub resumes : put objects guard x now s (drop at aims) ≡ put objects guard x first before aims
  pub grows : Grows first now
  pub there : IsStoreThere now s
  pub takes : MayTake objects s aims x
