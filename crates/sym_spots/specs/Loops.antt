-- What the loops over cells, indexes and aims keep: what is made of those that are left, after what is there, is what is made of all.
use Rattle.std.specs.Prelude.{◌≡◌, ◌<◌, ℕ, false, true, List, [], drop, length}
use Rattle.aig_build.specs.Circuits.{Node, Grows, constant}
use Rattle.aig_build.specs.declared.lits.Lit.{Lit}
use Rattle.bit_ops.specs.declared.values.SymValue.{SymValue}
use Rattle.bit_words.specs.Words.{LitWord, AreThere}
use Rattle.core_ir.specs.declared.units.Index.{Index}
use Rattle.sym_spots.specs.Aims.{pointed_built, word_tests, spread_one, spread, indexed}
use Rattle.sym_spots.specs.Spots.{AreAimsThere}
use Rattle.sym_spots.specs.declared.aims.Aim.{Aim}
use Rattle.sym_spots.specs.declared.aims.Target.{Target}

pub record IsPointing (object cell : LitWord) (cells : ℕ) (first now : List Node) (starts : List (ℕ × ℕ)) (aims : List Aim) (any : Lit) (at : ℕ) : Type 0 where
  pub resumes : pointed_built object cell cells now aims any (drop at starts) ≡ pointed_built object cell cells first [] (constant false) starts
  pub grows : Grows first now
  pub aims_there : AreAimsThere now aims
  pub any_there : any.node < length now

pub record IsTestingWord (first now : List Node) (w : LitWord) (lits : List Lit) (any : Lit) (at : ℕ) : Type 0 where
  pub is : word_tests first w at ≡ record { nodes = now; lits = lits; any = any }
  pub grows : Grows first now
  pub lits_there : AreThere now lits
  pub any_there : any.node < length now

pub record IsSpreadingOne (lit : Lit) (size : ℕ) (first now : List Node) (begin target : Target) (before aims : List Aim) (tests : List Lit) (at : ℕ) : Type 0 where
  pub resumes : spread_one lit size now target aims (drop at tests) ≡ spread_one lit size first begin before tests
  pub grows : Grows first now
  pub there : AreAimsThere now aims

pub record IsSpreading (size : ℕ) (tests : List Lit) (first now : List Node) (out aims : List Aim) (at : ℕ) : Type 0 where
  pub resumes : spread size tests now out (drop at aims) ≡ spread size tests first [] aims
  pub grows : Grows first now
  pub there : AreAimsThere now out

pub record IsIndexing (registers : List SymValue) (first now : List Node) (begin aims : List Aim) (inside : Lit) (indexes : List Index) (at : ℕ) : Type 0 where
  pub resumes : indexed registers now aims inside (drop at indexes) ≡ indexed registers first begin (constant true) indexes
  pub grows : Grows first now
  pub aims_there : AreAimsThere now aims
  pub inside_there : inside.node < length now
