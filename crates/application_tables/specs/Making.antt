-- Applications in the order in which they were made.
use Rattle.std.specs.Prelude.{◌≡◌, List, [], ◌∷◌}
use Rattle.aig_build.specs.Circuits.{Node, Grows}
use Rattle.bit_ops.specs.declared.values.SymValue.{SymValue}
use Rattle.bit_words.specs.Words.{AreThere}
use Rattle.core_ir.specs.Tables.{EntryName}
use Rattle.sym_values.specs.Values.{all_lits}
use Rattle.uf_abstraction.specs.Applications.{LitShape, Application}
use Rattle.uf_abstraction.specs.Applying.{apply_built, fresh_answer}

-- from the first circuit came this one, in which the key stands, and the answer is fresh at it
pub record IsMadeAt (start at : List Node) (a : Application) : Type 0 where
  pub grows : Grows start at
  pub key : AreThere at (all_lits a.key)
  pub answer : a.answer ≡ (fresh_answer at a.shape).answer

-- on the way from one circuit to another the applications were made, one after the other
abbrev pub AreMade : List Node → List Application → List Node → Type 0
AreMade start [] now = Grows start now
AreMade start (a ∷ rest) now = (at : List Node) × IsMadeAt start at a × AreMade (fresh_answer at a.shape).nodes rest now

-- no application was made at the start
abbrev pub NoneMadeLaw : Type 0
NoneMadeLaw = (start : List Node) → AreMade start [] start

-- a circuit may grow by other nodes
abbrev pub LaterMadeLaw : Type 0
LaterMadeLaw = (start now new : List Node) (applied : List Application) → AreMade start applied now → Grows now new → AreMade start applied new

-- an application is made last
abbrev pub OneMoreMadeLaw : Type 0
OneMoreMadeLaw = (start now : List Node) (applied : List Application) (name : EntryName) (key : List SymValue) (shape : LitShape) → AreMade start applied now → AreThere now (all_lits key)
    → AreMade start (apply_built now applied name key shape).applied (apply_built now applied name key shape).nodes
