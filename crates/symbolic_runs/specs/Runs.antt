-- Symbolic runs: one pass over the code. A state has one literal that says whether the run is still going on there. Where a path
-- ends, an exit is noted, and the literal becomes false. At a join the two states are merged.
use Rattle.std.specs.Prelude.{ℕ, false, List, [], ◌∷◌, ◌++◌, Option, Some, None, slice_get}
use Rattle.aig_build.specs.Built.{and_built}
use Rattle.aig_build.specs.Circuits.{Node, constant, opposite}
use Rattle.aig_build.specs.declared.lits.Lit.{Lit}
use Rattle.bit_ops.specs.declared.values.SymValue.{SymValue}
use Rattle.core_ir.specs.Tables.{EntryName}
use Rattle.rvt_num.specs.declared.values.Trap.{Trap}
use Rattle.sym_store.specs.Stores.{LitStore, merged_store}
use Rattle.uf_abstraction.specs.Applications.{Application}

-- what all paths share: the circuit, and the applications of unknown functions
pub record World : Type 0 where
  pub nodes : List Node
  pub applied : List Application

-- what the registers and the mutable cells hold, where `live` is true
pub record SymState : Type 0 where
  pub live : Lit
  pub store : LitStore

pub data How : Type 0 where
  Traps : Trap → How
  Stops : (results cells : List SymValue) → How

-- the run ends so where the guard is true
pub record Exit : Type 0 where
  pub guard : Lit
  pub how : How

-- a call is made where the guard is true
pub record GuardedCall : Type 0 where
  pub guard : Lit
  pub name : EntryName
  pub key : List SymValue

-- what a stretch of code gives: the state behind it, and the exits and the calls in it, in order
pub record SymRun : Type 0 where
  pub world : World
  pub state : SymState
  pub exits : List Exit
  pub calls : List GuardedCall

-- ---- what operations, places and applications give

-- the store behind a step, and the traps of the step in order
pub record Stepped : Type 0 where
  pub world : World
  pub store : LitStore
  pub traps : List (Trap × Lit)

pub record Called : Type 0 where
  pub step : Stepped
  pub name : EntryName
  pub key : List SymValue

pub record MadeLit : Type 0 where
  pub world : World
  pub lit : Lit

-- ---- the run

abbrev pub and_in : World → Lit → Lit → MadeLit
and_in w a b =
    let m = and_built w.nodes a b in
    record { world = record { nodes = m.nodes; applied = w.applied }; lit = m.lit }

abbrev pub or_in : World → Lit → Lit → MadeLit
or_in w a b =
    let m = and_in w (opposite a) (opposite b) in
    record { world = m.world; lit = opposite m.lit }

pub record Trapping : Type 0 where
  pub world : World
  pub live : Lit
  pub exits : List Exit

-- the first trap whose literal is true ends the run
abbrev pub trapping : World → Lit → List (Trap × Lit) → Trapping
trapping w live [] = record { world = w; live = live; exits = [] }
trapping w live (t ∷ ts) =
    let hit = and_in w live t.1 in
    let on = and_in hit.world live (opposite t.1) in
    let rest = trapping on.world on.lit ts in
    record { world = rest.world; live = rest.live; exits = record { guard = hit.lit; how = Traps t.0 } ∷ rest.exits }

abbrev pub stepped : Lit → Stepped → List GuardedCall → SymRun
stepped live p calls =
    let t = trapping p.world live p.traps in
    record {
      world = t.world;
      state = record { live = t.live; store = p.store };
      exits = t.exits;
      calls = calls;
    }

abbrev pub called : Lit → Called → SymRun
called live c = stepped live c.step (record { guard = live; name = c.name; key = c.key } ∷ [])

-- one stretch, and the next one from where it leads
abbrev pub after : SymRun → SymRun → SymRun
after first second =
    record { world = second.world; state = second.state; exits = first.exits ++ second.exits; calls = first.calls ++ second.calls }

-- nothing is done
abbrev pub stays : World → SymState → SymRun
stays w s = record { world = w; state = s; exits = []; calls = [] }

abbrev pub with_live : SymState → Lit → SymState
with_live s live = record { live = live; store = s.store }

-- behind a join: the first store where the first branch goes on, else the second. Where the first branch has ended for certain, its
-- literal is the constant, and no gate is made
abbrev pub joined_at : SymRun → SymRun → SymRun
joined_at first second =
    let m = merged_store second.world.nodes first.state.live first.state.store second.state.store in
    let l = or_in (record { nodes = m.nodes; applied = second.world.applied }) first.state.live second.state.live in
    record {
      world = l.world;
      state = record { live = l.lit; store = m.store };
      exits = first.exits ++ second.exits;
      calls = first.calls ++ second.calls;
    }

-- where the first branch goes, after a test
abbrev pub yes_of : MadeLit → SymState → MadeLit
yes_of c s = and_in c.world s.live c.lit

-- and where the second does
abbrev pub no_of : MadeLit → SymState → MadeLit
no_of c s = and_in (yes_of c s).world s.live (opposite c.lit)

-- the run ends here
abbrev pub ended : World → SymState → How → SymRun
ended w s how =
    record { world = w; state = with_live s (constant false); exits = record { guard = s.live; how = how } ∷ []; calls = [] }

abbrev pub with_chosen : Option SymValue → List SymValue → List SymValue
with_chosen None xs = xs
with_chosen (Some x) xs = x ∷ xs

-- what these registers hold
abbrev pub chosen : List SymValue → List ℕ → List SymValue
chosen values [] = []
chosen values (r ∷ rs) = with_chosen (slice_get values r) (chosen values rs)
