-- Runs so far, as contracts see them.
use Rattle.std.specs.Prelude.{◌≡◌, false, List, [], ◌∷◌, ◌++◌, map, fold}
use Rattle.aig_build.specs.Built.{and_built}
use Rattle.aig_build.specs.Circuits.{Node, constant, opposite}
use Rattle.aig_build.specs.declared.lits.Lit.{Lit}
use Rattle.rvt_num.specs.declared.values.Trap.{Trap}
use Rattle.sym_paths.specs.declared.runs.Exit.{Exit as ExitMade}
use Rattle.sym_paths.specs.declared.runs.How.{How as HowMade}
use Rattle.sym_paths.specs.declared.runs.How.TheVariants as how
use Rattle.sym_paths.specs.declared.runs.Run.{Run}
use Rattle.sym_paths.specs.declared.runs.State.{State}
use Rattle.sym_paths.specs.declared.runs.SymCall.{SymCall}
use Rattle.sym_store.specs.Stores.{merged_store}
use Rattle.symbolic_runs.specs.Runs.{SymState, How, Traps, Stops, Exit, GuardedCall, chosen}
use Rattle.uf_abstraction.specs.Names.{meant}

-- where the run goes on and what it holds there, and the exits and the calls so far
pub record LitRun : Type 0 where
  pub state : SymState
  pub exits : List Exit
  pub calls : List GuardedCall

abbrev pub how_of : HowMade → How
how_of (how.Traps t) = Traps t
how_of (how.Stops registers store) = Stops (chosen store.registers registers.items) store.cells

abbrev pub exit_of : ExitMade → Exit
exit_of x = record { guard = x.guard; how = how_of x.how }

abbrev pub call_of : SymCall → GuardedCall
call_of c = record { guard = c.guard; name = meant c.entry; key = c.key.items }

abbrev pub run_of : Run → LitRun
run_of r =
    record {
      state = record { live = r.live; store = r.store };
      exits = map exit_of r.exits.items;
      calls = map call_of r.calls.items;
    }

abbrev pub with_exit : LitRun → Exit → LitRun
with_exit r x = record { state = r.state; exits = r.exits ++ x ∷ []; calls = r.calls }

abbrev pub with_call : LitRun → GuardedCall → LitRun
with_call r c = record { state = r.state; exits = r.exits; calls = r.calls ++ c ∷ [] }

abbrev pub with_live : LitRun → Lit → LitRun
with_live r live = record { state = record { live = live; store = r.state.store }; exits = r.exits; calls = r.calls }

pub record MadeRun : Type 0 where
  pub nodes : List Node
  pub run : LitRun

-- the run ends where it goes on and the literal is true
unfoldable pub with_trap : MadeRun → Trap × Lit → MadeRun
with_trap m t =
    let hit = and_built m.nodes m.run.state.live t.1 in
    let on = and_built hit.nodes m.run.state.live (opposite t.1) in
    record { nodes = on.nodes; run = with_live (with_exit m.run (record { guard = hit.lit; how = Traps t.0 })) on.lit }

-- the first trap whose literal is true ends the run
abbrev pub with_traps : MadeRun → List (Trap × Lit) → MadeRun
with_traps m traps = fold with_trap m traps

abbrev pub state_of : State → SymState
state_of s = record { live = s.live; store = s.store }

abbrev pub with_state : LitRun → SymState → LitRun
with_state r s = record { state = s; exits = r.exits; calls = r.calls }

-- the run ends here
abbrev pub ended_run : LitRun → How → LitRun
ended_run r how = with_live (with_exit r (record { guard = r.state.live; how = how })) (constant false)

-- where the run goes on with the test, and where without it
pub record Branches (ns : List Node) (live test : Lit) (new : List Node) (yes no : Lit) : Type 0 where
  pub middle : List Node
  pub first : and_built ns live test ≡ record { nodes = middle; lit = yes }
  pub second : and_built middle live (opposite test) ≡ record { nodes = new; lit = no }

pub record MadeState : Type 0 where
  pub nodes : List Node
  pub state : SymState

-- the first store where the first state goes on, else the second; it goes on where one of them does
abbrev pub joined_state : List Node → SymState → SymState → MadeState
joined_state ns first second =
    let m = merged_store ns first.live first.store second.store in
    let neither = and_built m.nodes (opposite first.live) (opposite second.live) in
    record { nodes = neither.nodes; state = record { live = opposite neither.lit; store = m.store } }
