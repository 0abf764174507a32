-- What a call keeps of its caller: the locals, and the cells of the objects that the function owns.
use Rattle.std.specs.Prelude.{◌≡◌, ℕ, List, [], ◌∷◌, ◌++◌, take, drop, Bool, if◌then◌else◌}
use Rattle.rvt_num.specs.declared.values.Value.{Value}
use Rattle.rvt_tree.specs.declared.programs.Program.{Program}
use Rattle.rvt_tree.specs.declared.programs.Object.{Object}
use Rattle.c_meaning.specs.Outcomes.{State}
use Rattle.c_meaning.specs.Stores.{stored, objects_of}
use Rattle.c_meaning.specs.Runs.{is_owner, closed}

-- the locals and the store, where calls and loops keep nothing
abbrev pub Contents : Type 0
Contents = State (Unit {0})

-- the caller's locals, and the cells of the objects that the function owns, one object after another
pub record Kept : Type 0 where
  pub locals : List (List Value)
  pub cells : List Value

-- the cells in the store of the objects that a function owns
abbrev pub owned_cells : ℕ → List Object → List Value → List Value
owned_cells function [] store = []
owned_cells function (object ∷ objects) store =
    (if is_owner function object.owner then take (stored object) store else [])
    ++ owned_cells function objects (drop (stored object) store)

-- the store with these cells in the objects that a function owns
abbrev pub put_back : ℕ → List Object → List Value → List Value → List Value
put_back function [] cells store = store
put_back function (object ∷ objects) cells store =
    if is_owner function object.owner
    then take (stored object) cells ++ put_back function objects (drop (stored object) cells) (drop (stored object) store)
    else take (stored object) store ++ put_back function objects cells (drop (stored object) store)

abbrev pub kept_of : Program → ℕ → Contents → Kept
kept_of program number s = record { locals = s.locals; cells = owned_cells number (objects_of program) s.store }

-- back in the caller
abbrev pub returned : Program → ℕ → Kept → Contents → Contents
returned program number caller s =
    record { locals = caller.locals; store = put_back number (objects_of program) caller.cells s.store; kept = s.kept }

-- what is kept at the entry of a function is put back as a return does it
abbrev pub KeptIsClosed : Program → Type 0
KeptIsClosed program = (number : ℕ) (before store : List Value) →
    put_back number (objects_of program) (owned_cells number (objects_of program) before) store ≡ closed program number before store
