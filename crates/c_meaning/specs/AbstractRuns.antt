-- A unit under a table: from a start, one end and the list of the calls made; and what a table may hold.
use Rattle.std.specs.Prelude.{ℕ, List, [], Bool, IsTrue, All, Option, Some, None}
use Rattle.rvt_num.specs.Number.{Number}
use Rattle.rvt_num.specs.declared.kinds.Kind.{Kind}
use Rattle.rvt_num.specs.declared.values.Trap.{Trap}
use Rattle.rvt_num.specs.declared.values.Value.{Value}
use Rattle.rvt_num.specs.declared.values.Value.TheVariants.{Num}
use Rattle.rvt_tree.specs.declared.types.CType.{CType}
use Rattle.rvt_tree.specs.declared.programs.Program.{Program}
use Rattle.c_meaning.specs.Outcomes.{state, Outcome, Done, Returning, Trapped, Cut, Deep, Manner}
use Rattle.c_meaning.specs.Runs.{End, ByTrap, ByReturn, ByEnd, called}
use Rattle.c_meaning.specs.Tables.{UnitName, Answer, TrapOf, ResultOf, LocalsOf, Entry, Made, Directory, under_table}
use Rattle.c_meaning.specs.Loops.{loop_of, loop_locals, locals_at, turned}
use Rattle.c_meaning.specs.Promises.{Part, AFunction, ALoop, Start, flat, AreOfTypes, AreNumbersOf, IsNumberOf}

-- ---- the run

-- no bound runs out under a table
abbrev pub end_of_call : Outcome (List Made) (Option Number) → Option (End × List Made)
end_of_call (Done result s) = Some (ByReturn result s.store, s.kept)
end_of_call (Returning result store made) = Some (ByReturn result store, made)
end_of_call (Trapped why made) = Some (ByTrap why, made)
end_of_call Cut = None
end_of_call Deep = None

abbrev pub end_of_turn : List ℕ → Outcome (List Made) Manner → Option (End × List Made)
end_of_turn interface (Done manner s) = Some (ByEnd (locals_at interface s.locals) s.store, s.kept)
end_of_turn interface (Returning result store made) = Some (ByReturn result store, made)
end_of_turn interface (Trapped why made) = Some (ByTrap why, made)
end_of_turn interface Cut = None
end_of_turn interface Deep = None

-- a function does its body; a loop does one turn, and its next turn takes its end from the table
abbrev pub abstract_run : Program → Directory → List Entry → Part → Start → Option (End × List Made)
abstract_run program directory table (AFunction function) start =
    end_of_call (called program (under_table directory table) function (flat start.given) (state [] start.store []))
abstract_run program directory table (ALoop function number interface) start =
    end_of_turn interface (turned (under_table directory table) number (loop_of program (under_table directory table) function number)
    (state (loop_locals program function interface start.given) start.store []))

-- ---- lawful tables

-- what ends the entries of a name may have: its traps; the kind of its result, if it has one; the types of the locals of its interface, if it is a loop;
-- the kinds of the cells that it touches; and in which program and with which functions reached its pointers are read
pub record EntryRules : Type 0 where
  pub may_trap : Trap → Bool
  pub result : Option Kind
  pub interface : Option (List (Option CType))
  pub cells : List (Option Kind)
  pub program : Program
  pub reached : ℕ → Bool

abbrev pub IsResult : Option Kind → Option Number → Type 0
IsResult None None = Unit {0}
IsResult (Some kind) (Some n) = IsNumberOf kind (Num n)
IsResult _ _ = ⊥

-- a call gives no locals
abbrev pub AreLocals : EntryRules → Option (List (Option CType)) → List (List Value) → Type 0
AreLocals rules None locals = ⊥
AreLocals rules (Some types) locals = AreOfTypes rules.program rules.reached types locals

abbrev pub IsLawfulAnswer : EntryRules → Answer → Type 0
IsLawfulAnswer rules (TrapOf why) = IsTrue (rules.may_trap why)
IsLawfulAnswer rules (ResultOf result cells) = IsResult rules.result result × AreNumbersOf rules.cells cells
IsLawfulAnswer rules (LocalsOf locals cells) = AreLocals rules rules.interface locals × AreNumbersOf rules.cells cells

abbrev pub IsLawful : (UnitName → EntryRules) → List Entry → Type 0
IsLawful rules table = All (λ entry. IsLawfulAnswer (rules entry.name) entry.answer) table
