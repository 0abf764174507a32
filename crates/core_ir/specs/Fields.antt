-- Pointers that are moved on to a field.
use Rattle.std.specs.Prelude.{◌≡◌, ◌≤◌, ℕ, ◌+◌, true, false, List, ◌∷◌, ◌++◌, slice_get}
use Rattle.core_ir.specs.Meaning.{Answers, Goes, Setting, does, is_true}
use Rattle.core_ir.specs.Operations.{cells_in}
use Rattle.core_ir.specs.Places.{State, register}
use Rattle.core_ir.specs.declared.cores.CoreObject.{CoreObject}
use Rattle.core_ir.specs.declared.units.Code.{Code}
use Rattle.core_ir.specs.declared.units.Code.TheVariants.{Seq, Set, If}
use Rattle.core_ir.specs.declared.units.CoreOp.TheVariants.{Field}
use Rattle.rvt_num.specs.declared.values.Value.{Value}
use Rattle.rvt_num.specs.declared.values.Value.TheVariants.{At}

-- code that runs from a state comes to an operation that moves this pointer on by this number of cells
pub data MeetsField (at : Setting) (answers : Answers) : Code → State → Value → ℕ → Type 0 where
  here : (s : State) (r p cells : ℕ) → MeetsField at answers (Set r (Field p cells)) s (register s.registers p) cells
  in_first : (s : State) (r : ℕ) (one two : Code) (v : Value) (cells : ℕ) → is_true (register s.registers r) ≡ true → MeetsField at answers one s v cells → MeetsField at answers (If r one two) s v cells
  in_second : (s : State) (r : ℕ) (one two : Code) (v : Value) (cells : ℕ) → is_true (register s.registers r) ≡ false → MeetsField at answers two s v cells → MeetsField at answers (If r one two) s v cells
  in_part : (s t : State) (before after : List Code) (part : Code) (v : Value) (cells : ℕ) → (does at answers (Seq before) s).flow ≡ Goes t → MeetsField at answers part t v cells → MeetsField at answers (Seq (before ++ part ∷ after)) s v cells

-- a pointer stays within its object when it is moved on, its length included; null stays as it is
abbrev pub StaysWithin : List CoreObject → Value → ℕ → Type 0
StaysWithin objects (At o c) cells = c + cells ≤ cells_in (slice_get objects o)
StaysWithin objects _ cells = Prim.Unit {0}
