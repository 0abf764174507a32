-- What an instruction does that is followed by the next one.
use Rattle.std.specs.Prelude.{◌≡◌, ℕ, suc, ◌+◌, List, [], ◌∷◌, take, drop, reverse, not, Result, Ok, pos, neg_ℤ}
use Rattle.rvt_num.specs.Operations.{unary_of, converted}
use Rattle.rvt_num.specs.declared.values.Trap.{Trap}
use Rattle.rvt_num.specs.declared.values.Value.{Value}
use Rattle.rvt_num.specs.declared.values.Value.TheVariants.{Num, Null}
use Rattle.rvt_tree.specs.declared.expressions.Variable.{Variable}
use Rattle.rvt_tree.specs.declared.expressions.Variable.TheVariants as V
use Rattle.rvt_tree.specs.declared.programs.Program.{Program}
use Rattle.c_meaning.specs.Outcomes.{Manner, Normally, Broke, Continued, and_then, unless_trapped}
use Rattle.c_meaning.specs.Stores.{Location, number_of, holds, same_pointer, beyond, element_at, moved, target, pointer_to}
use Rattle.c_meaning.specs.Expressions.{truth_value, operated, times, result_value, looked_up}
use Rattle.c_meaning.specs.Statements.{put, put_cells, cleared_cells, updated, bumped, direction, after_group, left_scope}
use Rattle.c_meaning.specs.Runs.{spend, stepping}
use Rattle.c_tasks.specs.Operands.{Operands, with_value, top_value, without_value, with_values, with_place, top_place, without_place, with_manner}
use Rattle.c_tasks.specs.Tasks.{Rest, from_value, from_values, aiming, ending}
use Rattle.c_code.specs.declared.instructions.Unary.{Unary}
use Rattle.c_code.specs.declared.instructions.Unary.TheVariants as U
use Rattle.c_code.specs.declared.instructions.Binary.{Binary}
use Rattle.c_code.specs.declared.instructions.Binary.TheVariants as B
use Rattle.c_code.specs.declared.instructions.Manner.{Manner as MannerName}
use Rattle.c_code.specs.declared.instructions.Manner.TheVariants as M
use Rattle.c_code.specs.declared.instructions.Instruction.{Instruction}
use Rattle.c_code.specs.declared.instructions.Instruction.TheVariants as I

-- ---- operations on values

abbrev pub unary_result : Program → Unary → Value → Result Value Trap
unary_result program (U.Convert kind) v = Ok (Num (converted kind (number_of v)))
unary_result program (U.Number op) v = Ok (Num (unary_of op (number_of v)))
unary_result program U.Not v = Ok (truth_value (not (holds v)))
unary_result program U.Truth v = Ok (truth_value (holds v))
unary_result program (U.Bump bump) v = bumped bump v
unary_result program (U.BumpPointer bump size) v = moved program v (direction bump (pos size))

abbrev pub binary_result : Program → Binary → Value → Value → Result Value Trap
binary_result program (B.Numbers op) v w = operated op v w
binary_result program B.SamePointer v w = Ok (truth_value (same_pointer v w))
binary_result program B.OtherPointer v w = Ok (truth_value (not (same_pointer v w)))
binary_result program (B.Forward size) v w = moved program v (times w size)
binary_result program (B.ForwardFrom size) v w = moved program w (times v size)
binary_result program (B.Backward size) v w = moved program v (neg_ℤ (times w size))
binary_result program (B.Update op kind) v w = updated op kind v w

-- ---- what waits

abbrev pub manner_of : MannerName → Manner
manner_of M.Normally = Normally
manner_of M.Broke = Broke
manner_of M.Continued = Continued

-- the first cell of a variable
abbrev pub first_of : Variable → Location
first_of variable = record { variable = variable; cell = 0 }

-- the last values, so many, in the order in which they came, and what is left without them
abbrev pub last_values : ℕ → Operands → List Value
last_values count on = reverse (take count on.values)

abbrev pub without_values : ℕ → Operands → Operands
without_values count on = record { values = drop count on.values; places = on.places; manner = on.manner; zeros = on.zeros }

-- of the last values, so many, those from one on, so many
abbrev pub values_from : ℕ → ℕ → ℕ → Operands → List Value
values_from slot at count on = take count (drop at (last_values slot on))

-- ---- instructions

module _ (program : Program) (d : ℕ) where
  abbrev pub effect : Instruction → Rest → Rest
  effect (I.Constant n slot) next on = next (with_value (Num n) on)
  effect (I.Null slot) next on = next (with_value Null on)
  effect (I.Read variable slot) next on = and_then (looked_up program (first_of variable)) (λ v. next (with_value v on))
  effect (I.Write variable slot) next on = and_then (put program (first_of variable) (top_value on)) (λ _. next (without_value on))
  effect (I.Change op variable) next on =
      and_then (looked_up program (first_of variable)) (λ old. and_then (unless_trapped (unary_result program op old)) (λ v. and_then (put program (first_of variable) v) (λ _. next on)))
  effect (I.Unary op slot) next on = from_value (unary_result program op) next on
  effect (I.Binary op slot) next on = from_values (binary_result program op) next on
  effect (I.Call function slot count) next on =
      and_then ((stepping program d).call function (last_values count on)) (λ result. next (with_value (result_value result) (without_values count on)))
  effect (I.Discard slot) next on = next (without_value on)
  effect (I.Place variable place) next on = next (with_place (first_of variable) on)
  effect (I.Load place slot) next on = and_then (looked_up program (top_place on)) (λ v. next (with_value v (without_place on)))
  effect (I.Fetch place slot) next on = and_then (looked_up program (top_place on)) (λ v. next (with_value v on))
  effect (I.Store place slot) next on = and_then (put program (top_place on) (top_value on)) (λ _. next (without_place (without_value on)))
  effect (I.Point place slot) next on = next (with_value (pointer_to (top_place on)) (without_place on))
  effect (I.Aim pointee place slot) next on = aiming (target program pointee) next on
  effect (I.Member cell place) next on = next (with_place (beyond cell (top_place on)) (without_place on))
  effect (I.Element count size place slot) next on =
      and_then (unless_trapped (element_at (top_place on) (number_of (top_value on)).value count size)) (λ found. next (with_place found (without_place (without_value on))))
  effect (I.ElementAddress size place slot) next on =
      and_then (unless_trapped (moved program (pointer_to (top_place on)) (times (top_value on) size))) (λ v. next (with_value v (without_place (without_value on))))
  effect (I.Clear variable) next on = and_then (cleared_cells program variable) (λ zeros. and_then (put_cells program variable zeros) (λ _. next on))
  effect (I.Forget number) next on = and_then (left_scope (V.Local number ∷ []) Normally) (λ _. next on)
  effect (I.Begin variable count) next on = and_then (cleared_cells program variable) (λ zeros. and_then (put_cells program variable zeros) (λ _. next (with_values zeros on)))
  effect (I.Pad at count slot) next on = next (with_values (values_from slot at count on) on)
  effect (I.Initialize variable zeros count) next on = and_then (put_cells program variable (last_values count on)) (λ _. next (without_values zeros (without_values count on)))
  effect (I.End manner) next on = next (with_manner (manner_of manner) on)
  effect I.Spend next on = spend (next on)
  effect (I.Case n) next on = next on
  effect I.Default next on = next on
  effect I.LeaveSwitch next on = ending program d (after_group on.manner) next on
  effect other next on = next on

-- how many values and places wait before such an instruction, and how many after it
abbrev pub Heights : Instruction → ℕ → ℕ → ℕ → ℕ → Type 0
Heights (I.Constant n slot) h p h' p' = (h ≡ slot) × (h' ≡ suc slot) × (p' ≡ p)
Heights (I.Null slot) h p h' p' = (h ≡ slot) × (h' ≡ suc slot) × (p' ≡ p)
Heights (I.Read variable slot) h p h' p' = (h ≡ slot) × (h' ≡ suc slot) × (p' ≡ p)
Heights (I.Write variable slot) h p h' p' = (h ≡ suc slot) × (h' ≡ slot) × (p' ≡ p)
Heights (I.Change op variable) h p h' p' = (h' ≡ h) × (p' ≡ p)
Heights (I.Unary op slot) h p h' p' = (h ≡ suc slot) × (h' ≡ suc slot) × (p' ≡ p)
Heights (I.Binary op slot) h p h' p' = (h ≡ suc (suc slot)) × (h' ≡ suc slot) × (p' ≡ p)
Heights (I.Call function slot count) h p h' p' = (h ≡ slot + count) × (h' ≡ suc slot) × (p' ≡ p)
Heights (I.Discard slot) h p h' p' = (h ≡ suc slot) × (h' ≡ slot) × (p' ≡ p)
Heights (I.Place variable place) h p h' p' = (p ≡ place) × (p' ≡ suc place) × (h' ≡ h)
Heights (I.Load place slot) h p h' p' = (p ≡ suc place) × (p' ≡ place) × (h ≡ slot) × (h' ≡ suc slot)
Heights (I.Fetch place slot) h p h' p' = (p ≡ suc place) × (p' ≡ suc place) × (h ≡ slot) × (h' ≡ suc slot)
Heights (I.Store place slot) h p h' p' = (p ≡ suc place) × (p' ≡ place) × (h ≡ suc slot) × (h' ≡ slot)
Heights (I.Point place slot) h p h' p' = (p ≡ suc place) × (p' ≡ place) × (h ≡ slot) × (h' ≡ suc slot)
Heights (I.Aim pointee place slot) h p h' p' = (p ≡ place) × (p' ≡ suc place) × (h ≡ suc slot) × (h' ≡ slot)
Heights (I.Member cell place) h p h' p' = (p ≡ suc place) × (p' ≡ suc place) × (h' ≡ h)
Heights (I.Element count size place slot) h p h' p' = (p ≡ suc place) × (p' ≡ suc place) × (h ≡ suc slot) × (h' ≡ slot)
Heights (I.ElementAddress size place slot) h p h' p' = (p ≡ suc place) × (p' ≡ place) × (h ≡ suc slot) × (h' ≡ suc slot)
Heights (I.Clear variable) h p h' p' = (h' ≡ h) × (p' ≡ p)
Heights (I.Forget number) h p h' p' = (h' ≡ h) × (p' ≡ p)
Heights (I.Pad at count slot) h p h' p' = (h ≡ slot) × (h' ≡ slot + count) × (p' ≡ p)
Heights (I.Initialize variable zeros count) h p h' p' = (h ≡ zeros + count) × (h' ≡ 0) × (p' ≡ p)
Heights (I.End manner) h p h' p' = (h' ≡ h) × (p' ≡ p)
Heights I.Spend h p h' p' = (h' ≡ h) × (p' ≡ p)
Heights (I.Case n) h p h' p' = (h' ≡ h) × (p' ≡ p)
Heights I.Default h p h' p' = (h' ≡ h) × (p' ≡ p)
Heights I.LeaveSwitch h p h' p' = (h' ≡ h) × (p' ≡ p)
Heights other h p h' p' = ⊥
