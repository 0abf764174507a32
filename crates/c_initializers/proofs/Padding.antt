-- Parts of the zeros that an initializer leaves out.
use Rattle.std.proofs.Common.{◌≡◌, ℕ, zero, suc, ◌+◌, ◌-◌, ◌≤◌, List, [], ◌∷◌, ◌++◌, take, drop, reverse, refl, sym, ap, ◌∙◌, arith}
use Rattle.std.proofs.lemmas.List.{take-take, drop-drop, drop-take, reverse-append}
use Rattle.rvt_num.specs.declared.values.Value.{Value}
use Rattle.rvt_tree.specs.declared.programs.Program.{Program}
use Rattle.rvt_tree.specs.Syntax.{Initializer, Initializers, initializer}
use Rattle.c_meaning.specs.Outcomes.{State, give, and_then}
use Rattle.c_meaning.specs.Statements.{initial_cells, member_cells}
use Rattle.c_meaning.specs.Runs.{stepping}
use Rattle.c_tasks.specs.Operands.{Operands, onto, with_values, zeros_from}
use Rattle.c_tasks.specs.Tasks.{Rest, filling, filling_members, step}
use Rattle.c_tasks.specs.declared.tasks.Task.TheVariants as T
use mathlib.Core.Path.{fun_ext}
use Rattle.c_tasks.proofs.Sequences.{then_alike, two_parts}
use Rattle.c_tasks.proofs.Stacks.{with_list}

drop_taken : (size count : ℕ) (l : List Value) → count ≤ size → drop size (take count l) ≡ []
drop_taken zero zero l h = refl
drop_taken zero (suc count) l h = absurd (let no : ⊥ = omega (arith, h) in no)
drop_taken (suc size) zero l h = refl
drop_taken (suc size) (suc count) [] h = refl
drop_taken (suc size) (suc count) (v ∷ l) h = drop_taken size count l (omega (arith, h))

take_taken : (size count : ℕ) (l : List Value) → count ≤ size → take size (take count l) ≡ take count l
take_taken zero zero l h = refl
take_taken zero (suc count) l h = absurd (let no : ⊥ = omega (arith, h) in no)
take_taken (suc size) zero l h = refl
take_taken (suc size) (suc count) [] h = refl
take_taken (suc size) (suc count) (v ∷ l) h = ap (λ vs. v ∷ vs) (take_taken size count l (omega (arith, h)))

-- the zeros after some of them
later_zeros : (size count at after : ℕ) (l : List Value) → size ≤ count → after ≡ at + size → take (count - size) (drop after l) ≡ drop size (take count (drop at l))
later_zeros size count at after l h e =
    ap (λ n. take (count - size) (drop n l)) e
    ∙ ap (take (count - size)) (sym (drop-drop size at l))
    ∙ sym (drop-take size (count - size) (drop at l))
    ∙ ap (λ n. drop size (take n (drop at l))) (let whole : size + (count - size) ≡ count = omega (arith, h) in whole)

onto_append : (first others below : List Value) → onto (first ++ others) below ≡ onto others (onto first below)
onto_append [] others below = refl
onto_append (v ∷ first) others below = onto_append first others (v ∷ below)

module _ (program : Program) (d : ℕ) (init : Initializer) (rest : Initializers) (size at count : ℕ) (next : Rest) (on : Operands) (s : State ℕ) where
  -- a member and the rest, each with its zeros
  member_then : (first_zeros later : List Value) → first_zeros ≡ take size (zeros_from at count on) → later ≡ drop size (zeros_from at count on) →
      and_then (initial_cells program (stepping program d) init first_zeros) (λ first. and_then (member_cells program (stepping program d) rest later) (λ others. next (with_values others (with_values first on)))) s
      ≡ filling_members program d (initializer init size rest) at count next on s
  member_then first_zeros later e f =
      ap (λ zs. and_then (initial_cells program (stepping program d) init zs) (λ first. and_then (member_cells program (stepping program d) rest later) (λ others. next (with_values others (with_values first on)))) s) e
      ∙ ap (λ zs. and_then (initial_cells program (stepping program d) init (take size (zeros_from at count on))) (λ first. and_then (member_cells program (stepping program d) rest zs) (λ others. next (with_values others (with_values first on)))) s) f
      ∙ then_alike (initial_cells program (stepping program d) init (take size (zeros_from at count on)) s) _ _ (λ first t.
      then_alike (member_cells program (stepping program d) rest (drop size (zeros_from at count on)) t) _ _ (λ others u.
      ap (λ vs. next (with_list vs on) u) (sym (onto_append first others on.values))))
      ∙ two_parts (initial_cells program (stepping program d) init (take size (zeros_from at count on))) (member_cells program (stepping program d) rest (drop size (zeros_from at count on))) (λ first others. give (first ++ others)) (λ cells. next (with_values cells on)) s

pub member_fills : (size count at after : ℕ) → size ≤ count → after ≡ at + size → (program : Program) (d : ℕ) (init : Initializer) (rest : Initializers) (next : Rest) (on : Operands) (s : State ℕ) →
    filling program d init at size (filling_members program d rest after (count - size) next) on s ≡ filling_members program d (initializer init size rest) at count next on s
member_fills size count at after h e program d init rest next on s =
    member_then program d init rest size at count next on s (take size (drop at on.zeros)) (take (count - size) (drop after on.zeros))
    (sym (take-take size count (drop at on.zeros) h)) (later_zeros size count at after on.zeros h e)

pub last_fills : (size count at : ℕ) → count ≤ size → (program : Program) (d : ℕ) (init : Initializer) (rest : Initializers) (next : Rest) (on : Operands) (s : State ℕ) →
    filling program d init at count (filling_members program d rest at 0 next) on s ≡ filling_members program d (initializer init size rest) at count next on s
last_fills size count at h program d init rest next on s =
    member_then program d init rest size at count next on s (take count (drop at on.zeros)) []
    (sym (take_taken size count (drop at on.zeros) h)) (sym (drop_taken size count (drop at on.zeros) h))

-- the zeros after the first one
pub zeros_after : (count at after left : ℕ) (l : List Value) → after ≡ at + 1 → left ≡ count - 1 → take left (drop after l) ≡ drop 1 (take count (drop at l))
zeros_after zero at after left l e f = let none : left ≡ 0 = omega (arith, f) in ap (λ n. take n (drop after l)) none
zeros_after (suc count) at after left l e f = ap (λ n. take n (drop after l)) f ∙ later_zeros 1 (suc count) at after l (omega arith) e

-- a task for the zeros after the first one
pub padded : (program : Program) (d : ℕ) (count at after left : ℕ) → after ≡ at + 1 → left ≡ count - 1 → (next : Rest) →
    step program d (T.Pad after left) next ≡ (λ on. next (with_values (drop 1 (zeros_from at count on)) on))
padded program d count at after left e f next =
    fun_ext (λ on. ap (λ zs. next (with_values zs on)) (zeros_after count at after left on.zeros e f))

-- values after others
append_nil : (xs : List Value) → xs ≡ xs ++ []
append_nil [] = refl
append_nil (x ∷ xs) = ap (λ ys. x ∷ ys) (append_nil xs)

append_more : (xs : List Value) (v : Value) (vs : List Value) → (xs ++ v ∷ []) ++ vs ≡ xs ++ v ∷ vs
append_more [] v vs = refl
append_more (x ∷ xs) v vs = ap (λ ys. x ∷ ys) (append_more xs v vs)

-- the last one first
pub reverse_more : (items vs : List Value) → reverse (items ++ vs) ≡ onto vs (reverse items)
reverse_more items [] = ap reverse (sym (append_nil items))
reverse_more items (v ∷ vs) = ap reverse (sym (append_more items v vs)) ∙ reverse_more (items ++ v ∷ []) vs ∙ ap (onto vs) (reverse-append items (v ∷ []))
