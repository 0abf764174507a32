-- Initializers: their cells go into the variable, and the activation that declares it goes on.
use Rattle.std.proofs.Common.{◌≡◌, ℕ, List, [], ◌∷◌, ◌++◌, length, take, drop, reverse, refl, ap, ◌∙◌}
use Rattle.std.proofs.lemmas.List.{reverse-append}
use Rattle.rvt_num.specs.declared.values.Value.{Value}
use Rattle.rvt_tree.specs.declared.expressions.Variable.{Variable}
use Rattle.rvt_tree.specs.declared.programs.Program.{Program}
use Rattle.c_meaning.specs.Outcomes.{Outcome, Done, Returning, Trapped, Cut, Deep, Doing, Manner, Normally, go_on}
use Rattle.c_meaning.specs.Stores.{with_cells}
use Rattle.c_meaning.specs.Statements.{put_cells}
use Rattle.c_tasks.specs.Operands.{onto}

append_nil : (xs : List Value) → xs ≡ xs ++ []
append_nil [] = refl
append_nil (x ∷ xs) = ap (λ ys. x ∷ ys) (append_nil xs)

append_more : (xs : List Value) (v : Value) (vs : List Value) → (xs ++ v ∷ []) ++ vs ≡ xs ++ v ∷ vs
append_more [] v vs = refl
append_more (x ∷ xs) v vs = ap (λ ys. x ∷ ys) (append_more xs v vs)

reverse_onto : (vs ws : List Value) → reverse (onto vs ws) ≡ reverse ws ++ vs
reverse_onto [] ws = append_nil (reverse ws)
reverse_onto (v ∷ vs) ws = reverse_onto vs (v ∷ ws) ∙ ap (λ xs. xs ++ vs) (reverse-append (v ∷ []) ws) ∙ append_more (reverse ws) v vs

pub drop_none : (xs : List Value) → drop 0 xs ≡ xs
drop_none [] = refl
drop_none (x ∷ xs) = refl

take_length : (xs : List Value) → take (length xs) xs ≡ xs
take_length [] = refl
take_length (x ∷ xs) = ap (λ ys. x ∷ ys) (take_length xs)

pub take_all : (xs : List Value) (n : ℕ) → n ≡ length xs → take n xs ≡ xs
take_all xs n e = ap (λ k. take k xs) e ∙ take_length xs

-- the values on top of none
pub all_above : (vs : List Value) → drop 0 (reverse (onto vs [])) ≡ vs
all_above vs = drop_none (reverse (onto vs [])) ∙ reverse_onto vs []

pub initialized : (program : Program) (variable : Variable) (junk : List Value → Value) (found : List Value → List Value) (next : Manner → Doing ℕ Value) (o : Outcome ℕ (List Value)) → ((vs : List Value) → found vs ≡ vs) →
    go_on (λ _. next Normally) (go_on (λ cells s. Done (junk cells) (with_cells program variable (found cells) s)) o) ≡ go_on next (go_on (put_cells program variable) o)
initialized program variable junk found next (Done cells s) same = ap (λ vs. next Normally (with_cells program variable vs s)) (same cells)
initialized program variable junk found next (Returning n store x) same = refl
initialized program variable junk found next (Trapped why x) same = refl
initialized program variable junk found next Cut same = refl
initialized program variable junk found next Deep same = refl
