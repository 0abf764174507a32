-- Loops that make fresh inputs, and copies.
use Rattle.std.proofs.Common.{◌≡◌, ℕ, ◌+◌, ◌<◌, List, [], ◌∷◌, ◌++◌, length, take, refl, sym, ap, ◌∙◌, get_or, add-one}
use Rattle.std.specs.Prelude.{map}
use Rattle.std.proofs.lemmas.List.{take_more}
use Rattle.std.proofs.lemmas.List.Sums.{fold_push}
use Rattle.aig_build.specs.Built.{Made, input_built}
use Rattle.aig_build.specs.Circuits.{Node}
use Rattle.aig_build.specs.declared.lits.Lit.{Lit}
use Rattle.bit_ops.specs.declared.values.SymValue.{SymValue}
use Rattle.core_ir.specs.declared.units.Shape.{Shape}
use Rattle.core_ir.specs.declared.units.Shape.TheVariants as shape
use Rattle.rvt_num.specs.declared.kinds.Kind.{Kind}
use Rattle.rvt_num.specs.declared.values.Trap.{Trap}
use Rattle.sym_values.specs.Values.{lits_of, all_lits}
use Rattle.uf_abstraction.proofs.FreshAnswers.{all_lits_push}
use Rattle.uf_abstraction.specs.Applying.{MadeLits, one_more, fresh_lits, MadeValue, MadeValues, fresh_value, with_value, fresh_values, MadeTraps, with_trap, fresh_traps}

pub bits_step : (ns : List Node) (at : ℕ) (m : MadeLits) (new : List Node) (x : Lit) (xs : List Lit) → fresh_lits ns at ≡ m → input_built m.nodes ≡ record { nodes = new; lit = x } → xs ≡ m.lits ++ x ∷ []
    → fresh_lits ns (at + 1) ≡ record { nodes = new; lits = xs }
bits_step ns at m new x xs e f g =
    ap (fresh_lits ns) (add-one at) ∙ ap one_more e
    ∙ (λ i. record { nodes = (f i).nodes; lits = (ap (λ (n : Made). m.lits ++ n.lit ∷ []) f ∙ sym g) i })

pub values_step : (ns : List Node) (ss : List Shape) (at : ℕ) (d : Shape) (m : MadeValues) (new : List Node) (x : SymValue) (xs : List SymValue) → at < length ss
    → fresh_values ns (take at ss) ≡ m → fresh_value m.nodes (get_or ss at d) ≡ record { nodes = new; value = x } → xs ≡ m.values ++ x ∷ [] → fresh_values ns (take (at + 1) ss) ≡ record { nodes = new; values = xs }
values_step ns ss at d m new x xs below e f g =
    ap (fresh_values ns) (take_more ss at d below) ∙ fold_push with_value (record { nodes = ns; values = [] }) (take at ss) (get_or ss at d)
    ∙ ap (λ n. with_value n (get_or ss at d)) e
    ∙ (λ i. record { nodes = (f i).nodes; values = (ap (λ (n : MadeValue). m.values ++ n.value ∷ []) f ∙ sym g) i })

pub traps_step : (ns : List Node) (ts : List Trap) (at : ℕ) (d : Trap) (m : MadeTraps) (new : List Node) (x : Lit) (xs : List (Trap × Lit)) → at < length ts
    → fresh_traps ns (take at ts) ≡ m → input_built m.nodes ≡ record { nodes = new; lit = x } → xs ≡ m.traps ++ (get_or ts at d, x) ∷ [] → fresh_traps ns (take (at + 1) ts) ≡ record { nodes = new; traps = xs }
traps_step ns ts at d m new x xs below e f g =
    ap (fresh_traps ns) (take_more ts at d below) ∙ fold_push with_trap (record { nodes = ns; traps = [] }) (take at ts) (get_or ts at d)
    ∙ ap (λ n. with_trap n (get_or ts at d)) e
    ∙ (λ i. record { nodes = (f i).nodes; traps = (ap (λ (n : Made). m.traps ++ (get_or ts at d, n.lit) ∷ []) f ∙ sym g) i })

map_push : (ks : List Kind) (k : Kind) → map shape.Word (ks ++ k ∷ []) ≡ map shape.Word ks ++ shape.Word k ∷ []
map_push [] k = refl
map_push (j ∷ ks) k = ap (λ l. shape.Word j ∷ l) (map_push ks k)

pub shapes_step : (ks : List Kind) (at : ℕ) (d : Kind) (ss new : List Shape) → at < length ks → ss ≡ map shape.Word (take at ks) → new ≡ ss ++ shape.Word (get_or ks at d) ∷ [] → new ≡ map shape.Word (take (at + 1) ks)
shapes_step ks at d ss new below e f = f ∙ ap (λ l. l ++ shape.Word (get_or ks at d) ∷ []) e ∙ sym (ap (map shape.Word) (take_more ks at d below) ∙ map_push (take at ks) (get_or ks at d))

pub lits_step : (vs : List SymValue) (at : ℕ) (d : SymValue) (ls new : List Lit) → at < length vs → ls ≡ all_lits (take at vs) → new ≡ ls ++ lits_of (get_or vs at d) → new ≡ all_lits (take (at + 1) vs)
lits_step vs at d ls new below e f = f ∙ ap (λ l. l ++ lits_of (get_or vs at d)) e ∙ sym (ap all_lits (take_more vs at d below) ∙ all_lits_push (take at vs) (get_or vs at d))

pub copies_step : (vs : List SymValue) (at : ℕ) (d : SymValue) (xs new : List SymValue) → at < length vs → xs ≡ take at vs → new ≡ xs ++ get_or vs at d ∷ [] → new ≡ take (at + 1) vs
copies_step vs at d xs new below e f = f ∙ ap (λ l. l ++ get_or vs at d ∷ []) e ∙ sym (take_more vs at d below)
