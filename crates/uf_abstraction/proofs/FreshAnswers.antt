-- Fresh answers are laid out by their shape, and their literals stand in the circuit.
use Rattle.std.proofs.Common.{◌≡◌, ℕ, zero, suc, ◌+◌, ◌<◌, List, [], ◌∷◌, ◌++◌, length, Option, Some, None, refl, sym, ap, ◌∙◌, subst, arith, append_assoc}
use Rattle.std.specs.Prelude.{map, fold}
use Rattle.std.specs.List.{AllByRecursion}
use Rattle.std.proofs.lemmas.List.{length_push, append-nil}
use Rattle.aig_build.proofs.Nodes.{Grows-refl, Grows-trans, Grows-push}
use Rattle.aig_build.specs.Built.{input_built}
use Rattle.aig_build.specs.Circuits.{Node, Grows}
use Rattle.aig_build.specs.declared.lits.Lit.{Lit}
use Rattle.bit_ops.specs.declared.values.SymValue.{SymValue}
use Rattle.bit_words.proofs.ConvertValues.{AreThere-append}
use Rattle.bit_words.proofs.RippleCarry.{AreThere-later}
use Rattle.bit_words.specs.Words.{AreThere}
use Rattle.core_ir.specs.Tables.{EntryName}
use Rattle.core_ir.specs.declared.units.Shape.{Shape}
use Rattle.core_ir.specs.declared.units.Shape.TheVariants as shape
use Rattle.rvt_num.specs.Kinds.{width}
use Rattle.rvt_num.specs.declared.kinds.Kind.{Kind}
use Rattle.rvt_num.specs.declared.kinds.Kind.TheVariants.{U32}
use Rattle.rvt_num.specs.declared.values.Trap.{Trap}
use Rattle.sym_values.specs.Values.{lits_of, all_lits, IsWordOf, IsLaid, AreLaid}
use Rattle.uf_abstraction.specs.Applications.{LitAnswer, LitShape, Application, trap_lits, answer_lits}
use Rattle.uf_abstraction.specs.Applying.{fresh_lits, fresh_word, fresh_value, MadeValues, with_value, fresh_values, MadeTraps, with_trap, fresh_traps, fresh_answer, earlier, applied_by, apply_built, IsThere, AreKept, KeptLaw}
use Rattle.uf_abstraction.specs.Congruence.{IsLaidOut}

-- ---- layout

long_lits : (ns : List Node) (n : ℕ) → length (fresh_lits ns n).lits ≡ n
long_lits ns zero = refl
long_lits ns (suc n) = length_push (fresh_lits ns n).lits (input_built (fresh_lits ns n).nodes).lit ∙ ap (λ m. m + 1) (long_lits ns n) ∙ omega arith

laid_word : (ns : List Node) (k : Kind) → IsWordOf k (fresh_word ns k).word
unfolding fresh_word
laid_word ns k = record { of_kind = refl; of_width = long_lits ns (width k) }

laid_value : (ns : List Node) (s : Shape) → IsLaid s (fresh_value ns s).value
laid_value ns (shape.Word k) = laid_word ns k
laid_value ns (shape.Pointer t u) = (laid_word ns U32, laid_word (fresh_word ns U32).nodes U32)

laid_push : (ss : List Shape) (xs : List SymValue) (s : Shape) (x : SymValue) → AreLaid ss xs → IsLaid s x → AreLaid (ss ++ s ∷ []) (xs ++ x ∷ [])
laid_push [] [] s x p q = (q, tt)
laid_push [] (y ∷ ys) s x p q = absurd p
laid_push (r ∷ rs) [] s x p q = absurd p
laid_push (r ∷ rs) (y ∷ ys) s x p q = (p.0, laid_push rs ys s x p.1 q)

laid_fold : (m : MadeValues) (front ss : List Shape) → AreLaid front m.values → AreLaid (front ++ ss) (fold with_value m ss).values
laid_fold m front [] p = subst (λ ss. AreLaid ss m.values) (sym (append-nil front)) p
laid_fold m front (s ∷ ss) p =
    subst (λ all. AreLaid all (fold with_value (with_value m s) ss).values) (append_assoc front (s ∷ []) ss)
    (laid_fold (with_value m s) (front ++ s ∷ []) ss (laid_push front m.values s (fresh_value m.nodes s).value p (laid_value m.nodes s)))

laid_values : (ns : List Node) (ss : List Shape) → AreLaid ss (fresh_values ns ss).values
laid_values ns ss = laid_fold (record { nodes = ns; values = [] }) [] ss tt

kinds_push : (ts : List (Trap × Lit)) (t : Trap × Lit) → map (λ (t : Trap × Lit). t.0) (ts ++ t ∷ []) ≡ map (λ (t : Trap × Lit). t.0) ts ++ t.0 ∷ []
kinds_push [] t = refl
kinds_push (s ∷ ts) t = ap (λ l. s.0 ∷ l) (kinds_push ts t)

kinds_fold : (m : MadeTraps) (ts : List Trap) → map (λ (t : Trap × Lit). t.0) (fold with_trap m ts).traps ≡ map (λ (t : Trap × Lit). t.0) m.traps ++ ts
kinds_fold m [] = sym (append-nil _)
kinds_fold m (t ∷ ts) =
    kinds_fold (with_trap m t) ts ∙ ap (λ l. l ++ ts) (kinds_push m.traps (t, (input_built m.nodes).lit)) ∙ append_assoc (map (λ (t : Trap × Lit). t.0) m.traps) (t ∷ []) ts

-- ---- presence

-- a circuit that grew, and literals of it
pub record Stand (old new : List Node) (lits : List Lit) : Type 0 where
  pub grows : Grows old new
  pub there : AreThere new lits

input_grows : (ns : List Node) → Grows ns (input_built ns).nodes
unfolding input_built
input_grows ns = Grows-push ns None

input_there : (ns : List Node) → (input_built ns).lit.node < length (input_built ns).nodes
unfolding input_built
input_there ns = omega (arith, length_push ns None)

later : (a b c : List Node) (xs ys : List Lit) → Stand a b xs → Stand b c ys → Stand a c (xs ++ ys)
later a b c xs ys p q = record {
  grows = Grows-trans a b c p.grows q.grows;
  there = AreThere-append c xs ys (AreThere-later b c xs q.grows p.there) q.there;
}

one_input : (ns : List Node) → Stand ns (input_built ns).nodes ((input_built ns).lit ∷ [])
one_input ns = record { grows = input_grows ns; there = (input_there ns, tt) }

lits_stand : (ns : List Node) (n : ℕ) → Stand ns (fresh_lits ns n).nodes (fresh_lits ns n).lits
lits_stand ns zero = record { grows = Grows-refl ns; there = tt }
lits_stand ns (suc n) = later ns (fresh_lits ns n).nodes _ (fresh_lits ns n).lits _ (lits_stand ns n) (one_input (fresh_lits ns n).nodes)

word_stands : (ns : List Node) (k : Kind) → Stand ns (fresh_word ns k).nodes (fresh_word ns k).word.bits
unfolding fresh_word
word_stands ns k = lits_stand ns (width k)

value_stands : (ns : List Node) (s : Shape) → Stand ns (fresh_value ns s).nodes (lits_of (fresh_value ns s).value)
value_stands ns (shape.Word k) = word_stands ns k
value_stands ns (shape.Pointer t u) = later ns (fresh_word ns U32).nodes _ _ _ (word_stands ns U32) (word_stands (fresh_word ns U32).nodes U32)

pub all_lits_push : (xs : List SymValue) (x : SymValue) → all_lits (xs ++ x ∷ []) ≡ all_lits xs ++ lits_of x
all_lits_push [] x = append-nil (lits_of x)
all_lits_push (y ∷ ys) x = ap (λ l. lits_of y ++ l) (all_lits_push ys x) ∙ sym (append_assoc (lits_of y) (all_lits ys) (lits_of x))

values_fold : (ns : List Node) (m : MadeValues) (ss : List Shape) → Stand ns m.nodes (all_lits m.values) → Stand ns (fold with_value m ss).nodes (all_lits (fold with_value m ss).values)
values_fold ns m [] p = p
values_fold ns m (s ∷ ss) p =
    let f = fresh_value m.nodes s in
    values_fold ns (with_value m s) ss (subst (Stand ns f.nodes) (sym (all_lits_push m.values f.value)) (later ns m.nodes f.nodes (all_lits m.values) (lits_of f.value) p (value_stands m.nodes s)))

values_stand : (ns : List Node) (ss : List Shape) → Stand ns (fresh_values ns ss).nodes (all_lits (fresh_values ns ss).values)
values_stand ns ss = values_fold ns (record { nodes = ns; values = [] }) ss (record { grows = Grows-refl ns; there = tt })

trap_lits_push : (ts : List (Trap × Lit)) (t : Trap × Lit) → trap_lits (ts ++ t ∷ []) ≡ trap_lits ts ++ t.1 ∷ []
trap_lits_push [] t = refl
trap_lits_push (s ∷ ts) t = ap (λ l. s.1 ∷ l) (trap_lits_push ts t)

traps_fold : (ns : List Node) (m : MadeTraps) (ts : List Trap) → Stand ns m.nodes (trap_lits m.traps) → Stand ns (fold with_trap m ts).nodes (trap_lits (fold with_trap m ts).traps)
traps_fold ns m [] p = p
traps_fold ns m (t ∷ ts) p =
    let i = input_built m.nodes in
    traps_fold ns (with_trap m t) ts (subst (Stand ns i.nodes) (sym (trap_lits_push m.traps (t, i.lit))) (later ns m.nodes i.nodes (trap_lits m.traps) (i.lit ∷ []) p (one_input m.nodes)))

answer_stands : (ns : List Node) (given : LitShape) → Stand ns (fresh_answer ns given).nodes (answer_lits (fresh_answer ns given).answer)
answer_stands ns given =
    let t = fresh_traps ns given.traps in
    let r = fresh_values t.nodes given.results in
    let c = fresh_values r.nodes (map shape.Word given.cells) in
    later ns t.nodes c.nodes (trap_lits t.traps) (all_lits r.values ++ all_lits c.values)
    (traps_fold ns (record { nodes = ns; traps = [] }) given.traps (record { grows = Grows-refl ns; there = tt }))
    (later t.nodes r.nodes c.nodes (all_lits r.values) (all_lits c.values) (values_stand t.nodes given.results) (values_stand r.nodes (map shape.Word given.cells)))

-- ---- applying keeps both

all_push : {X : Type 0} (P : X → Type 0) (xs : List X) (x : X) → AllByRecursion P xs → P x → AllByRecursion P (xs ++ x ∷ [])
all_push P [] x p q = (q, tt)
all_push P (y ∷ ys) x p q = (p.0, all_push P ys x p.1 q)

there_later : (old new : List Node) → Grows old new → (xs : List Application) → AllByRecursion (IsThere old) xs → AllByRecursion (IsThere new) xs
there_later old new g [] p = tt
there_later old new g (x ∷ xs) p =
    (record { key = AreThere-later old new _ g p.0.key; answer = AreThere-later old new _ g p.0.answer }, there_later old new g xs p.1)

module _ (given : EntryName → LitShape) (keys : EntryName → List Shape) (ns : List Node) (applied : List Application) (name : EntryName) (key : List SymValue) (out : AllByRecursion (IsLaidOut given keys) applied) (there : AllByRecursion (IsThere ns) applied) (laid : AreLaid (keys name) key) (stands : AreThere ns (all_lits key)) where
  kept_by : (o : Option LitAnswer) → AreKept given keys (applied_by ns applied name key (given name) o)
  kept_by (Some a) = record { laid_out = out; there = there }
  kept_by None =
      let m = fresh_answer ns (given name) in
      let s = answer_stands ns (given name) in
      let t = fresh_traps ns (given name).traps in
      let r = fresh_values t.nodes (given name).results in
      record {
        laid_out = all_push (IsLaidOut given keys) applied _ out (record {
          key = laid;
          as_named = refl;
          traps = kinds_fold (record { nodes = ns; traps = [] }) (given name).traps;
          results = laid_values t.nodes (given name).results;
          cells = laid_values r.nodes (map shape.Word (given name).cells);
        });
        there = all_push (IsThere m.nodes) applied _ (there_later ns m.nodes s.grows applied there) (record {
          key = AreThere-later ns m.nodes (all_lits key) s.grows stands;
          answer = s.there;
        });
      }

pub kept : KeptLaw
unfolding apply_built
kept given keys ns applied name key out there laid stands = kept_by given keys ns applied name key out there laid stands (earlier name (all_lits key) applied)
