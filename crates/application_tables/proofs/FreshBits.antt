-- Fresh inputs take the next bits of an assignment, and what was there before keeps its values.
use Rattle.std.proofs.Common.{◌≡◌, ℕ, zero, suc, ◌+◌, ◌-◌, ◌<◌, ◌≤◌, Bool, false, cond, List, [], ◌∷◌, ◌++◌, length, take, drop, Some, None, refl, sym, ap, ◌∙◌, subst, arith, get_or, length-append}
use Rattle.std.specs.Prelude.{map, fold, count_by, is_none}
use Rattle.std.proofs.lemmas.List.{length_push, get_or_append_left, get_or_push}
use Rattle.std.proofs.lemmas.List.Sums.{sum_by-append}
use Rattle.aig_build.proofs.Nodes.{Grows-refl, Grows-trans, Grows-push, progress_push, values_length, count_cons, taken_is}
use Rattle.aig_build.specs.Built.{input_built, node_lit}
use Rattle.aig_build.specs.Circuits.{Node, Grows, Progress, next, start, progress, value_among, lit_value}
use Rattle.aig_build.specs.declared.lits.Lit.{Lit}
use Rattle.bit_words.proofs.ConvertValues.{AreThere-append}
use Rattle.bit_words.proofs.RippleCarry.{AreThere-later, values-later}
use Rattle.bit_words.specs.Words.{AreThere}
use Rattle.core_ir.specs.declared.units.Shape.{Shape}
use Rattle.core_ir.specs.declared.units.Shape.TheVariants as shape
use Rattle.rvt_num.specs.Kinds.{width}
use Rattle.rvt_num.specs.declared.kinds.Kind.{Kind}
use Rattle.rvt_num.specs.declared.kinds.Kind.TheVariants.{U32}
use Rattle.rvt_num.specs.declared.values.Trap.{Trap}
use Rattle.sym_values.specs.Values.{lits_of, all_lits}
use Rattle.uf_abstraction.proofs.FreshAnswers.{all_lits_push}
use Rattle.uf_abstraction.specs.Applications.{LitShape, trap_lits, answer_lits}
use Rattle.uf_abstraction.specs.Applying.{fresh_lits, fresh_word, fresh_value, MadeValues, with_value, fresh_values, MadeTraps, with_trap, fresh_traps, fresh_answer}

-- the nodes that take a bit: the constant and the inputs
abbrev pub taking : List Node → ℕ
taking ns = count_by is_none ns

-- ---- more bits than are taken

next_same : (bits more : List Bool) (p : Progress) → p.taken < suc (length bits) → next (bits ++ more) p None ≡ next bits p None
next_same bits more p h = ap (λ b. record { values = p.values ++ b ∷ []; taken = p.taken + 1 }) (get_or_append_left (false ∷ bits) more false p.taken h)

from_same : (bits more : List Bool) (p : Progress) (ns : List Node) → p.taken + taking ns ≤ suc (length bits) → fold (next (bits ++ more)) p ns ≡ fold (next bits) p ns
from_same bits more p [] h = refl
from_same bits more p (None ∷ ns) h =
    let c = count_cons None ns in
    ap (λ q. fold (next (bits ++ more)) q ns) (next_same bits more p (omega (arith, h, c))) ∙ from_same bits more (next bits p None) ns (omega (arith, h, c))
from_same bits more p (Some gate ∷ ns) h = from_same bits more (next bits p (Some gate)) ns (let c = count_cons (Some gate) ns in omega (arith, h, c))

pub lit_same : (ns : List Node) (bits more : List Bool) (l : Lit) → taking ns ≤ suc (length bits) → lit_value ns (bits ++ more) l ≡ lit_value ns bits l
unfolding lit_value
lit_same ns bits more l h = ap (λ (p : Progress). value_among p.values l) (from_same bits more start ns (omega (arith, h)))

-- ---- parts of lists of bits

no_take : (k : ℕ) (xs : List Bool) → xs ≡ [] → take k xs ≡ []
no_take zero xs e = refl
no_take (suc k) [] e = refl
no_take (suc k) (x ∷ xs) e = cc

no_drop : (k : ℕ) (xs : List Bool) → xs ≡ [] → drop k xs ≡ []
no_drop zero xs e = e
no_drop (suc k) [] e = refl
no_drop (suc k) (x ∷ xs) e = cc

take_parts : (m n : ℕ) (xs : List Bool) → take m xs ++ take n (drop m xs) ≡ take (m + n) xs
take_parts zero n xs = let e : n ≡ 0 + n = omega arith in ap (λ k. take k xs) e
take_parts (suc m) n [] = no_take n [] refl ∙ sym (no_take (suc m + n) [] refl)
take_parts (suc m) n (x ∷ xs) = let e : suc (m + n) ≡ suc m + n = omega arith in ap (λ l. x ∷ l) (take_parts m n xs) ∙ ap (λ k. take k (x ∷ xs)) e

drop_parts : (m n : ℕ) (xs : List Bool) → drop n (drop m xs) ≡ drop (m + n) xs
drop_parts zero n xs = let e : n ≡ 0 + n = omega arith in ap (λ k. drop k xs) e
drop_parts (suc m) n [] = no_drop n [] refl ∙ sym (no_drop (suc m + n) [] refl)
drop_parts (suc m) n (x ∷ xs) = let e : suc (m + n) ≡ suc m + n = omega arith in drop_parts m n xs ∙ ap (λ k. drop k (x ∷ xs)) e

one_bit : (xs : List Bool) (n : ℕ) → n < length xs → take 1 (drop n xs) ≡ get_or xs n false ∷ []
one_bit [] n h = absurd (omega (arith, h))
one_bit (x ∷ xs) zero h = refl
one_bit (x ∷ xs) (suc n) h = one_bit xs n (omega (arith, h))

map_parts : (f : Lit → Bool) (xs ys : List Lit) → map f (xs ++ ys) ≡ map f xs ++ map f ys
map_parts f [] ys = refl
map_parts f (x ∷ xs) ys = ap (λ l. f x ∷ l) (map_parts f xs ys)

-- ---- reading the next bits

pub record Reads (old new : List Node) (lits : List Lit) : Type 0 where
  pub grows : Grows old new
  pub there : AreThere new lits
  pub count : taking new ≡ taking old + length lits
  pub reads : (bits : List Bool) → 0 < taking old → taking new ≤ suc (length bits) → map (lit_value new bits) lits ≡ take (length lits) (drop (taking old - 1) bits)

taking_push : (ns : List Node) → taking (ns ++ None ∷ []) ≡ taking ns + 1
taking_push ns = sum_by-append (λ (y : Node). cond (is_none y) 1 0) ns (None ∷ [])

input_reads : (ns : List Node) (bits : List Bool) → 0 < taking ns → lit_value (ns ++ None ∷ []) bits (node_lit (length ns)) ≡ get_or bits (taking ns - 1) false
unfolding lit_value
input_reads ns bits some =
    let k = taking ns in
    ap (λ (s : Progress). value_among s.values (node_lit (length ns))) (progress_push ns None bits)
    ∙ get_or_push (progress ns bits).values _ false (length ns) (values_length ns bits)
    ∙ ap (λ n. get_or (false ∷ bits) n false) (taken_is ns bits ∙ (let e : k ≡ suc (k - 1) = omega (arith, some) in e))

pub one_reads : (ns : List Node) → Reads ns (input_built ns).nodes ((input_built ns).lit ∷ [])
unfolding input_built
one_reads ns =
    let c = taking_push ns in
    record {
      grows = Grows-push ns None;
      there = (omega (arith, length_push ns None), tt);
      count = c;
      reads = λ bits some h. ap (λ b. b ∷ []) (input_reads ns bits some) ∙ sym (one_bit bits (taking ns - 1) (omega (arith, some, h, c)));
    }

pub none_reads : (ns : List Node) → Reads ns ns []
none_reads ns = record { grows = Grows-refl ns; there = tt; count = omega arith; reads = λ bits some h. refl }

pub both_read : (a b c : List Node) (xs ys : List Lit) → Reads a b xs → Reads b c ys → Reads a c (xs ++ ys)
both_read a b c xs ys p q =
    let m = p.count in
    let n = q.count in
    let l = length-append xs ys in
    record {
      grows = Grows-trans a b c p.grows q.grows;
      there = AreThere-append c xs ys (AreThere-later b c xs q.grows p.there) q.there;
      count = omega (arith, m, n, l);
      reads = λ bits some h.
          let first = values-later b c bits xs q.grows p.there ∙ p.reads bits some (omega (arith, h, n)) in
          let at : taking b - 1 ≡ (taking a - 1) + length xs = omega (arith, m, some) in
          let second = q.reads bits (omega (arith, m, some)) h ∙ ap (λ k. take (length ys) (drop k bits)) at ∙ ap (take (length ys)) (sym (drop_parts (taking a - 1) (length xs) bits)) in
          map_parts (lit_value c bits) xs ys ∙ (λ i. first i ++ second i) ∙ take_parts (length xs) (length ys) (drop (taking a - 1) bits) ∙ ap (λ k. take k (drop (taking a - 1) bits)) (sym l);
    }

-- ---- fresh answers

lits_read : (ns : List Node) (n : ℕ) → Reads ns (fresh_lits ns n).nodes (fresh_lits ns n).lits
lits_read ns zero = none_reads ns
lits_read ns (suc n) = both_read ns (fresh_lits ns n).nodes _ (fresh_lits ns n).lits _ (lits_read ns n) (one_reads (fresh_lits ns n).nodes)

word_reads : (ns : List Node) (k : Kind) → Reads ns (fresh_word ns k).nodes (fresh_word ns k).word.bits
unfolding fresh_word
word_reads ns k = lits_read ns (width k)

value_reads : (ns : List Node) (s : Shape) → Reads ns (fresh_value ns s).nodes (lits_of (fresh_value ns s).value)
value_reads ns (shape.Word k) = word_reads ns k
value_reads ns (shape.Pointer t u) = both_read ns (fresh_word ns U32).nodes _ _ _ (word_reads ns U32) (word_reads (fresh_word ns U32).nodes U32)

values_fold : (ns : List Node) (m : MadeValues) (ss : List Shape) → Reads ns m.nodes (all_lits m.values) → Reads ns (fold with_value m ss).nodes (all_lits (fold with_value m ss).values)
values_fold ns m [] p = p
values_fold ns m (s ∷ ss) p =
    let f = fresh_value m.nodes s in
    values_fold ns (with_value m s) ss (subst (Reads ns f.nodes) (sym (all_lits_push m.values f.value)) (both_read ns m.nodes f.nodes (all_lits m.values) (lits_of f.value) p (value_reads m.nodes s)))

values_read : (ns : List Node) (ss : List Shape) → Reads ns (fresh_values ns ss).nodes (all_lits (fresh_values ns ss).values)
values_read ns ss = values_fold ns (record { nodes = ns; values = [] }) ss (none_reads ns)

trap_lits_push : (ts : List (Trap × Lit)) (t : Trap × Lit) → trap_lits (ts ++ t ∷ []) ≡ trap_lits ts ++ t.1 ∷ []
trap_lits_push [] t = refl
trap_lits_push (s ∷ ts) t = ap (λ l. s.1 ∷ l) (trap_lits_push ts t)

traps_fold : (ns : List Node) (m : MadeTraps) (ts : List Trap) → Reads ns m.nodes (trap_lits m.traps) → Reads ns (fold with_trap m ts).nodes (trap_lits (fold with_trap m ts).traps)
traps_fold ns m [] p = p
traps_fold ns m (t ∷ ts) p =
    let i = input_built m.nodes in
    traps_fold ns (with_trap m t) ts (subst (Reads ns i.nodes) (sym (trap_lits_push m.traps (t, i.lit))) (both_read ns m.nodes i.nodes (trap_lits m.traps) (i.lit ∷ []) p (one_reads m.nodes)))

pub answer_reads : (ns : List Node) (given : LitShape) → Reads ns (fresh_answer ns given).nodes (answer_lits (fresh_answer ns given).answer)
answer_reads ns given =
    let t = fresh_traps ns given.traps in
    let r = fresh_values t.nodes given.results in
    let c = fresh_values r.nodes (map shape.Word given.cells) in
    both_read ns t.nodes c.nodes (trap_lits t.traps) (all_lits r.values ++ all_lits c.values)
    (traps_fold ns (record { nodes = ns; traps = [] }) given.traps (none_reads ns))
    (both_read t.nodes r.nodes c.nodes (all_lits r.values) (all_lits c.values) (values_read t.nodes given.results) (values_read r.nodes (map shape.Word given.cells)))
