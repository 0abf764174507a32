-- The loops over the places of two lists.
use Rattle.std.proofs.Common.{◌≡◌, ℕ, zero, suc, ◌+◌, ◌<◌, ◌≤◌, true, false, List, [], ◌∷◌, ◌++◌, length, drop, refl, sym, ap, ◌∙◌, arith, subst, get_or, add-one, append_assoc, drop-cons}
use Rattle.std.proofs.lemmas.List.{append-nil}
use Rattle.aig_build.proofs.Nodes.{Grows-refl, Grows-trans}
use Rattle.aig_build.specs.Built.{Made, same_lit}
use Rattle.aig_build.specs.Circuits.{Node, Grows}
use Rattle.aig_build.specs.declared.lits.Lit.{Lit}
use Rattle.bit_ops.specs.declared.values.SymValue.{SymValue}
use Rattle.bit_ops.specs.declared.values.SymValue.TheVariants.{Pointer}
use Rattle.bit_words.proofs.ConvertValues.{AreThere-append}
use Rattle.bit_words.proofs.LessValues.{AreThere-push}
use Rattle.bit_words.proofs.RippleCarry.{AreThere-later}
use Rattle.bit_words.specs.Built.{choice_built}
use Rattle.bit_words.specs.Words.{AreThere, LitWord}
use Rattle.sym_store.specs.Merging.{unless_same, merged_lit, MadeLits, merged_lits, MadeValue, merged_value, merged_values, IsAlike, AreAlike, after_lits, AreLitsMerging, after_values, AreValuesMerging}
use Rattle.sym_values.specs.Values.{lits_of, all_lits}

drop_all : {X : Type 0} (n : ℕ) (xs : List X) → length xs ≤ n → drop n xs ≡ []
drop_all zero [] h = refl
drop_all zero (x ∷ xs) h = absurd (omega arith)
drop_all (suc n) [] h = refl
drop_all (suc n) (x ∷ xs) h = drop_all n xs (omega arith)

-- ---- literals

pub merged_same : (ns : List Node) (which a b : Lit) → same_lit a b ≡ true → merged_lit ns which a b ≡ record { nodes = ns; lit = a }
unfolding merged_lit
merged_same ns which a b e = ap (unless_same ns which a b) e

pub merged_other : (ns : List Node) (which a b : Lit) (m : Made) → same_lit a b ≡ false → choice_built ns which a b ≡ m → merged_lit ns which a b ≡ m
unfolding merged_lit
merged_other ns which a b m e f = ap (unless_same ns which a b) e ∙ f

lits_step : (now : List Node) (which x y : Lit) (xs ys lits : List Lit) (m : Made) → merged_lit now which x y ≡ m
    → after_lits (lits ++ m.lit ∷ []) (merged_lits m.nodes which xs ys) ≡ after_lits lits (merged_lits now which (x ∷ xs) (y ∷ ys))
unfolding merged_lits
lits_step now which x y xs ys lits m e =
    (λ i. record { nodes = (merged_lits m.nodes which xs ys).nodes; lits = append_assoc lits (m.lit ∷ []) (merged_lits m.nodes which xs ys).lits i })
    ∙ ap (λ (t : Made). after_lits lits (record { nodes = (merged_lits t.nodes which xs ys).nodes; lits = t.lit ∷ (merged_lits t.nodes which xs ys).lits })) (sym e)

lits_none : (now : List Node) (which : Lit) (ys : List Lit) → merged_lits now which [] ys ≡ record { nodes = now; lits = [] }
unfolding merged_lits
lits_none now which ys = refl

pub lits_first : (ns : List Node) (which : Lit) (xs ys lits : List Lit) → lits ≡ [] → AreLitsMerging ns ns which xs ys lits 0
lits_first ns which xs ys lits e = subst (λ ls. AreLitsMerging ns ns which xs ys ls 0) (sym e) (record { resumes = refl; grows = Grows-refl ns; there = tt })

module _ (first now : List Node) (which : Lit) (xs ys lits : List Lit) (at : ℕ) (merging : AreLitsMerging first now which xs ys lits at) where
  pub lits_more : (d : Lit) (new : List Node) (lit : Lit) → at < length xs → at < length ys → merged_lit now which (get_or xs at d) (get_or ys at d) ≡ record { nodes = new; lit = lit } → Grows now new → lit.node < length new
      → AreLitsMerging first new which xs ys (lits ++ lit ∷ []) (at + 1)
  lits_more d new lit p q e g t = record {
    resumes = rw add-one (lits_step now which _ _ (drop (suc at) xs) (drop (suc at) ys) lits (record { nodes = new; lit = lit }) e ∙ (λ i. after_lits lits (merged_lits now which (sym (drop-cons xs at d p) i) (sym (drop-cons ys at d q) i))) ∙ merging.resumes);
    grows = Grows-trans _ _ _ merging.grows g;
    there = AreThere-push new lits lit (AreThere-later now new lits g merging.there) t;
  }

  pub lits_all : length xs ≤ at → merged_lits first which xs ys ≡ record { nodes = now; lits = lits }
  lits_all done =
      sym merging.resumes ∙ ap (λ zs. after_lits lits (merged_lits now which zs (drop at ys))) (drop_all at xs done)
      ∙ ap (after_lits lits) (lits_none now which (drop at ys)) ∙ (λ i. record { nodes = now; lits = append-nil lits i })

long_by : (ns : List Node) (which : Lit) (xs ys : List Lit) → length xs ≡ length ys → length (merged_lits ns which xs ys).lits ≡ length xs
unfolding merged_lits
long_by ns which [] [] e = refl
long_by ns which [] (y ∷ ys) e = absurd (omega arith)
long_by ns which (x ∷ xs) [] e = absurd (omega arith)
long_by ns which (x ∷ xs) (y ∷ ys) e = ap (λ n. suc n) (long_by (merged_lit ns which x y).nodes which xs ys (omega arith))

pub lits_long : (ns : List Node) (which : Lit) (xs ys : List Lit) (m : MadeLits) → merged_lits ns which xs ys ≡ m → length xs ≡ length ys → length m.lits ≡ length xs
lits_long ns which xs ys m e w = subst (λ (t : MadeLits). length t.lits ≡ length xs) e (long_by ns which xs ys w)

-- ---- values

values_step : (now : List Node) (which : Lit) (x y : SymValue) (xs ys values : List SymValue) (m : MadeValue) → merged_value now which x y ≡ m
    → after_values (values ++ m.value ∷ []) (merged_values m.nodes which xs ys) ≡ after_values values (merged_values now which (x ∷ xs) (y ∷ ys))
unfolding merged_values
values_step now which x y xs ys values m e =
    (λ i. record { nodes = (merged_values m.nodes which xs ys).nodes; values = append_assoc values (m.value ∷ []) (merged_values m.nodes which xs ys).values i })
    ∙ ap (λ (t : MadeValue). after_values values (record { nodes = (merged_values t.nodes which xs ys).nodes; values = t.value ∷ (merged_values t.nodes which xs ys).values })) (sym e)

values_none : (now : List Node) (which : Lit) (ys : List SymValue) → merged_values now which [] ys ≡ record { nodes = now; values = [] }
unfolding merged_values
values_none now which ys = refl

all_lits_push : (xs : List SymValue) (x : SymValue) → all_lits (xs ++ x ∷ []) ≡ all_lits xs ++ lits_of x
all_lits_push [] x = append-nil (lits_of x)
all_lits_push (y ∷ ys) x = ap (λ l. lits_of y ++ l) (all_lits_push ys x) ∙ sym (append_assoc (lits_of y) (all_lits ys) (lits_of x))

pub values_first : (ns : List Node) (which : Lit) (xs ys values : List SymValue) → values ≡ [] → AreValuesMerging ns ns which xs ys values 0
values_first ns which xs ys values e = subst (λ vs. AreValuesMerging ns ns which xs ys vs 0) (sym e) (record { resumes = refl; grows = Grows-refl ns; there = tt })

module _ (first now : List Node) (which : Lit) (xs ys values : List SymValue) (at : ℕ) (merging : AreValuesMerging first now which xs ys values at) where
  pub values_more : (x y : SymValue) (new : List Node) (value : SymValue) → at < length xs → at < length ys → x ≡ get_or xs at x → y ≡ get_or ys at y → merged_value now which x y ≡ record { nodes = new; value = value } → Grows now new → AreThere new (lits_of value)
      → AreValuesMerging first new which xs ys (values ++ value ∷ []) (at + 1)
  values_more x y new value p q ex ey e g t =
      let here : merged_value now which (get_or xs at x) (get_or ys at y) ≡ record { nodes = new; value = value } =
      subst (λ b. merged_value now which (get_or xs at x) b ≡ record { nodes = new; value = value }) ey (subst (λ a. merged_value now which a y ≡ record { nodes = new; value = value }) ex e) in
      record {
        resumes = rw add-one (values_step now which _ _ (drop (suc at) xs) (drop (suc at) ys) values (record { nodes = new; value = value }) here ∙ (λ i. after_values values (merged_values now which (sym (drop-cons xs at x p) i) (sym (drop-cons ys at y q) i))) ∙ merging.resumes);
        grows = Grows-trans _ _ _ merging.grows g;
        there = subst (AreThere new) (sym (all_lits_push values value)) (AreThere-append new (all_lits values) (lits_of value) (AreThere-later now new (all_lits values) g merging.there) t);
      }

  pub values_all : length xs ≤ at → merged_values first which xs ys ≡ record { nodes = now; values = values }
  values_all done =
      sym merging.resumes ∙ ap (λ zs. after_values values (merged_values now which zs (drop at ys))) (drop_all at xs done)
      ∙ ap (after_values values) (values_none now which (drop at ys)) ∙ (λ i. record { nodes = now; values = append-nil values i })

-- ---- the value at a place

pub alike_long : (xs ys : List SymValue) → AreAlike xs ys → length xs ≡ length ys
alike_long [] [] h = refl
alike_long [] (y ∷ ys) h = absurd h
alike_long (x ∷ xs) [] h = absurd h
alike_long (x ∷ xs) (y ∷ ys) h = ap (λ n. suc n) (alike_long xs ys h.1)

pub alike_at : (xs ys : List SymValue) (at : ℕ) (x y : SymValue) → AreAlike xs ys → at < length xs → x ≡ get_or xs at x → y ≡ get_or ys at y → IsAlike x y
alike_at [] ys at x y h p e f = absurd (omega arith)
alike_at (a ∷ more) [] at x y h p e f = absurd h
alike_at (a ∷ more) (b ∷ bs) zero x y h p e f = subst (λ t. IsAlike t y) (sym e) (subst (IsAlike a) (sym f) h.0)
alike_at (a ∷ more) (b ∷ bs) (suc n) x y h p e f = alike_at more bs n x y h.1 (omega arith) e f

pub front_there : (ns : List Node) (xs ys : List Lit) → AreThere ns (xs ++ ys) → AreThere ns xs
front_there ns [] ys t = tt
front_there ns (x ∷ xs) ys t = (t.0, front_there ns xs ys t.1)

pub back_there : (ns : List Node) (xs ys : List Lit) → AreThere ns (xs ++ ys) → AreThere ns ys
back_there ns [] ys t = t
back_there ns (x ∷ xs) ys t = back_there ns xs ys t.1

pub value_there : (ns : List Node) (xs : List SymValue) (at : ℕ) (x : SymValue) → AreThere ns (all_lits xs) → at < length xs → x ≡ get_or xs at x → AreThere ns (lits_of x)
value_there ns [] at x t p e = absurd (omega arith)
value_there ns (a ∷ more) zero x t p e = subst (λ b. AreThere ns (lits_of b)) (sym e) (front_there ns (lits_of a) (all_lits more) t)
value_there ns (a ∷ more) (suc n) x t p e = value_there ns more n x (back_there ns (lits_of a) (all_lits more) t) (omega arith) e

pub object_there : (ns : List Node) (x : SymValue) (o c : LitWord) → x ≡ Pointer o c → AreThere ns (lits_of x) → AreThere ns o.bits
object_there ns x o c e t = front_there ns o.bits c.bits (subst (λ y. AreThere ns (lits_of y)) e t)

pub cell_there : (ns : List Node) (x : SymValue) (o c : LitWord) → x ≡ Pointer o c → AreThere ns (lits_of x) → AreThere ns c.bits
cell_there ns x o c e t = back_there ns o.bits c.bits (subst (λ y. AreThere ns (lits_of y)) e t)
