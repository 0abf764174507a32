-- The loops over cells, indexes and aims.
use Rattle.std.proofs.Common.{◌≡◌, ℕ, zero, suc, ◌+◌, ◌-◌, ◌<◌, ◌≤◌, Bool, true, false, List, [], ◌∷◌, ◌++◌, length, drop, refl, sym, ap, ◌∙◌, arith, subst, get_or, add-one, drop-cons, if◌then◌else◌}
use Rattle.std.specs.Prelude.{slice_get, slice_index_or, Some}
use Rattle.rvt_num.specs.Kinds.{is_signed}
use Rattle.sym_constants.specs.Tests.{test_built}
use Rattle.std.proofs.lemmas.Option.{none-some, same_Some}
use Rattle.aig_build.proofs.Nodes.{Grows-refl, Grows-trans, Grows-length}
use Rattle.aig_build.specs.Built.{Made, and_built, same_lit}
use Rattle.aig_build.specs.Circuits.{Node, Grows, constant}
use Rattle.aig_build.specs.declared.lits.Lit.{Lit}
use Rattle.bit_ops.specs.declared.values.SymValue.{SymValue}
use Rattle.bit_ops.specs.declared.values.SymValue.TheVariants.{Word, Pointer}
use Rattle.bit_words.proofs.LessValues.{AreThere-push}
use Rattle.bit_words.proofs.RippleCarry.{AreThere-later}
use Rattle.bit_words.specs.Built.{or_built, sign_bit}
use Rattle.bit_words.specs.Words.{LitWord, AreThere}
use Rattle.core_ir.specs.declared.units.Index.{Index}
use Rattle.sym_spots.specs.Aims.{moved, with_aim, MadeList, MadeTests, hit_built, pointed_built, word_test, word_tests, index_tests, spread_one, spread, indexed}
use Rattle.sym_spots.specs.Loops.{IsPointing, IsTestingWord, IsSpreadingOne, IsSpreading, IsIndexing}
use Rattle.sym_spots.specs.Spots.{AreAimsThere}
use Rattle.sym_spots.specs.declared.aims.Aim.{Aim}
use Rattle.sym_spots.specs.declared.aims.Target.{Target}
use Rattle.sym_spots.specs.declared.aims.Target.TheVariants.{Cell}
use Rattle.sym_values.specs.Values.{lits_of, all_lits}

pub drop_all : {X : Type 0} (n : ℕ) (xs : List X) → length xs ≤ n → drop n xs ≡ []
drop_all zero [] h = refl
drop_all zero (x ∷ xs) h = absurd (omega arith)
drop_all (suc n) [] h = refl
drop_all (suc n) (x ∷ xs) h = drop_all n xs (omega arith)

-- ---- literals that are there

pub aims_later : (old new : List Node) (aims : List Aim) → Grows old new → AreAimsThere old aims → AreAimsThere new aims
aims_later old new [] g t = tt
aims_later old new (a ∷ more) g t = (omega (arith, t.0, Grows-length old new g), aims_later old new more g t.1)

push_there : (ns : List Node) (aims : List Aim) (a : Aim) → AreAimsThere ns aims → a.lit.node < length ns → AreAimsThere ns (aims ++ a ∷ [])
push_there ns [] a t h = (h, tt)
push_there ns (x ∷ xs) a t h = (t.0, push_there ns xs a t.1 h)

pub with_there : (ns : List Node) (aims : List Aim) (lit : Lit) (t : Target) → AreAimsThere ns aims → lit.node < length ns → AreAimsThere ns (with_aim aims lit t)
with_there ns aims lit t a h = by (same_lit lit (constant false))
  where
    by : (b : Bool) → AreAimsThere ns (if b then aims else aims ++ record { lit = lit; target = t } ∷ [])
    by true = a
    by false = push_there ns aims (record { lit = lit; target = t }) a h

pub aim_there : (ns : List Node) (aims : List Aim) (at : ℕ) (d : Aim) → AreAimsThere ns aims → at < length aims → (get_or aims at d).lit.node < length ns
aim_there ns [] at d t h = absurd (omega arith)
aim_there ns (a ∷ more) zero d t h = t.0
aim_there ns (a ∷ more) (suc n) d t h = aim_there ns more n d t.1 (omega arith)

front_there : (ns : List Node) (xs ys : List Lit) → AreThere ns (xs ++ ys) → AreThere ns xs
front_there ns [] ys t = tt
front_there ns (x ∷ xs) ys t = (t.0, front_there ns xs ys t.1)

back_there : (ns : List Node) (xs ys : List Lit) → AreThere ns (xs ++ ys) → AreThere ns ys
back_there ns [] ys t = t
back_there ns (x ∷ xs) ys t = back_there ns xs ys t.1

register_there : (ns : List Node) (xs : List SymValue) (r : ℕ) (x : SymValue) → AreThere ns (all_lits xs) → slice_get xs r ≡ Some x → AreThere ns (lits_of x)
register_there ns [] r x t e = absurd (none-some _ e)
register_there ns (a ∷ more) zero x t e = subst (λ y. AreThere ns (lits_of y)) (same_Some _ _ e) (front_there ns (lits_of a) (all_lits more) t)
register_there ns (a ∷ more) (suc n) x t e = register_there ns more n x (back_there ns (lits_of a) (all_lits more) t) e

pub word_there : (ns : List Node) (xs : List SymValue) (r : ℕ) (w : LitWord) → AreThere ns (all_lits xs) → Some (Word w) ≡ slice_get xs r → AreThere ns w.bits
word_there ns xs r w t e = register_there ns xs r (Word w) t (sym e)

pub object_there : (ns : List Node) (xs : List SymValue) (r : ℕ) (o c : LitWord) → AreThere ns (all_lits xs) → Some (Pointer o c) ≡ slice_get xs r → AreThere ns o.bits
object_there ns xs r o c t e = front_there ns o.bits c.bits (register_there ns xs r (Pointer o c) t (sym e))

pub cell_there : (ns : List Node) (xs : List SymValue) (r : ℕ) (o c : LitWord) → AreThere ns (all_lits xs) → Some (Pointer o c) ≡ slice_get xs r → AreThere ns c.bits
cell_there ns xs r o c t e = back_there ns o.bits c.bits (register_there ns xs r (Pointer o c) t (sym e))

-- ---- a bit of a word

at_or_there : (ns : List Node) (xs : List Lit) (n : ℕ) → AreThere ns xs → 0 < length ns → (slice_index_or xs n (constant false)).node < length ns
at_or_there ns [] n t p = p
at_or_there ns (x ∷ xs) zero t p = t.0
at_or_there ns (x ∷ xs) (suc n) t p = at_or_there ns xs n t.1 p

pub sign_there : (ns : List Node) (w : LitWord) → AreThere ns w.bits → 0 < length ns → (sign_bit w).node < length ns
sign_there ns w t p = by (is_signed w.kind)
  where
    by : (b : Bool) → (if b then slice_index_or w.bits (length w.bits - 1) (constant false) else constant false).node < length ns
    by true = at_or_there ns w.bits (length w.bits - 1) t p
    by false = p

pub hit_made : (ns : List Node) (object cell : LitWord) (s : ℕ × ℕ) (o c r : Made) → test_built ns (constant true) object.bits (s.0 + 1) ≡ o → test_built o.nodes (constant true) cell.bits s.1 ≡ c → and_built c.nodes o.lit c.lit ≡ r → hit_built ns object cell s ≡ r
unfolding hit_built
hit_made ns object cell s o c r e f g =
    ap (λ (x : Made). let y = test_built x.nodes (constant true) cell.bits s.1 in and_built y.nodes x.lit y.lit) e ∙ ap (λ (y : Made). and_built y.nodes o.lit y.lit) f ∙ g

-- ---- aims of a pointer

module _ (object cell : LitWord) (cells : ℕ) where
  pointing_step : (now : List Node) (aims : List Aim) (any : Lit) (s : ℕ × ℕ) (ss : List (ℕ × ℕ)) (here one : Made) → hit_built now object cell s ≡ here → or_built here.nodes any here.lit ≡ one
      → pointed_built object cell cells one.nodes (with_aim aims here.lit (Cell s.0 (s.1 + cells))) one.lit ss ≡ pointed_built object cell cells now aims any (s ∷ ss)
  unfolding pointed_built
  pointing_step now aims any s ss here one e f =
      sym (ap (λ (h : Made). pointed_built object cell cells (or_built h.nodes any h.lit).nodes (with_aim aims h.lit (Cell s.0 (s.1 + cells))) (or_built h.nodes any h.lit).lit ss) e
      ∙ ap (λ (o : Made). pointed_built object cell cells o.nodes (with_aim aims here.lit (Cell s.0 (s.1 + cells))) o.lit ss) f)

  pointing_none : (now : List Node) (aims : List Aim) (any : Lit) → pointed_built object cell cells now aims any [] ≡ record { nodes = now; aims = aims; any = any }
  unfolding pointed_built
  pointing_none now aims any = refl

  pub pointing_first : (ns : List Node) (starts : List (ℕ × ℕ)) (aims : List Aim) → aims ≡ [] → 0 < length ns → IsPointing object cell cells ns ns starts aims (constant false) 0
  pointing_first ns starts aims e p =
      subst (λ xs. IsPointing object cell cells ns ns starts xs (constant false) 0) (sym e) (record { resumes = refl; grows = Grows-refl ns; aims_there = tt; any_there = p })

  pub pointing_more : (first now middle new : List Node) (starts : List (ℕ × ℕ)) (aims next : List Aim) (any here one : Lit) (at : ℕ) (d : ℕ × ℕ) → IsPointing object cell cells first now starts aims any at → at < length starts
      → hit_built now object cell (get_or starts at d) ≡ record { nodes = middle; lit = here } → or_built middle any here ≡ record { nodes = new; lit = one } → here.node < length middle → one.node < length new → Grows now middle → Grows middle new
      → next ≡ with_aim aims here (Cell (get_or starts at d).0 ((get_or starts at d).1 + cells)) → IsPointing object cell cells first new starts next one (at + 1)
  pointing_more first now middle new starts aims next any here one at d p h e f here_there one_there g k n =
      subst (λ xs. IsPointing object cell cells first new starts xs one (at + 1)) (sym n) (record {
        resumes = rw add-one (pointing_step now aims any (get_or starts at d) (drop (suc at) starts) (record { nodes = middle; lit = here }) (record { nodes = new; lit = one }) e f
            ∙ ap (pointed_built object cell cells now aims any) (sym (drop-cons starts at d h)) ∙ p.resumes);
        grows = Grows-trans _ _ _ p.grows (Grows-trans _ _ _ g k);
        aims_there = with_there new aims here _ (aims_later now new aims (Grows-trans _ _ _ g k) p.aims_there) (omega (arith, here_there, Grows-length middle new k));
        any_there = one_there;
      })

  pub pointing_all : (first now : List Node) (starts : List (ℕ × ℕ)) (aims : List Aim) (any : Lit) (at : ℕ) → IsPointing object cell cells first now starts aims any at → length starts ≤ at
      → pointed_built object cell cells first [] (constant false) starts ≡ record { nodes = now; aims = aims; any = any }
  pointing_all first now starts aims any at p h = sym p.resumes ∙ ap (pointed_built object cell cells now aims any) (drop_all at starts h) ∙ pointing_none now aims any

-- ---- tests of a word

testing_step : (first now : List Node) (w : LitWord) (lits : List Lit) (any : Lit) (n : ℕ) (t one : Made) → word_tests first w n ≡ record { nodes = now; lits = lits; any = any } → word_test now w n ≡ t → or_built t.nodes any t.lit ≡ one
    → word_tests first w (suc n) ≡ record { nodes = one.nodes; lits = lits ++ t.lit ∷ []; any = one.lit }
unfolding word_tests
testing_step first now w lits any n t one e f g =
    ap (λ (m : MadeTests). let s = word_test m.nodes w n in let o = or_built s.nodes m.any s.lit in record { nodes = o.nodes; lits = m.lits ++ s.lit ∷ []; any = o.lit }) e
    ∙ ap (λ (s : Made). let o = or_built s.nodes any s.lit in record { nodes = o.nodes; lits = lits ++ s.lit ∷ []; any = o.lit }) f
    ∙ ap (λ (o : Made). record { nodes = o.nodes; lits = lits ++ t.lit ∷ []; any = o.lit }) g

testing_none : (ns : List Node) (w : LitWord) → word_tests ns w 0 ≡ record { nodes = ns; lits = []; any = constant false }
unfolding word_tests
testing_none ns w = refl

pub testing_first : (ns : List Node) (w : LitWord) (lits : List Lit) (any : Lit) → lits ≡ [] → any ≡ constant false → 0 < length ns → IsTestingWord ns ns w lits any 0
testing_first ns w lits any e f p =
    subst (λ x. IsTestingWord ns ns w lits x 0) (sym f) (subst (λ xs. IsTestingWord ns ns w xs (constant false) 0) (sym e) (record { is = testing_none ns w; grows = Grows-refl ns; lits_there = tt; any_there = p }))

pub testing_more : (first now middle new : List Node) (w : LitWord) (lits next : List Lit) (any lit one : Lit) (at : ℕ) → IsTestingWord first now w lits any at
    → word_test now w at ≡ record { nodes = middle; lit = lit } → or_built middle any lit ≡ record { nodes = new; lit = one } → lit.node < length middle → one.node < length new → Grows now middle → Grows middle new
    → next ≡ lits ++ lit ∷ [] → IsTestingWord first new w next one (at + 1)
testing_more first now middle new w lits next any lit one at t e f lit_there one_there g k n =
    subst (λ xs. IsTestingWord first new w xs one (at + 1)) (sym n) (record {
      is = rw add-one (testing_step first now w lits any at (record { nodes = middle; lit = lit }) (record { nodes = new; lit = one }) t.is e f);
      grows = Grows-trans _ _ _ t.grows (Grows-trans _ _ _ g k);
      lits_there = AreThere-push new lits lit (AreThere-later now new lits (Grows-trans _ _ _ g k) t.lits_there) (omega (arith, lit_there, Grows-length middle new k));
      any_there = one_there;
    })

-- ---- aims that are moved

module _ (lit : Lit) (size : ℕ) where
  one_step : (now : List Node) (target : Target) (aims : List Aim) (t : Lit) (ts : List Lit) (here : Made) → and_built now lit t ≡ here
      → spread_one lit size here.nodes (moved target size) (with_aim aims here.lit target) ts ≡ spread_one lit size now target aims (t ∷ ts)
  unfolding spread_one
  one_step now target aims t ts here e = sym (ap (λ (h : Made). spread_one lit size h.nodes (moved target size) (with_aim aims h.lit target) ts) e)

  one_none : (now : List Node) (target : Target) (aims : List Aim) → spread_one lit size now target aims [] ≡ record { nodes = now; aims = aims }
  unfolding spread_one
  one_none now target aims = refl

  pub one_first : (ns : List Node) (target : Target) (aims : List Aim) (tests : List Lit) → AreAimsThere ns aims → IsSpreadingOne lit size ns ns target target aims aims tests 0
  one_first ns target aims tests t = record { resumes = refl; grows = Grows-refl ns; there = t }

  pub one_more : (first now new : List Node) (begin target far : Target) (before aims next : List Aim) (tests : List Lit) (here d : Lit) (at : ℕ) → IsSpreadingOne lit size first now begin target before aims tests at → at < length tests
      → and_built now lit (get_or tests at d) ≡ record { nodes = new; lit = here } → here.node < length new → Grows now new → next ≡ with_aim aims here target → far ≡ moved target size
      → IsSpreadingOne lit size first new begin far before next tests (at + 1)
  one_more first now new begin target far before aims next tests here d at s h e t g n f =
      subst (λ xs. IsSpreadingOne lit size first new begin far before xs tests (at + 1)) (sym n) (subst (λ x. IsSpreadingOne lit size first new begin x before (with_aim aims here target) tests (at + 1)) (sym f) (record {
        resumes = rw add-one (one_step now target aims (get_or tests at d) (drop (suc at) tests) (record { nodes = new; lit = here }) e ∙ ap (spread_one lit size now target aims) (sym (drop-cons tests at d h)) ∙ s.resumes);
        grows = Grows-trans _ _ _ s.grows g;
        there = with_there new aims here target (aims_later now new aims g s.there) t;
      }))

  pub one_all : (first now : List Node) (begin target : Target) (before aims : List Aim) (tests : List Lit) (at : ℕ) → IsSpreadingOne lit size first now begin target before aims tests at → length tests ≤ at
      → spread_one lit size first begin before tests ≡ record { nodes = now; aims = aims }
  one_all first now begin target before aims tests at s h = sym s.resumes ∙ ap (spread_one lit size now target aims) (drop_all at tests h) ∙ one_none now target aims

module _ (size : ℕ) (tests : List Lit) where
  spread_step : (now : List Node) (out : List Aim) (a : Aim) (more : List Aim) (m : MadeList) → spread_one a.lit size now a.target out tests ≡ m → spread size tests m.nodes m.aims more ≡ spread size tests now out (a ∷ more)
  unfolding spread
  spread_step now out a more m e = sym (ap (λ (x : MadeList). spread size tests x.nodes x.aims more) e)

  spread_none : (now : List Node) (out : List Aim) → spread size tests now out [] ≡ record { nodes = now; aims = out }
  unfolding spread
  spread_none now out = refl

  pub spread_first : (ns : List Node) (out aims : List Aim) → out ≡ [] → IsSpreading size tests ns ns out aims 0
  spread_first ns out aims e = subst (λ xs. IsSpreading size tests ns ns xs aims 0) (sym e) (record { resumes = refl; grows = Grows-refl ns; there = tt })

  pub spread_more : (first now new : List Node) (out next aims : List Aim) (at : ℕ) (d : Aim) → IsSpreading size tests first now out aims at → at < length aims
      → spread_one (get_or aims at d).lit size now (get_or aims at d).target out tests ≡ record { nodes = new; aims = next } → AreAimsThere new next → Grows now new → IsSpreading size tests first new next aims (at + 1)
  spread_more first now new out next aims at d s h e t g = record {
    resumes = rw add-one (spread_step now out (get_or aims at d) (drop (suc at) aims) (record { nodes = new; aims = next }) e ∙ ap (spread size tests now out) (sym (drop-cons aims at d h)) ∙ s.resumes);
    grows = Grows-trans _ _ _ s.grows g;
    there = t;
  }

  pub spread_all : (first now : List Node) (out aims : List Aim) (at : ℕ) → IsSpreading size tests first now out aims at → length aims ≤ at → spread size tests first [] aims ≡ record { nodes = now; aims = out }
  spread_all first now out aims at s h = sym s.resumes ∙ ap (spread size tests now out) (drop_all at aims h) ∙ spread_none now out

-- ---- all indexes

module _ (registers : List SymValue) where
  index_step : (now : List Node) (aims : List Aim) (any : Lit) (i : Index) (is : List Index) (t : MadeTests) (all : Made) (m : MadeList)
      → index_tests now (slice_get registers i.register) i.count ≡ t → and_built t.nodes any t.any ≡ all → spread i.size t.lits all.nodes [] aims ≡ m
      → indexed registers m.nodes m.aims all.lit is ≡ indexed registers now aims any (i ∷ is)
  unfolding indexed
  index_step now aims any i is t all m e f g =
      sym (ap (λ (x : MadeTests). let a = and_built x.nodes any x.any in let s = spread i.size x.lits a.nodes [] aims in indexed registers s.nodes s.aims a.lit is) e
      ∙ ap (λ (a : Made). let s = spread i.size t.lits a.nodes [] aims in indexed registers s.nodes s.aims a.lit is) f
      ∙ ap (λ (s : MadeList). indexed registers s.nodes s.aims all.lit is) g)

  index_none : (now : List Node) (aims : List Aim) (any : Lit) → indexed registers now aims any [] ≡ record { nodes = now; aims = aims; any = any }
  unfolding indexed
  index_none now aims any = refl

  pub index_first : (ns : List Node) (aims : List Aim) (indexes : List Index) → AreAimsThere ns aims → 0 < length ns → IsIndexing registers ns ns aims aims (constant true) indexes 0
  index_first ns aims indexes t p = record { resumes = refl; grows = Grows-refl ns; aims_there = t; inside_there = p }

  pub index_more : (first now tested middle new : List Node) (begin aims next : List Aim) (inside any all : Lit) (lits given : List Lit) (passed : List Aim) (indexes : List Index) (at : ℕ) (d : Index) → IsIndexing registers first now begin aims inside indexes at → at < length indexes
      → index_tests now (slice_get registers (get_or indexes at d).register) (get_or indexes at d).count ≡ record { nodes = tested; lits = lits; any = any }
      → and_built tested inside any ≡ record { nodes = middle; lit = all } → given ≡ lits → passed ≡ aims → spread (get_or indexes at d).size given middle [] passed ≡ record { nodes = new; aims = next }
      → Grows now tested → Grows tested middle → Grows middle new → all.node < length middle → AreAimsThere new next
      → IsIndexing registers first new begin next all indexes (at + 1)
  index_more first now tested middle new begin aims next inside any all lits given passed indexes at d s h e f p q k one two three all_there next_there = record {
    resumes = rw add-one (index_step now aims inside (get_or indexes at d) (drop (suc at) indexes) (record { nodes = tested; lits = lits; any = any }) (record { nodes = middle; lit = all }) (record { nodes = new; aims = next }) e f ((λ i. spread (get_or indexes at d).size (sym p i) middle [] (sym q i)) ∙ k)
        ∙ ap (indexed registers now aims inside) (sym (drop-cons indexes at d h)) ∙ s.resumes);
    grows = Grows-trans _ _ _ s.grows (Grows-trans _ _ _ one (Grows-trans _ _ _ two three));
    aims_there = next_there;
    inside_there = omega (arith, all_there, Grows-length middle new three);
  }

  pub index_all : (first now : List Node) (begin aims : List Aim) (inside : Lit) (indexes : List Index) (at : ℕ) → IsIndexing registers first now begin aims inside indexes at → length indexes ≤ at
      → indexed registers first begin (constant true) indexes ≡ record { nodes = now; aims = aims; any = inside }
  index_all first now begin aims inside indexes at s h = sym s.resumes ∙ ap (indexed registers now aims inside) (drop_all at indexes h) ∙ index_none now aims inside
