-- The aims of a spot that fits are at places that hold values of its shape.
use Rattle.std.proofs.Common.{◌≡◌, ℕ, zero, suc, ◌+◌, ◌*◌, ◌<◌, ◌≤◌, ◌&&◌, Bool, true, false, cond, List, [], ◌∷◌, ◌++◌, length, Option, Some, None, refl, sym, ap, ◌∙◌, arith, subst, if◌then◌else◌}
use Rattle.std.specs.Prelude.{slice_get, nat_eq}
use Rattle.std.specs.List.{AllByRecursion}
use Rattle.std.proofs.lemmas.Bool.{eq-eqb}
use Rattle.aig_build.specs.Built.{and_built, same_lit}
use Rattle.aig_build.specs.Circuits.{Node, constant}
use Rattle.aig_build.specs.declared.lits.Lit.{Lit}
use Rattle.bit_ops.specs.declared.values.SymValue.{SymValue}
use Rattle.bit_ops.specs.declared.values.SymValue.TheVariants.{Word, Pointer}
use Rattle.bit_words.specs.Built.{or_built}
use Rattle.bit_words.specs.Words.{LitWord}
use Rattle.core_ir.specs.Fits.{Widens, Gives, Takes, AtAll, SpotFits}
use Rattle.core_ir.specs.Places.{begins, pointee}
use Rattle.core_ir.specs.declared.cores.CoreObject.{CoreObject}
use Rattle.core_ir.specs.declared.units.Index.{Index}
use Rattle.core_ir.specs.declared.units.Shape.{Shape}
use Rattle.core_ir.specs.declared.units.Shape.TheVariants as shape
use Rattle.core_ir.specs.declared.units.Spot.{Spot}
use Rattle.core_ir.specs.declared.units.Spot.TheVariants as spot
use Rattle.sym_constants.specs.Tests.{test_built}
use Rattle.sym_places.specs.Placing.{AreOneLayout, Holds, AllHold}
use Rattle.sym_spots.specs.Aims.{moved, with_aim, starts_in, object_starts, starts_from, starts_of, hit_built, pointed_built, word_test, word_tests, index_tests, spread_one, spread, indexed}
use Rattle.sym_spots.specs.Spots.{fixed_built, behind_built, spot_built}
use Rattle.sym_spots.specs.declared.aims.Aim.{Aim}
use Rattle.sym_spots.specs.declared.aims.Target.{Target}
use Rattle.sym_spots.specs.declared.aims.Target.TheVariants.{Cell, Register}

moved_none : (t : Target) (size : ℕ) → moved t (0 * size) ≡ t
moved_none (Cell o c) size = ap (Cell o) (omega arith)
moved_none (Register r) size = ap Register (omega arith)

moved_again : (t : Target) (n size : ℕ) → moved (moved t size) (n * size) ≡ moved t (suc n * size)
moved_again (Cell o c) n size = ap (Cell o) (omega arith)
moved_again (Register r) n size = ap Register (omega arith)

-- ---- all aims

module _ (Q : Target → Type 0) where
  abbrev pub AllAt : List Aim → Type 0
  AllAt aims = AllByRecursion (λ a. Q a.target) aims

  push_at : (aims : List Aim) (a : Aim) → AllAt aims → Q a.target → AllAt (aims ++ a ∷ [])
  push_at [] a h q = (q, tt)
  push_at (x ∷ xs) a h q = (h.0, push_at xs a h.1 q)

  with_at : (aims : List Aim) (lit : Lit) (t : Target) → AllAt aims → Q t → AllAt (with_aim aims lit t)
  with_at aims lit t h q = by (same_lit lit (constant false))
    where
      by : (b : Bool) → AllAt (if b then aims else aims ++ record { lit = lit; target = t } ∷ [])
      by true = h
      by false = push_at aims (record { lit = lit; target = t }) h q

  one_at : (ns : List Node) (lit : Lit) (size : ℕ) (t : Target) (aims : List Aim) (tests : List Lit) → AllAt aims → ((n : ℕ) → n < length tests → Q (moved t (n * size))) → AllAt (spread_one lit size ns t aims tests).aims
  unfolding spread_one
  one_at ns lit size t aims [] h f = h
  one_at ns lit size t aims (x ∷ xs) h f =
      let here = and_built ns lit x in
      one_at here.nodes lit size (moved t size) (with_aim aims here.lit t) xs (with_at aims here.lit t h (subst Q (moved_none t size) (f 0 (omega arith))))
      (λ n l. subst Q (sym (moved_again t n size)) (f (suc n) (omega arith)))

  spread_at : (ns : List Node) (size count : ℕ) (tests : List Lit) (out aims : List Aim) → length tests ≤ count → AllAt out → AllByRecursion (λ a. (n : ℕ) → n < count → Q (moved a.target (n * size))) aims → AllAt (spread size tests ns out aims).aims
  unfolding spread
  spread_at ns size count tests out [] l h f = h
  spread_at ns size count tests out (a ∷ more) l h f =
      let m = spread_one a.lit size ns a.target out tests in
      spread_at m.nodes size count tests m.aims more l (one_at ns a.lit size a.target out tests h (λ n k. f.0 n (omega arith))) f.1

  pointed_at : (object cell : LitWord) (cells : ℕ) (ns : List Node) (aims : List Aim) (any : Lit) (starts : List (ℕ × ℕ)) → AllAt aims → AllByRecursion (λ (s : ℕ × ℕ). Q (Cell s.0 (s.1 + cells))) starts → AllAt (pointed_built object cell cells ns aims any starts).aims
  unfolding pointed_built
  pointed_at object cell cells ns aims any [] h f = h
  pointed_at object cell cells ns aims any (s ∷ ss) h f =
      let here = hit_built ns object cell s in
      let one = or_built here.nodes any here.lit in
      pointed_at object cell cells one.nodes (with_aim aims here.lit (Cell s.0 (s.1 + cells))) one.lit ss (with_at aims here.lit (Cell s.0 (s.1 + cells)) h f.0) f.1

-- ---- indexes

word_long : (ns : List Node) (w : LitWord) (n : ℕ) → length (word_tests ns w n).lits ≡ n
unfolding word_tests
word_long ns w zero = refl
word_long ns w (suc n) = long_push (word_tests ns w n).lits (word_test (word_tests ns w n).nodes w n).lit ∙ ap (λ k. suc k) (word_long ns w n)
  where
    long_push : (xs : List Lit) (x : Lit) → length (xs ++ x ∷ []) ≡ suc (length xs)
    long_push [] x = refl
    long_push (y ∷ ys) x = ap (λ k. suc k) (long_push ys x)

tests_few : (ns : List Node) (s : Option SymValue) (count : ℕ) → length (index_tests ns s count).lits ≤ count
tests_few ns None count = omega arith
tests_few ns (Some (Word w)) count = omega (arith, word_long ns w count)
tests_few ns (Some (Pointer o c)) count = omega arith

abbrev pub AtAllFrom : List Index → (Target → Type 0) → Target → Type 0
AtAllFrom is P (Cell o c) = AtAll is c (λ k. P (Cell o k))
AtAllFrom is P (Register r) = AtAll is r (λ k. P (Register k))

at_none : (P : Target → Type 0) (aims : List Aim) → AllAt (AtAllFrom [] P) aims → AllAt P aims
at_none P [] h = tt
at_none P (a ∷ more) h = (by a.target h.0, at_none P more h.1)
  where
    by : (t : Target) → AtAllFrom [] P t → P t
    by (Cell o c) q = q
    by (Register r) q = q

at_next : (P : Target → Type 0) (i : Index) (is : List Index) (aims : List Aim) → AllAt (AtAllFrom (i ∷ is) P) aims → AllByRecursion (λ a. (n : ℕ) → n < i.count → AtAllFrom is P (moved a.target (n * i.size))) aims
at_next P i is [] h = tt
at_next P i is (a ∷ more) h = (by a.target h.0, at_next P i is more h.1)
  where
    by : (t : Target) → AtAllFrom (i ∷ is) P t → (n : ℕ) → n < i.count → AtAllFrom is P (moved t (n * i.size))
    by (Cell o c) q = q
    by (Register r) q = q

indexed_at : (P : Target → Type 0) (registers : List SymValue) (ns : List Node) (aims : List Aim) (any : Lit) (is : List Index) → AllAt (AtAllFrom is P) aims → AllAt P (indexed registers ns aims any is).aims
unfolding indexed
indexed_at P registers ns aims any [] h = at_none P aims h
indexed_at P registers ns aims any (i ∷ is) h =
    let t = index_tests ns (slice_get registers i.register) i.count in
    let all = and_built t.nodes any t.any in
    let m = spread i.size t.lits all.nodes [] aims in
    indexed_at P registers m.nodes m.aims all.lit is (spread_at (AtAllFrom is P) all.nodes i.size i.count t.lits [] aims (tests_few ns (slice_get registers i.register) i.count) tt (at_next P i is aims h))

mapped : (is : List Index) (c : ℕ) (P R : ℕ → Type 0) → ((k : ℕ) → P k → R k) → AtAll is c P → AtAll is c R
mapped [] c P R f h = f c h
mapped (i ∷ is) c P R f h = λ n l. mapped is (c + n * i.size) P R f (h n l)

-- ---- cells where a value of the type begins

begins_all : (type o : ℕ) (x : CoreObject) (R : ℕ × ℕ → Type 0) (starts : List (ℕ × ℕ)) → ((c : ℕ) → begins x.starts type c ≡ true → R (o, c)) → ((c : ℕ) → begins starts type c ≡ true → begins x.starts type c ≡ true) → AllByRecursion R (starts_in type o starts)
begins_all type o x R [] f g = tt
begins_all type o x R (s ∷ ss) f g = by (nat_eq s.0 type) refl (begins_all type o x R ss f (λ c e. g c (later (nat_eq s.0 type && nat_eq s.1 c) c e)))
  where
    later : (b : Bool) (c : ℕ) → begins ss type c ≡ true → cond b true (begins ss type c) ≡ true
    later true c e = refl
    later false c e = e

    first : nat_eq s.0 type ≡ true → begins (s ∷ ss) type s.1 ≡ true
    first e = (λ i. cond (e i && eq-eqb s.1 s.1 refl i) true (begins ss type s.1))

    by : (b : Bool) → nat_eq s.0 type ≡ b → AllByRecursion R (starts_in type o ss) → AllByRecursion R (if b then (o, s.1) ∷ starts_in type o ss else starts_in type o ss)
    by true e r = (f s.1 (g s.1 (first e)), r)
    by false e r = r

append_all : (R : ℕ × ℕ → Type 0) (xs ys : List (ℕ × ℕ)) → AllByRecursion R xs → AllByRecursion R ys → AllByRecursion R (xs ++ ys)
append_all R [] ys h g = g
append_all R (x ∷ xs) ys h g = (h.0, append_all R xs ys h.1 g)

starts_all : (type o : ℕ) (R : ℕ × ℕ → Type 0) (xs : List CoreObject) → ((j : ℕ) (x : CoreObject) (c : ℕ) → slice_get xs j ≡ Some x → x.addressable ≡ true → begins x.starts type c ≡ true → R (o + j, c)) → AllByRecursion R (starts_from type o xs)
starts_all type o R [] f = tt
starts_all type o R (x ∷ xs) f = append_all R (object_starts type o x) (starts_from type (suc o) xs) (by x.addressable refl)
    (starts_all type (suc o) R xs (λ j y c e a b. subst (λ n. R (n, c)) (next j) (f (suc j) y c e a b)))
  where
    next : (j : ℕ) → o + suc j ≡ suc o + j
    next j = omega arith

    same : o + 0 ≡ o
    same = omega arith

    by : (b : Bool) → x.addressable ≡ b → AllByRecursion R (if b then starts_in type o x.starts else [])
    by true a = begins_all type o x R x.starts (λ c b. subst (λ n. R (n, c)) same (f 0 x c refl a b)) (λ c b. b)
    by false a = tt

-- ---- spots

widens_layout : (t s : Shape) → Widens t s → AreOneLayout t s
widens_layout (shape.Word k) (shape.Word l) h = h
widens_layout (shape.Word k) (shape.Pointer u d) h = absurd h
widens_layout (shape.Pointer t c) (shape.Word l) h = absurd h
widens_layout (shape.Pointer t c) (shape.Pointer u d) h = tt

narrows_layout : (t s : Shape) → Widens s t → AreOneLayout t s
narrows_layout (shape.Word k) (shape.Word l) h = sym h
narrows_layout (shape.Word k) (shape.Pointer u d) h = absurd h
narrows_layout (shape.Pointer t c) (shape.Word l) h = absurd h
narrows_layout (shape.Pointer t c) (shape.Pointer u d) h = tt

from_zero : (j : ℕ) → j ≡ 0 + j
from_zero j = omega arith

module _ (objects : List CoreObject) (shapes : List Shape) (registers : List SymValue) (s : Shape) where
  fixed_hold : (ns : List Node) (t : Target) (is : List Index) → AtAllFrom is (Holds objects shapes s) t → AllHold objects shapes s (fixed_built registers ns t is).aims
  fixed_hold ns t is h = indexed_at (Holds objects shapes s) registers ns (record { lit = constant true; target = t } ∷ []) (constant true) is (h, tt)

  behind_hold : (ns : List Node) (type cells : ℕ) (t : Option ℕ) (is : List Index) (x : Option SymValue) → t ≡ Some type
      → ((o : ℕ) (object : CoreObject) (c : ℕ) → slice_get objects o ≡ Some object → object.addressable ≡ true → begins object.starts type c ≡ true → AtAll is (c + cells) (λ k. slice_get object.cells k ≡ Some s))
      → AllHold objects shapes s (behind_built (starts_of objects t) cells registers ns is x).aims
  behind_hold ns type cells t is None e f = tt
  behind_hold ns type cells t is (Some (Word w)) e f = tt
  behind_hold ns type cells t is (Some (Pointer o c)) e f =
      let R : ℕ × ℕ → Type 0 = λ (p : ℕ × ℕ). AtAllFrom is (Holds objects shapes s) (Cell p.0 (p.1 + cells)) in
      let all : AllByRecursion R (starts_from type 0 objects) =
      starts_all type 0 R objects (λ j y q g a b. subst (λ n. R (n, q)) (from_zero j) (mapped is (q + cells) (λ k. slice_get y.cells k ≡ Some s) (λ k. Holds objects shapes s (Cell j k)) (λ k h. (y, g, h)) (f j y q g a b))) in
      let N = test_built ns (constant true) o.bits 0 in
      let P = pointed_built o c cells N.nodes [] (constant false) (starts_of objects t) in
      indexed_at (Holds objects shapes s) registers P.nodes P.aims (constant true) is
      (pointed_at (AtAllFrom is (Holds objects shapes s)) o c cells N.nodes [] (constant false) (starts_of objects t) tt (subst (λ u. AllByRecursion R (starts_of objects u)) (sym e) all))

  pub spot_holds : (ns : List Node) (writes : Bool) (p : Spot) → SpotFits objects shapes writes p s → AllHold objects shapes s (spot_built objects shapes registers ns p).aims
  unfolding spot_built
  spot_holds ns writes (spot.Cell o c is) f =
      fixed_hold ns (Cell o c) is (mapped is c (λ k. slice_get f.0.cells k ≡ Some s) (λ k. Holds objects shapes s (Cell o k)) (λ k h. (f.0, f.1, h)) f.4)
  spot_holds ns false (spot.Local r is) f =
      fixed_hold ns (Register r) is (mapped is r (λ k. Gives shapes k s) (λ k. Holds objects shapes s (Register k)) (λ k h. (h.shape, h.is_there, widens_layout h.shape s h.widens)) f.1)
  spot_holds ns true (spot.Local r is) f =
      fixed_hold ns (Register r) is (mapped is r (λ k. Takes shapes k s) (λ k. Holds objects shapes s (Register k)) (λ k h. (h.shape, h.is_there, narrows_layout h.shape s h.widens)) f.1)
  spot_holds ns writes (spot.Through p cells is) f =
      behind_hold ns f.0.pointee cells (pointee (slice_get shapes p)) is (slice_get registers p) (ap pointee f.0.is_there) f.3
