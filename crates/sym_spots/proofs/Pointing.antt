-- Which cell a pointer is at.
use Rattle.std.proofs.Common.{◌≡◌, ℕ, zero, suc, ◌+◌, ◌==◌, ◌&&◌, ◌||◌, Bool, true, false, not, cond, List, [], ◌∷◌, ◌++◌, Option, Some, None, refl, sym, ap, ◌∙◌, arith, subst, ◌<◌, if◌then◌else◌}
use Rattle.std.specs.Prelude.{slice_get, nat_eq}
use Rattle.std.proofs.lemmas.Bool.{eqb-true, eq-eqb, ne_eqb, true≢false}
use Rattle.std.proofs.lemmas.Option.{none-some, same_Some}
use Rattle.aig_build.specs.Circuits.{Node, constant}
use Rattle.aig_build.specs.declared.lits.Lit.{Lit}
use Rattle.bit_words.specs.Built.{or_built}
use Rattle.bit_words.specs.Words.{LitWord}
use Rattle.core_ir.specs.Places.{In_object, begins, begins_in, begins_at}
use Rattle.core_ir.specs.declared.cores.CoreObject.{CoreObject}
use Rattle.sym_constants.proofs.Testing.{test_is}
use Rattle.sym_constants.specs.Tests.{test_built}
use Rattle.sym_spots.proofs.Spreads.{Only, with_only, with_some}
use Rattle.sym_spots.specs.Aims.{meant, with_aim, MadeAims, starts_in, object_starts, starts_from, starts_of, hit_built, pointed_built}
use Rattle.sym_spots.specs.Spots.{any_true}
use Rattle.sym_spots.specs.declared.aims.Aim.{Aim}
use Rattle.sym_spots.specs.declared.aims.Target.TheVariants.{Cell}
use Rattle.sym_values.proofs.Conjunctions.{conjunction}
use Rattle.sym_values.proofs.Ripples.{or_gives}
use Rattle.sym_values.specs.Valuations.{Valuation, IsValuation, Gives}
use Rattle.sym_values.specs.Values.{pattern_under}

-- a pointer with these two numbers is at one of the cells
abbrev pub is_at : ℕ → ℕ → ℕ × ℕ → Bool
is_at o c s = o == s.0 + 1 && c == s.1

abbrev pub found : ℕ → ℕ → List (ℕ × ℕ) → Bool
found o c [] = false
found o c (s ∷ ss) = is_at o c s || found o c ss

both_true : (a b : Bool) → (a && b) ≡ true → (a ≡ true) × (b ≡ true)
both_true true b e = (refl, e)
both_true false b e = absurd (true≢false (sym e))

module _ (v : Valuation) where
  true_is : (ns : List Node) → IsValuation ns v → v (constant true) ≡ true
  true_is ns h = h.of_opposite (constant false) ∙ ap not h.of_constant

  pub word_is : (ns : List Node) (w : LitWord) (n : ℕ) → Gives v ns (test_built ns (constant true) w.bits n).nodes (test_built ns (constant true) w.bits n).lit (pattern_under v w == n)
  word_is ns w n = let t = test_is v ns (constant true) w.bits n in record { back = t.back; is = λ h. t.is h ∙ ap (λ b. b && (pattern_under v w == n)) (true_is ns (t.back h)) }

  hit_is : (ns : List Node) (o c : LitWord) (s : ℕ × ℕ) → Gives v ns (hit_built ns o c s).nodes (hit_built ns o c s).lit (is_at (pattern_under v o) (pattern_under v c) s)
  unfolding hit_built
  hit_is ns o c s =
      let O = test_built ns (constant true) o.bits (s.0 + 1) in
      let C = test_built O.nodes (constant true) c.bits s.1 in
      let one = word_is ns o (s.0 + 1) in
      let two = word_is O.nodes c s.1 in
      let both = conjunction v C.nodes O.lit C.lit in
      record {
        back = λ h. one.back (two.back (both.back h));
        is = λ h. let g = both.back h in let a = one.is (two.back g) in let b = two.is g in both.is h ∙ (λ i. a i && b i);
      }

  pub record IsPointed (ns : List Node) (o c cells : ℕ) (aims : List Aim) (any : Lit) (starts : List (ℕ × ℕ)) (m : MadeAims) : Type 0 where
    pub back : IsValuation m.nodes v → IsValuation ns v
    pub any_is : IsValuation m.nodes v → v m.any ≡ (v any || found o c starts)
    pub some : IsValuation m.nodes v → any_true v m.aims ≡ (any_true v aims || found o c starts)
    pub only : IsValuation m.nodes v → (k : ℕ) → o ≡ suc k → Only v (In_object k (c + cells)) aims → Only v (In_object k (c + cells)) m.aims

  or_false : (b : Bool) → b ≡ (b || false)
  or_false true = refl
  or_false false = refl

  or_assoc : (a b c : Bool) → ((a || b) || c) ≡ (a || (b || c))
  or_assoc true b c = refl
  or_assoc false b c = refl

  cell_at : (o c cells k : ℕ) (s : ℕ × ℕ) → o ≡ suc k → is_at o c s ≡ true → meant (Cell s.0 (s.1 + cells)) ≡ In_object k (c + cells)
  cell_at o c cells k s e h =
      let p = both_true (o == s.0 + 1) (c == s.1) h in
      let first : s.0 ≡ k = omega (arith, e, eqb-true o (s.0 + 1) p.0) in
      let second : s.1 ≡ c = sym (eqb-true c s.1 p.1) in
      λ i. In_object (first i) (second i + cells)

  pub pointed_is : (object cell : LitWord) (cells : ℕ) (ns : List Node) (aims : List Aim) (any : Lit) (starts : List (ℕ × ℕ))
      → IsPointed ns (pattern_under v object) (pattern_under v cell) cells aims any starts (pointed_built object cell cells ns aims any starts)
  unfolding pointed_built
  pointed_is object cell cells ns aims any [] = record { back = λ h. h; any_is = λ h. or_false (v any); some = λ h. or_false (any_true v aims); only = λ h k e f. f }
  pointed_is object cell cells ns aims any (s ∷ ss) =
      let H = hit_built ns object cell s in
      let here = hit_is ns object cell s in
      let O = or_built H.nodes any H.lit in
      let one = or_gives v H.nodes any H.lit in
      let target = Cell s.0 (s.1 + cells) in
      let rest = pointed_is object cell cells O.nodes (with_aim aims H.lit target) O.lit ss in
      let o = pattern_under v object in
      let c = pattern_under v cell in
      record {
        back = λ h. here.back (one.back (rest.back h));
        any_is = λ h. let g = rest.back h in
            rest.any_is h ∙ ap (λ b. b || found o c ss) (one.is g ∙ ap (λ b. v any || b) (here.is (one.back g))) ∙ or_assoc (v any) (is_at o c s) (found o c ss);
        some = λ h. let g = rest.back h in
            rest.some h ∙ ap (λ b. b || found o c ss) (with_some v O.nodes aims H.lit target g ∙ ap (λ b. any_true v aims || b) (here.is (one.back g))) ∙ or_assoc (any_true v aims) (is_at o c s) (found o c ss);
        only = λ h k e f.
            rest.only h k e (with_only v (In_object k (c + cells)) aims H.lit target f (λ t. cell_at o c cells k s e (sym (here.is (one.back (rest.back h))) ∙ t)));
      }

-- ---- the cells where a value of the type begins

-- tests of the other side
flip_test : (a b : ℕ) → (a == b) ≡ (b == a)
flip_test a b = by (b == a) refl
  where
    by : (t : Bool) → (b == a) ≡ t → (a == b) ≡ t
    by true e = eq-eqb a b (sym (eqb-true b a e))
    by false e = ne_eqb a b (λ q. true≢false (sym (eq-eqb b a (sym q)) ∙ e))

at_start : (K C type o : ℕ) (s : ℕ × ℕ) (b rest : Bool) → K ≡ suc o → nat_eq s.0 type ≡ b → (if b then (is_at K C (o, s.1) || rest) else rest) ≡ cond (b && nat_eq s.1 C) true rest
at_start K C type o s false rest e t = refl
at_start K C type o s true rest e t = ap (λ b. b || rest) (λ i. here i && flip_test C s.1 i) ∙ by (nat_eq s.1 C)
  where
    here : (K == o + 1) ≡ true
    here = eq-eqb K (o + 1) (omega (arith, e))

    by : (b : Bool) → (b || rest) ≡ cond b true rest
    by true = refl
    by false = refl

if_found : (K C : ℕ) (b : Bool) (x : ℕ × ℕ) (ss : List (ℕ × ℕ)) → found K C (if b then x ∷ ss else ss) ≡ (if b then (is_at K C x || found K C ss) else found K C ss)
if_found K C true x ss = refl
if_found K C false x ss = refl

found_in : (K C type o : ℕ) (starts : List (ℕ × ℕ)) → K ≡ suc o → found K C (starts_in type o starts) ≡ begins starts type C
found_in K C type o [] e = refl
found_in K C type o (s ∷ ss) e =
    if_found K C (nat_eq s.0 type) (o, s.1) (starts_in type o ss) ∙ at_start K C type o s (nat_eq s.0 type) (found K C (starts_in type o ss)) e refl
    ∙ ap (λ b. cond (nat_eq s.0 type && nat_eq s.1 C) true b) (found_in K C type o ss e)

not_in : (K C type o : ℕ) (starts : List (ℕ × ℕ)) → (K ≡ suc o → ⊥) → found K C (starts_in type o starts) ≡ false
not_in K C type o [] n = refl
not_in K C type o (s ∷ ss) n = if_found K C (nat_eq s.0 type) (o, s.1) (starts_in type o ss) ∙ by (not_in K C type o ss n) (nat_eq s.0 type)
  where
    other : (K == o + 1) ≡ false
    other = ne_eqb K (o + 1) (λ q. n (omega (arith, q)))

    by : found K C (starts_in type o ss) ≡ false → (b : Bool) → (if b then (is_at K C (o, s.1) || found K C (starts_in type o ss)) else found K C (starts_in type o ss)) ≡ false
    by rest true = λ i. (other i && (C == s.1)) || rest i
    by rest false = rest

found_append : (K C : ℕ) (xs ys : List (ℕ × ℕ)) → found K C (xs ++ ys) ≡ (found K C xs || found K C ys)
found_append K C [] ys = refl
found_append K C (x ∷ xs) ys = ap (λ b. is_at K C x || b) (found_append K C xs ys) ∙ by (is_at K C x)
  where
    by : (b : Bool) → (b || (found K C xs || found K C ys)) ≡ ((b || found K C xs) || found K C ys)
    by true = refl
    by false = refl

found_object : (K C type o : ℕ) (x : CoreObject) → K ≡ suc o → x.addressable ≡ true → found K C (object_starts type o x) ≡ begins x.starts type C
found_object K C type o x e a = ap (λ b. found K C (if b then starts_in type o x.starts else [])) a ∙ found_in K C type o x.starts e

not_object : (K C type o : ℕ) (x : CoreObject) → (K ≡ suc o → ⊥) → found K C (object_starts type o x) ≡ false
not_object K C type o x n = by x.addressable
  where
    by : (b : Bool) → found K C (if b then starts_in type o x.starts else []) ≡ false
    by true = not_in K C type o x.starts n
    by false = refl

not_later : (K C type o : ℕ) (xs : List CoreObject) → K < suc o → found K C (starts_from type o xs) ≡ false
not_later K C type o [] h = refl
not_later K C type o (x ∷ xs) h =
    found_append K C (object_starts type o x) (starts_from type (suc o) xs)
    ∙ (λ i. not_object K C type o x (λ e. let no : ⊥ = omega (arith, e) in no) i || not_later K C type (suc o) xs (omega arith) i)

found_from : (K C type o k : ℕ) (x : CoreObject) (xs : List CoreObject) → slice_get xs k ≡ Some x → x.addressable ≡ true → K ≡ suc (o + k) → found K C (starts_from type o xs) ≡ begins x.starts type C
found_from K C type o k x [] e a h = absurd (none-some _ e)
found_from K C type o zero x (y ∷ ys) e a h =
    let same : y ≡ x = same_Some y x e in
    let number : K ≡ suc o = omega (arith, h) in
    found_append K C (object_starts type o y) (starts_from type (suc o) ys)
    ∙ (λ i. found_object K C type o y number (subst (λ z. z.addressable ≡ true) (sym same) a) i || not_later K C type (suc o) ys (omega (arith, number)) i)
    ∙ sym (or_none (begins y.starts type C)) ∙ ap (λ z. begins z.starts type C) same
  where
    or_none : (b : Bool) → b ≡ (b || false)
    or_none true = refl
    or_none false = refl
found_from K C type o (suc k) x (y ∷ ys) e a h =
    found_append K C (object_starts type o y) (starts_from type (suc o) ys)
    ∙ (λ i. not_object K C type o y (λ q. let no : ⊥ = omega (arith, q, h) in no) i || found_from K C type (suc o) k x ys e a (omega (arith, h)) i)

-- a pointer into an addressable object is at one of the cells where a value of the type begins there
pub found_is : (objects : List CoreObject) (type : Option ℕ) (k C : ℕ) (x : CoreObject) → slice_get objects k ≡ Some x → x.addressable ≡ true → found (suc k) C (starts_of objects type) ≡ begins_at objects type k C
found_is objects None k C x e a = refl
found_is objects (Some type) k C x e a = found_from (suc k) C type 0 k x objects e a (omega arith) ∙ ap (λ o. begins_in o type C) (sym e)
