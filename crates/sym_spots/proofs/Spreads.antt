-- Where aims are after they are moved by indexes.
use Rattle.std.proofs.Common.{◌≡◌, ℕ, zero, suc, ◌+◌, ◌*◌, ◌==◌, ◌&&◌, ◌||◌, Bool, true, false, List, [], ◌∷◌, ◌++◌, Option, Some, None, refl, sym, ap, ◌∙◌, arith, subst, if◌then◌else◌}
use Rattle.std.specs.List.{AllByRecursion}
use Rattle.std.specs.Bool.{beq}
use Rattle.std.proofs.lemmas.Bool.{and_parts as both_parts, eqb-true, true≢false}
use Rattle.std.proofs.lemmas.Option.{none-some, same_Some}
use Rattle.aig_build.specs.Built.{and_built, same_lit}
use Rattle.aig_build.specs.Circuits.{Node, constant}
use Rattle.aig_build.specs.declared.lits.Lit.{Lit}
use Rattle.core_ir.specs.Places.{Place, In_object, In_register}
use Rattle.sym_spots.proofs.Tests.{AreTests, any_lit}
use Rattle.sym_spots.specs.Aims.{meant, moved, with_aim, MadeList, spread_one, spread}
use Rattle.sym_spots.specs.Spots.{any_true}
use Rattle.sym_spots.specs.declared.aims.Aim.{Aim}
use Rattle.sym_spots.specs.declared.aims.Target.{Target}
use Rattle.sym_spots.specs.declared.aims.Target.TheVariants.{Cell, Register}
use Rattle.sym_values.proofs.Conjunctions.{conjunction}
use Rattle.sym_values.specs.Valuations.{Valuation, IsValuation}

signs_same : (m n : Bool) → beq m n ≡ true → m ≡ n
signs_same false false e = refl
signs_same true true e = refl
signs_same false true e = absurd (true≢false (sym e))
signs_same true false e = absurd (true≢false (sym e))

same_is : (a b : Lit) → same_lit a b ≡ true → a ≡ b
same_is a b e =
    let p = both_parts (a.node == b.node) (beq a.negated b.negated) e in
    let nodes = eqb-true a.node b.node p.0 in
    let signs = signs_same a.negated b.negated p.1 in
    λ i. record { node = nodes i; negated = signs i }

-- a place some cells or registers further on
abbrev pub moved_place : Place → ℕ → Place
moved_place (In_object o c) n = In_object o (c + n)
moved_place (In_register r) n = In_register (r + n)

pub meant_moved : (t : Target) (n : ℕ) → meant (moved t n) ≡ moved_place (meant t) n
meant_moved (Cell o c) n = refl
meant_moved (Register r) n = refl

moved_none : (t : Target) (size : ℕ) → moved t (0 * size) ≡ t
moved_none (Cell o c) size = ap (Cell o) (omega arith)
moved_none (Register r) size = ap Register (omega arith)

moved_again : (t : Target) (n size : ℕ) → moved (moved t size) (n * size) ≡ moved t (suc n * size)
moved_again (Cell o c) n size = ap (Cell o) (omega arith)
moved_again (Register r) n size = ap Register (omega arith)

module _ (v : Valuation) where
  -- the true aims are at the place
  abbrev pub Only : Place → List Aim → Type 0
  Only place aims = AllByRecursion (λ a. v a.lit ≡ true → meant a.target ≡ place) aims

  push_only : (place : Place) (aims : List Aim) (a : Aim) → Only place aims → (v a.lit ≡ true → meant a.target ≡ place) → Only place (aims ++ a ∷ [])
  push_only place [] a h f = (f, tt)
  push_only place (x ∷ xs) a h f = (h.0, push_only place xs a h.1 f)

  pub with_only : (place : Place) (aims : List Aim) (lit : Lit) (t : Target) → Only place aims → (v lit ≡ true → meant t ≡ place) → Only place (with_aim aims lit t)
  with_only place aims lit t h f = by (same_lit lit (constant false))
    where
      by : (b : Bool) → Only place (if b then aims else aims ++ record { lit = lit; target = t } ∷ [])
      by true = h
      by false = push_only place aims (record { lit = lit; target = t }) h f

  push_some : (aims : List Aim) (a : Aim) → any_true v (aims ++ a ∷ []) ≡ (any_true v aims || v a.lit)
  push_some [] a = by (v a.lit)
    where
      by : (b : Bool) → (b || false) ≡ b
      by true = refl
      by false = refl
  push_some (x ∷ xs) a = ap (λ b. v x.lit || b) (push_some xs a) ∙ by (v x.lit)
    where
      by : (b : Bool) → (b || (any_true v xs || v a.lit)) ≡ ((b || any_true v xs) || v a.lit)
      by true = refl
      by false = refl

  or_false : (b : Bool) → b ≡ (b || false)
  or_false true = refl
  or_false false = refl

  pub with_some : (ns : List Node) (aims : List Aim) (lit : Lit) (t : Target) → IsValuation ns v → any_true v (with_aim aims lit t) ≡ (any_true v aims || v lit)
  with_some ns aims lit t h = by (same_lit lit (constant false)) refl
    where
      by : (b : Bool) → same_lit lit (constant false) ≡ b → any_true v (if b then aims else aims ++ record { lit = lit; target = t } ∷ []) ≡ (any_true v aims || v lit)
      by true e = or_false (any_true v aims) ∙ ap (λ b. any_true v aims || b) (sym (ap v (same_is lit (constant false) e) ∙ h.of_constant))
      by false e = push_some aims (record { lit = lit; target = t })

  pub record Spreading (ns : List Node) (lit : Lit) (size : ℕ) (i : Option ℕ) (target : Target) (aims : List Aim) (tests : List Lit) (m : MadeList) : Type 0 where
    pub back : IsValuation m.nodes v → IsValuation ns v
    pub some : IsValuation m.nodes v → any_true v m.aims ≡ (any_true v aims || (v lit && any_lit v tests))
    pub only : IsValuation m.nodes v → AreTests v i tests → (place : Place) → Only place aims → (v lit ≡ true → (n : ℕ) → i ≡ Some n → meant (moved target (n * size)) ≡ place) → Only place m.aims

  abbrev following : Option ℕ → Option ℕ
  following None = None
  following (Some zero) = None
  following (Some (suc n)) = Some n

  rest_tests : (i : Option ℕ) (t : Lit) (ts : List Lit) → AreTests v i (t ∷ ts) → AreTests v (following i) ts
  rest_tests None t ts h = h.1
  rest_tests (Some zero) t ts h = h.1
  rest_tests (Some (suc n)) t ts h = h.1

  and_parts : (a b : Bool) → (a && b) ≡ true → (a ≡ true) × (b ≡ true)
  and_parts true b e = (refl, e)
  and_parts false b e = absurd (true≢false (sym e))

  here_at : (lit t : Lit) (ts : List Lit) (size : ℕ) (i : Option ℕ) (target : Target) (place : Place) → AreTests v i (t ∷ ts) → (v lit ≡ true → (n : ℕ) → i ≡ Some n → meant (moved target (n * size)) ≡ place)
      → (v lit && v t) ≡ true → meant target ≡ place
  here_at lit t ts size None target place h f e = absurd (true≢false (sym (and_parts (v lit) (v t) e).1 ∙ h.0))
  here_at lit t ts size (Some zero) target place h f e = ap meant (sym (moved_none target size)) ∙ f (and_parts (v lit) (v t) e).0 0 refl
  here_at lit t ts size (Some (suc n)) target place h f e = absurd (true≢false (sym (and_parts (v lit) (v t) e).1 ∙ h.0))

  rest_at : (lit : Lit) (size : ℕ) (i : Option ℕ) (target : Target) (place : Place) → (v lit ≡ true → (n : ℕ) → i ≡ Some n → meant (moved target (n * size)) ≡ place)
      → v lit ≡ true → (n : ℕ) → following i ≡ Some n → meant (moved (moved target size) (n * size)) ≡ place
  rest_at lit size None target place f l n e = absurd (none-some _ e)
  rest_at lit size (Some zero) target place f l n e = absurd (none-some _ e)
  rest_at lit size (Some (suc k)) target place f l n e =
      subst (λ j. meant (moved (moved target size) (j * size)) ≡ place) (same_Some _ _ e) (ap meant (moved_again target k size) ∙ f l (suc k) refl)

  regroup : (a l t r : Bool) → ((a || (l && t)) || (l && r)) ≡ (a || (l && (t || r)))
  regroup true l t r = refl
  regroup false true true r = refl
  regroup false true false r = refl
  regroup false false t r = refl

  and_none : (a l : Bool) → a ≡ (a || (l && false))
  and_none true l = refl
  and_none false true = refl
  and_none false false = refl

  pub spread_one_is : (ns : List Node) (lit : Lit) (size : ℕ) (i : Option ℕ) (target : Target) (aims : List Aim) (tests : List Lit) → Spreading ns lit size i target aims tests (spread_one lit size ns target aims tests)
  unfolding spread_one
  spread_one_is ns lit size i target aims [] = record { back = λ h. h; some = λ h. and_none (any_true v aims) (v lit); only = λ h t place o f. o }
  spread_one_is ns lit size i target aims (t ∷ ts) =
      let H = and_built ns lit t in
      let here = conjunction v ns lit t in
      let rest = spread_one_is H.nodes lit size (following i) (moved target size) (with_aim aims H.lit target) ts in
      record {
        back = λ h. here.back (rest.back h);
        some = λ h. let g = rest.back h in
            rest.some h ∙ ap (λ b. b || (v lit && any_lit v ts)) (with_some H.nodes aims H.lit target g ∙ ap (λ b. any_true v aims || b) (here.is g))
            ∙ regroup (any_true v aims) (v lit) (v t) (any_lit v ts);
        only = λ h tests place o f.
            rest.only h (rest_tests i t ts tests) place
            (with_only place aims H.lit target o (λ e. here_at lit t ts size i target place tests f (sym (here.is (rest.back h)) ∙ e)))
            (rest_at lit size i target place f);
      }

  pub record SpreadAll (ns : List Node) (size : ℕ) (i : Option ℕ) (tests : List Lit) (out aims : List Aim) (m : MadeList) : Type 0 where
    pub back : IsValuation m.nodes v → IsValuation ns v
    pub some : IsValuation m.nodes v → any_true v m.aims ≡ (any_true v out || (any_true v aims && any_lit v tests))
    pub only : IsValuation m.nodes v → AreTests v i tests → (from place : Place) → Only from aims → ((n : ℕ) → i ≡ Some n → moved_place from (n * size) ≡ place) → Only place out → Only place m.aims

  regroup_all : (o a m t : Bool) → ((o || (a && t)) || (m && t)) ≡ (o || ((a || m) && t))
  regroup_all true a m t = refl
  regroup_all false true m true = refl
  regroup_all false true true false = refl
  regroup_all false true false false = refl
  regroup_all false false m t = refl

  pub spread_is : (ns : List Node) (size : ℕ) (i : Option ℕ) (tests : List Lit) (out aims : List Aim) → SpreadAll ns size i tests out aims (spread size tests ns out aims)
  unfolding spread
  spread_is ns size i tests out [] = record { back = λ h. h; some = λ h. or_false (any_true v out); only = λ h t from place f g o. o }
  spread_is ns size i tests out (a ∷ more) =
      let M = spread_one a.lit size ns a.target out tests in
      let one = spread_one_is ns a.lit size i a.target out tests in
      let rest = spread_is M.nodes size i tests M.aims more in
      record {
        back = λ h. one.back (rest.back h);
        some = λ h. rest.some h ∙ ap (λ b. b || (any_true v more && any_lit v tests)) (one.some (rest.back h)) ∙ regroup_all (any_true v out) (v a.lit) (any_true v more) (any_lit v tests);
        only = λ h t from place f g o.
            rest.only h t from place f.1 g
            (one.only (rest.back h) t place o (λ l n e. meant_moved a.target (n * size) ∙ ap (λ p. moved_place p (n * size)) (f.0 l) ∙ g n e));
      }
