-- The exits and the calls that are taken, over lists of them.
use Rattle.std.proofs.Common.{◌≡◌, Bool, true, false, not, ◌&&◌, cond, List, [], ◌∷◌, ◌++◌, Option, Some, None, refl, ap, ◌∙◌}
use Rattle.aig_build.specs.Circuits.{opposite}
use Rattle.aig_build.specs.declared.lits.Lit.{Lit}
use Rattle.core_ir.specs.Meaning.{Trapped}
use Rattle.rvt_num.specs.declared.values.Trap.{Trap}
use Rattle.symbolic_runs.specs.Simulation.{Seen, Holds, how_under, exits_under, calls_under}
use Rattle.symbolic_runs.specs.Runs.{World, Traps, Exit, GuardedCall, MadeLit, and_in, or_in, Trapping, trapping}
use Rattle.sym_values.proofs.Conjunctions.{conjunction}
use Rattle.sym_values.specs.Valuations.{Valuation}
use Rattle.sym_values.specs.Values.{values_under}
use Rattle.uf_abstraction.specs.Applications.{first_trap}

cond_append : {X : Type 0} (b : Bool) (x : X) (p q : List X) → cond b (x ∷ (p ++ q)) (p ++ q) ≡ cond b (x ∷ p) p ++ q
cond_append true x p q = refl
cond_append false x p q = refl

pub exits_append : (v : Valuation) (xs ys : List Exit) → exits_under v (xs ++ ys) ≡ exits_under v xs ++ exits_under v ys
exits_append v [] ys = refl
exits_append v (x ∷ xs) ys =
    ap (λ l. cond (v x.guard) (how_under v x.how ∷ l) l) (exits_append v xs ys)
    ∙ cond_append (v x.guard) (how_under v x.how) (exits_under v xs) (exits_under v ys)

pub calls_append : (v : Valuation) (xs ys : List GuardedCall) → calls_under v (xs ++ ys) ≡ calls_under v xs ++ calls_under v ys
calls_append v [] ys = refl
calls_append v (x ∷ xs) ys =
    ap (λ l. cond (v x.guard) (record { name = x.name; key = values_under v x.key } ∷ l) l) (calls_append v xs ys)
    ∙ cond_append (v x.guard) (record { name = x.name; key = values_under v x.key }) (calls_under v xs) (calls_under v ys)

pub exit_taken : (v : Valuation) (x : Exit) (xs : List Exit) → v x.guard ≡ true → exits_under v (x ∷ xs) ≡ how_under v x.how ∷ exits_under v xs
exit_taken v x xs e = ap (λ b. cond b (how_under v x.how ∷ exits_under v xs) (exits_under v xs)) e

pub exit_left : (v : Valuation) (x : Exit) (xs : List Exit) → v x.guard ≡ false → exits_under v (x ∷ xs) ≡ exits_under v xs
exit_left v x xs e = ap (λ b. cond b (how_under v x.how ∷ exits_under v xs) (exits_under v xs)) e

pub and_one : (x y : Bool) → x ≡ true → (x && y) ≡ y
and_one x y e = ap (λ b. b && y) e

pub and_none : (x y : Bool) → x ≡ false → (x && y) ≡ false
and_none x y e = ap (λ b. b && y) e

pub not_none : (a b : Bool) → a ≡ false → b ≡ false → not (not a && not b) ≡ false
not_none a b e f = λ i. not (not (e i) && not (f i))

pub not_first : (a b : Bool) → a ≡ true → not (not a && not b) ≡ true
not_first a b e = ap (λ x. not (not x && not b)) e

pub not_second : (a b : Bool) → a ≡ false → b ≡ true → not (not a && not b) ≡ true
not_second a b e f = λ i. not (not (e i) && not (f i))

module _ (seen : Seen) where
  pub opposite_is : (w : World) (l : Lit) → Holds seen w → seen.v (opposite l) ≡ not (seen.v l)
  opposite_is w l h = h.valued.of_opposite l

  pub and_back : (w : World) (a b : Lit) → Holds seen (and_in w a b).world → Holds seen w
  and_back w a b h = record { valued = (conjunction seen.v w.nodes a b).back h.valued; answer = h.answer }

  pub and_is : (w : World) (a b : Lit) → Holds seen (and_in w a b).world → seen.v (and_in w a b).lit ≡ (seen.v a && seen.v b)
  and_is w a b h = (conjunction seen.v w.nodes a b).is h.valued

  pub and_not_is : (w : World) (a b : Lit) → Holds seen (and_in w a (opposite b)).world → seen.v (and_in w a (opposite b)).lit ≡ (seen.v a && not (seen.v b))
  and_not_is w a b h = and_is w a (opposite b) h ∙ ap (λ x. seen.v a && x) (opposite_is _ b h)

  pub or_back : (w : World) (a b : Lit) → Holds seen (or_in w a b).world → Holds seen w
  or_back w a b h = and_back w (opposite a) (opposite b) h

  pub or_is : (w : World) (a b : Lit) → Holds seen (or_in w a b).world → seen.v (or_in w a b).lit ≡ not (not (seen.v a) && not (seen.v b))
  or_is w a b h =
      opposite_is (or_in w a b).world (and_in w (opposite a) (opposite b)).lit h
      ∙ ap not (and_is w (opposite a) (opposite b) h ∙ (λ i. opposite_is _ a h i && opposite_is _ b h i))

  -- ---- traps

  pub record TrappingIs (w : World) (live : Lit) (ts : List (Trap × Lit)) (t : Trapping) : Type 0 where
    pub back : Holds seen t.world → Holds seen w
    pub dead : Holds seen t.world → seen.v live ≡ false → (seen.v t.live ≡ false) × (exits_under seen.v t.exits ≡ [])
    pub none : Holds seen t.world → seen.v live ≡ true → first_trap seen.v ts ≡ None → (seen.v t.live ≡ true) × (exits_under seen.v t.exits ≡ [])
    pub some : (x : Trap) → Holds seen t.world → seen.v live ≡ true → first_trap seen.v ts ≡ Some x → (seen.v t.live ≡ false) × (exits_under seen.v t.exits ≡ Some (Trapped x) ∷ [])

  no_trap : (b : Bool) (x : Trap) (rest : Option Trap) → cond b (Some x) rest ≡ None → (b ≡ false) × (rest ≡ None)
  no_trap true x rest e = cc
  no_trap false x rest e = (refl, e)

  some_same : (x y : Trap) → ◌≡◌ {A = Option Trap} (Some x) (Some y) → x ≡ y
  some_same x y e = cc

  module _ (w : World) (live : Lit) (t : Trap × Lit) (ts : List (Trap × Lit)) where
    abbrev hit : MadeLit
    hit = and_in w live t.1

    abbrev on : MadeLit
    on = and_in hit.world live (opposite t.1)

    abbrev after : Trapping
    after = trapping on.world on.lit ts

    abbrev exit : Exit
    exit = record { guard = hit.lit; how = Traps t.0 }

    module _ (rest : TrappingIs on.world on.lit ts after) where
      to_hit : Holds seen after.world → Holds seen hit.world
      to_hit h = and_back hit.world live (opposite t.1) (rest.back h)

      hit_is : Holds seen after.world → seen.v hit.lit ≡ (seen.v live && seen.v t.1)
      hit_is h = and_is w live t.1 (to_hit h)

      on_is : Holds seen after.world → seen.v on.lit ≡ (seen.v live && not (seen.v t.1))
      on_is h = and_not_is hit.world live t.1 (rest.back h)

      by_test : (x : Trap) → Holds seen after.world → seen.v live ≡ true → (b : Bool) → seen.v t.1 ≡ b → cond b (Some t.0) (first_trap seen.v ts) ≡ Some x → (seen.v after.live ≡ false) × (exits_under seen.v (exit ∷ after.exits) ≡ Some (Trapped x) ∷ [])
      by_test x h l true s e =
          let r = rest.dead h (on_is h ∙ and_one _ _ l ∙ ap not s) in
          let same = some_same t.0 x e in
          (r.0, exit_taken seen.v exit after.exits (hit_is h ∙ and_one _ _ l ∙ s) ∙ (λ i. Some (Trapped (same i)) ∷ r.1 i))
      by_test x h l false s e =
          let r = rest.some x h (on_is h ∙ and_one _ _ l ∙ ap not s) e in
          (r.0, exit_left seen.v exit after.exits (hit_is h ∙ and_one _ _ l ∙ s) ∙ r.1)

      trap_added : TrappingIs w live (t ∷ ts) (trapping w live (t ∷ ts))
      trap_added = record {
        back = λ h. and_back w live t.1 (to_hit h);
        dead = λ h e.
            let r = rest.dead h (on_is h ∙ and_none _ _ e) in
            (r.0, exit_left seen.v exit after.exits (hit_is h ∙ and_none _ _ e) ∙ r.1);
        none = λ h l e.
            let n = no_trap (seen.v t.1) t.0 (first_trap seen.v ts) e in
            let r = rest.none h (on_is h ∙ and_one _ _ l ∙ ap not n.0) n.1 in
            (r.0, exit_left seen.v exit after.exits (hit_is h ∙ and_one _ _ l ∙ n.0) ∙ r.1);
        some = λ x h l e. by_test x h l (seen.v t.1) refl e;
      }

  pub trapping_is : (w : World) (live : Lit) (ts : List (Trap × Lit)) → TrappingIs w live ts (trapping w live ts)
  trapping_is w live [] = record {
    back = λ h. h;
    dead = λ h e. (e, refl);
    none = λ h l e. (l, refl);
    some = λ x h l e. cc;
  }
  trapping_is w live (t ∷ ts) =
      let hit = and_in w live t.1 in
      let on = and_in hit.world live (opposite t.1) in
      trap_added w live t ts (trapping_is on.world on.lit ts)
