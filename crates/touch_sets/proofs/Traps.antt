-- The traps of runs are of the unit's kinds.
use Rattle.std.proofs.Common.{◌≡◌, ℕ, zero, suc, Bool, true, false, List, [], ◌∷◌, Option, Some, None, refl, sym, ap, ◌∙◌, subst, arith, inl, inr, ◌⊎◌}
use Rattle.std.specs.Prelude.{slice_get, nat_eq}
use Rattle.std.specs.List.{AllByRecursion}
use Rattle.std.proofs.lemmas.Bool.Decides.{nat_tests}
use Rattle.core_ir.proofs.Bodies.{EndFits}
use Rattle.core_ir.proofs.Makes.{made}
use Rattle.core_ir.proofs.Proper.{input_proper}
use Rattle.core_ir.proofs.Sound.{run_inputs, run_ends, store_free, end_there}
use Rattle.core_ir.specs.Calls.{Among, calls_of_unit, unit_calls}
use Rattle.core_ir.specs.Fits.{Fits}
use Rattle.core_ir.specs.Inputs.{IsFree, IsInput, results_by, HaveShapes}
use Rattle.core_ir.specs.Joint.{Side, node_of, core_of, unit_of, table}
use Rattle.core_ir.specs.Meaning.{End, Trapped, Returned, Request, Answers, Flow, Goes, Over, Waits, flow_end, option_end, put_back, owned_of, entered, setting_of, unit_run, run, run_calls}
use Rattle.core_ir.specs.Tables.{Effects}
use Rattle.core_ir.specs.declared.cores.Core.{Core}
use Rattle.core_ir.specs.declared.cores.JointCore.{JointCore}
use Rattle.core_ir.specs.declared.units.Unit.{Unit}
use Rattle.rvt_num.specs.declared.values.Trap.{Trap}
use Rattle.rvt_num.specs.declared.values.Trap.TheVariants.{Divide, Quotient, Shift, Index, Null, Range, Place, NoReturn}
use Rattle.rvt_num.specs.declared.values.Value.{Value}
use Rattle.touch_sets.specs.Effects.{LawfulEnd}
use Rattle.touch_sets.specs.Sets.{MayTrap, by_itself, by_call, AreEffects}

-- ---- equal traps

abbrev trap_number : Trap → ℕ
trap_number Divide = 1
trap_number Quotient = 2
trap_number Shift = 3
trap_number Index = 4
trap_number Null = 5
trap_number Range = 6
trap_number Place = 7
trap_number NoReturn = 8

abbrev trap_at : List Trap → ℕ → Trap
trap_at [] n = Divide
trap_at (t ∷ ts) zero = t
trap_at (t ∷ ts) (suc n) = trap_at ts n

abbrev traps : List Trap
traps = Divide ∷ Divide ∷ Quotient ∷ Shift ∷ Index ∷ Null ∷ Range ∷ Place ∷ NoReturn ∷ []

trap_back : (t : Trap) → trap_at traps (trap_number t) ≡ t
trap_back Divide = refl
trap_back Quotient = refl
trap_back Shift = refl
trap_back Index = refl
trap_back Null = refl
trap_back Range = refl
trap_back Place = refl
trap_back NoReturn = refl

nat_cases : (a b : ℕ) → (t : Bool) → nat_eq a b ≡ t → (a ≡ b) ⊎ (a ≡ b → ⊥)
nat_cases a b true h = inl (same a b h)
  where
    same : (a b : ℕ) → nat_eq a b ≡ true → a ≡ b
    same a b h = grind (arith, nat_tests)
nat_cases a b false h = inr (differ a b h)
  where
    differ : (a b : ℕ) → nat_eq a b ≡ false → a ≡ b → ⊥
    differ a b h e = grind (arith, nat_tests)

trap_cases : (s t : Trap) → (s ≡ t) ⊎ (s ≡ t → ⊥)
trap_cases s t =
    elim (nat_cases (trap_number s) (trap_number t) (nat_eq (trap_number s) (trap_number t)) refl) [
      | inl e ↦ inl (sym (trap_back s) ∙ ap (trap_at traps) e ∙ trap_back t)
      | inr d ↦ inr (λ e. d (ap trap_number e))
    ]

abbrev trap_of : Trap → Option End → Trap
trap_of t (Some (Trapped s)) = s
trap_of t (Some (Returned rs st)) = t
trap_of t None = t

returned_not : (t : Trap) (rs st : List Value) → ◌≡◌ {A = Option End} (Some (Returned rs st)) (Some (Trapped t)) → ⊥
returned_not t rs st e = cc

none_not : (t : Trap) → ◌≡◌ {A = Option End} None (Some (Trapped t)) → ⊥
none_not t e = cc

-- whether an end is this trap
end_cases : (t : Trap) (o : Option End) → (o ≡ Some (Trapped t)) ⊎ (o ≡ Some (Trapped t) → ⊥)
end_cases t None = inr (none_not t)
end_cases t (Some (Returned rs st)) = inr (returned_not t rs st)
end_cases t (Some (Trapped s)) = elim (trap_cases s t) [ inl e ↦ inl (ap (λ x. Some (Trapped x)) e) | inr d ↦ inr (λ e. d (ap (trap_of t) e)) ]

-- a call that ends with the trap, or none
find : (t : Trap) (a : Answers) (cs : List Request) → ((c : Request) × Among c cs × (a c ≡ Some (Trapped t))) ⊎ AllByRecursion (λ q. a q ≡ Some (Trapped t) → ⊥) cs
find t a [] = inr tt
find t a (c ∷ cs) =
    elim (end_cases t (a c)) [
      | inl e ↦ inl (c, inl refl, e)
      | inr d ↦ elim (find t a cs) [ inl f ↦ inl (f.0, inr f.1, f.2) | inr all ↦ inr (d, all) ]
    ]

all_at : {X : Type 0} (P : X → Type 0) (x : X) (xs : List X) → AllByRecursion P xs → Among x xs → P x
all_at P x [] p h = absurd h
all_at P x (y ∷ ys) p h = elim h [ inl e ↦ subst P (sym e) p.0 | inr t ↦ all_at P x ys p.1 t ]

trap_flow : (owned : List Bool) (store : List Value) (t : Trap) (f : Flow) → option_end (put_back owned store) (flow_end f) ≡ Some (Trapped t) → f ≡ Over (Trapped t)
trap_flow owned store t (Goes s) e = absurd (returned_not t _ _ e)
trap_flow owned store t Waits e = absurd (none_not t e)
trap_flow owned store t (Over (Returned rs st)) e = absurd (returned_not t _ _ e)
trap_flow owned store t (Over (Trapped s)) e = ap (λ x. Over (Trapped x)) (ap (trap_of t) e)

-- the calls of a run are to units that the unit calls
callees : (core : Core) (d : ℕ) (q : Request) (w : Unit) → slice_get core.units q.unit ≡ Some w → AllByRecursion (λ c. Among c.unit (unit_calls core q.unit)) (run_calls core d q)
callees core d q w is =
    subst (λ o. AllByRecursion (λ c. Among c.unit (calls_of_unit o)) (unit_run core.objects (run core d) o q.args q.store).calls) (sym is) (made (setting_of core.objects w) (run core d) w.body (entered core.objects w q.args q.store)).each

module _ (joint : JointCore) (fits : Fits joint) (side : Side) where
  trap_kinds : (d : ℕ) (q : Request) (t : Trap) → IsInput joint side q → run (core_of joint side) d q ≡ Some (Trapped t) → MayTrap joint side q.unit t
  trap_kinds zero q t i r = absurd (none_not t r)
  trap_kinds (suc d) q t i r =
      let u = run_ends joint fits side (suc d) q (Trapped t) i r in
      let there = end_there joint fits side d q u.unit (Trapped t) u.is_there r in
      let over = trap_flow (owned_of (core_of joint side).objects (Some u.unit)) q.store t (unit_run (core_of joint side).objects (run (core_of joint side) d) (Some u.unit) q.args q.store).flow there in
      elim (find t (run (core_of joint side) d) (run_calls (core_of joint side) d q)) [
        | inl c ↦ by_call c.0.unit (all_at _ c.0 (run_calls (core_of joint side) d q) (callees (core_of joint side) d q u.unit u.is_there) c.1) (trap_kinds d c.0 t (all_at _ c.0 (run_calls (core_of joint side) d q) (run_inputs joint fits side d q i) c.1) c.2)
        | inr none ↦ by_itself u.unit u.is_there (fits.own_traps side d q u.unit t u.is_there (input_proper joint side q i) over none)
      ]

  -- the ends of runs from inputs are lawful
  lawful_of : (effects : Effects) → AreEffects joint effects → (d : ℕ) (q : Request) (e : End) → IsInput joint side q → run (core_of joint side) d q ≡ Some e → (w : Unit) → unit_of joint side q.unit ≡ Some w → EndFits joint fits side (IsFree joint (node_of joint side q.unit)) w e → LawfulEnd joint effects side q.unit e
  lawful_of effects are d q (Trapped t) i r w is f =
      (are.may_trap (node_of joint side q.unit) t).1 (record { side = side; unit = q.unit; of_node = refl; traps = trap_kinds d q t i r })
  lawful_of effects are d q (Returned results store) i r w is f =
      (subst (λ o. HaveShapes (table joint) (IsFree joint (node_of joint side q.unit)) (results_by o) results) (sym is) f.0, store_free joint fits (λ _. ⊥) (IsFree joint (node_of joint side q.unit)) store f.1)

  pub lawful_ends : (effects : Effects) → AreEffects joint effects → (d : ℕ) (q : Request) (e : End) → IsInput joint side q → run (core_of joint side) d q ≡ Some e → LawfulEnd joint effects side q.unit e
  lawful_ends effects are d q e i r =
      let u = run_ends joint fits side d q e i r in
      lawful_of effects are d q e i r u.unit u.is_there u.fits_shapes
