-- Running calls keep to inputs: each call of a run from an input is made on an input, and each end has the shapes of its unit.
use Rattle.std.proofs.Common.{◌≡◌, ℕ, zero, suc, Bool, true, false, cond, List, [], ◌∷◌, Option, Some, None, refl, sym, ◌∙◌, subst, inl, inr, ◌⊎◌}
use Rattle.std.specs.List.{AllByRecursion}
use Rattle.core_ir.proofs.Bodies.{all_mapped, CallFits, EndFits}
use Rattle.core_ir.proofs.Entries.{unit_calls_fit, unit_end_fits}
use Rattle.core_ir.proofs.Kept.{StoreFits}
use Rattle.core_ir.proofs.Runs.{all_append}
use Rattle.core_ir.proofs.Shapes.{some_same, bare_shapes, all_refreed, words_anywhere}
use Rattle.core_ir.specs.Calls.{Among, calls_in, calls_of_unit, unit_calls}
use Rattle.core_ir.specs.Cells.{mutable_cells, store_shapes}
use Rattle.core_ir.specs.Fits.{Fits, ObjectFits, MayName, IsWordShape}
use Rattle.core_ir.specs.Inputs.{HasShape, HaveShapes, IsFree, IsInput, inputs_by}
use Rattle.core_ir.specs.Joint.{Side, Old, Node, node_of, core_of, unit_of, table, Calls, Reaches, here, onward, UnitOwns, Owns, IsBelow}
use Rattle.core_ir.specs.Meaning.{End, Trapped, Returned, Request, unit_run, unit_end, run, run_calls}
use Rattle.core_ir.specs.declared.cores.CoreObject.{CoreObject}
use Rattle.core_ir.specs.declared.cores.JointCore.{JointCore}
use Rattle.core_ir.specs.declared.units.Shape.{Shape}
use Rattle.core_ir.specs.declared.units.Shape.TheVariants.{Word, Pointer}
use Rattle.core_ir.specs.declared.units.Unit.{Unit}
use Rattle.rvt_num.specs.declared.values.Value.{Value}
use Rattle.rvt_num.specs.declared.values.Value.TheVariants.{Num, Null, At}

-- ---- pointers among values

module _ (objects : List CoreObject) (free : ℕ → Type 0) where
  pointer_free : (s : Shape) (p c : ℕ) → HasShape objects free s (At p c) → free p
  pointer_free (Word k) p c h = absurd h
  pointer_free (Pointer t d) p c h = h.1

  -- an object into which one of the values points is free
  among_free : (ss : List Shape) (vs : List Value) (p c : ℕ) → HaveShapes objects free ss vs → Among (At p c) vs → free p
  among_free [] [] p c h k = absurd k
  among_free [] (v ∷ vs) p c h k = absurd h
  among_free (s ∷ ss) [] p c h k = absurd k
  among_free (s ∷ ss) (v ∷ vs) p c h k =
      elim k [
        | inl e ↦ pointer_free s p c (subst (HasShape objects free s) (sym e) h.0)
        | inr t ↦ among_free ss vs p c h.1 t
      ]

  -- no value of a word's shape is a pointer
  no_pointer : (ss : List Shape) (vs : List Value) (p c : ℕ) → AllByRecursion IsWordShape ss → HaveShapes objects free ss vs → Among (At p c) vs → ⊥
  no_pointer [] [] p c w h k = absurd k
  no_pointer [] (v ∷ vs) p c w h k = absurd h
  no_pointer (s ∷ ss) [] p c w h k = absurd k
  no_pointer (s ∷ ss) (v ∷ vs) p c w h k =
      elim k [
        | inl e ↦ word_no_pointer s w.0 (subst (HasShape objects free s) (sym e) h.0)
        | inr t ↦ no_pointer ss vs p c w.1 h.1 t
      ]
    where
      word_no_pointer : (s : Shape) → IsWordShape s → HasShape objects free s (At p c) → ⊥
      word_no_pointer (Word k) w h = h
      word_no_pointer (Pointer t d) w h = w

  refined : (gree : ℕ → Type 0) (s : Shape) (v : Value) → ((p c : ℕ) → free p → At p c ≡ v → gree p) → HasShape objects free s v → HasShape objects gree s v
  refined gree (Word k) (Num n) f h = h
  refined gree (Word k) Null f h = absurd h
  refined gree (Word k) (At p c) f h = absurd h
  refined gree (Pointer t d) (Num n) f h = absurd h
  refined gree (Pointer t d) Null f h = tt
  refined gree (Pointer t d) (At p c) f h = (h.0, f p c h.1 refl)

  -- other free objects, shown for the pointers that there are
  all_refined : (gree : ℕ → Type 0) (ss : List Shape) (vs : List Value) → ((p c : ℕ) → free p → Among (At p c) vs → gree p) → HaveShapes objects free ss vs → HaveShapes objects gree ss vs
  all_refined gree [] [] f h = tt
  all_refined gree [] (v ∷ vs) f h = absurd h
  all_refined gree (s ∷ ss) [] f h = absurd h
  all_refined gree (s ∷ ss) (v ∷ vs) f h = (refined gree s v (λ p c g e. f p c g (inl e)) h.0, all_refined gree ss vs (λ p c g t. f p c g (inr t)) h.1)

mutable_words : (o : CoreObject) (b : Bool) → AllByRecursion IsWordShape o.cells → AllByRecursion IsWordShape (cond b [] o.cells)
mutable_words o true h = tt
mutable_words o false h = h

all_words : (os : List CoreObject) → AllByRecursion ObjectFits os → AllByRecursion IsWordShape (store_shapes os)
all_words [] h = tt
all_words (o ∷ os) h = all_append IsWordShape (mutable_cells o) (store_shapes os) (mutable_words o o.constant h.0.words) (all_words os h.1)

-- ---- reaching

reach_cases : (joint : JointCore) {x y : Node} → Reaches joint x y → (x ≡ y) ⊎ IsBelow joint x y
reach_cases joint here = inl refl
reach_cases joint (onward c r) = inr (record { first = _; is_call = c; reached = r })

no_end : (e : End) → None ≡ Some e → ⊥
no_end e h = cc

module _ (joint : JointCore) (fits : Fits joint) where
  -- by calls of one version, none included
  data Comes (side : Side) : ℕ → ℕ → Type 0 where
    stay : {u : ℕ} → Comes side u u
    go_on : {u v w : ℕ} → Among v (unit_calls (core_of joint side) u) → Comes side v w → Comes side u w

  a_call : (side : Side) (u v : ℕ) → Among v (unit_calls (core_of joint side) u) → Calls joint (node_of joint side u) (node_of joint side v)
  a_call side u v h = record { side = side; caller = u; callee = v; of_first = refl; of_second = refl; is_call = h }

  come_reach : (side : Side) {u v : ℕ} → Comes side u v → Reaches joint (node_of joint side u) (node_of joint side v)
  come_reach side stay = here
  come_reach side (go_on {u} {v} c r) = onward (a_call side u v c) (come_reach side r)

  unit_owns : (side : Side) (u o : ℕ) → UnitOwns joint side u o → Owns joint (node_of joint side u) o
  unit_owns side u o h = record { side = side; unit = u; of_node = refl; owned = h }

  -- up from a helper one comes to an owner, or only over helpers
  up_from : (side : Side) (o : ℕ) {u v : ℕ} → Comes side u v → fits.helpers o side v ≡ true → ((w : ℕ) × UnitOwns joint side w o × Comes side u w) ⊎ (fits.helpers o side u ≡ true)
  up_from side o stay h = inr h
  up_from side o (go_on {u} {v} c r) h =
      elim (up_from side o r h) [
        | inl w ↦ inl (w.0, w.1, go_on c w.2)
        | inr k ↦ elim (fits.helper_called o side u v c k) [ inl owns ↦ inl (u, owns, stay) | inr help ↦ inr help ]
      ]

  callee_among : (side : Side) (u v : ℕ) (w : Unit) → unit_of joint side u ≡ Some w → Among v (calls_in w.body) → Among v (unit_calls (core_of joint side) u)
  callee_among side u v w is h = subst (λ o. Among v (calls_of_unit o)) (sym is) h

  -- the units that a unit calls, as nodes
  call_of_node : (side : Side) (u v : ℕ) (w : Unit) → unit_of joint side u ≡ Some w → Among v (calls_in w.body) → Calls joint (node_of joint side u) (node_of joint side v)
  call_of_node side u v w is h = a_call side u v (callee_among side u v w is h)

  -- an end of a unit that is there
  pub end_there : (side : Side) (d : ℕ) (q : Request) (w : Unit) (e : End) → unit_of joint side q.unit ≡ Some w → run (core_of joint side) (suc d) q ≡ Some e → unit_end (core_of joint side).objects (run (core_of joint side) d) (Some w) q.args q.store ≡ Some e
  end_there side d q w e is r = subst (λ o. unit_end (core_of joint side).objects (run (core_of joint side) d) o q.args q.store ≡ Some e) is r

  -- ---- an object that a node and all below it neither own nor may name

  module _ (o : ℕ) (z : Node) (owns : Owns joint z o) where
    abbrev IsAway : ℕ → Type 0
    IsAway p = p ≡ o → ⊥

    record IsStrange (side : Side) (u : ℕ) : Type 0 where
      no_owner : (y : Node) → Reaches joint (node_of joint side u) y → Owns joint y o → ⊥
      no_helper : (v : ℕ) → Comes side u v → fits.helpers o side v ≡ true → ⊥

    strange_names : (side : Side) (u : ℕ) → IsStrange side u → (p : ℕ) → MayName joint fits.helpers side u p → IsAway p
    strange_names side u s p n e =
        elim (subst (MayName joint fits.helpers side u) e n z owns) [
          | inl own ↦ s.no_owner (node_of joint side u) here (unit_owns side u o own)
          | inr help ↦ s.no_helper u stay help
        ]

    -- a run without pointers into it returns none
    stays_away : (d : ℕ) (side : Side) (q : Request) (w : Unit) → unit_of joint side q.unit ≡ Some w → IsStrange side q.unit → HaveShapes (table joint) IsAway w.inputs q.args → StoreFits joint fits side IsAway q.store → (e : End) → run (core_of joint side) d q ≡ Some e → EndFits joint fits side IsAway w e
    stays_away zero side q w is s have cells e r = absurd (no_end e r)
    stays_away (suc d) side q w is s have cells e r =
        let u = fits.units side q.unit w is in
        unit_end_fits joint fits side IsAway (MayName joint fits.helpers side q.unit) (strange_names side q.unit s) w u.others u.registers u.body u.stops (run (core_of joint side) d) (λ q' v e' c isv r'.
        let call = call_of_node side q.unit q'.unit w is c.is_callee in
        let same = some_same _ _ (sym c.is_there ∙ isv) in
        let s' : IsStrange side q'.unit = record { no_owner = λ y k. s.no_owner y (onward call k); no_helper = λ v k. s.no_helper v (go_on (callee_among side q.unit q'.unit w is c.is_callee) k) } in
        stays_away d side q' v isv s' (subst (λ (v : Unit). HaveShapes (table joint) IsAway v.inputs q'.args) same c.args) c.store e' r') q.args q.store have cells e (end_there side d q w e is r)

  -- ---- runs from inputs

  -- an object of no node below this one
  abbrev pub AboveFree : Node → ℕ → Type 0
  AboveFree x o = (z : Node) → Owns joint z o → IsBelow joint x z → ⊥

  input_above : (x : Node) (o : ℕ) → IsFree joint x o → AboveFree x o
  input_above x o f z owns below = f (record { owner = z; reached = onward below.is_call below.reached; owns = owns })

  pub names_above : (side : Side) (u o : ℕ) → MayName joint fits.helpers side u o → AboveFree (node_of joint side u) o
  names_above side u o n z owns below =
      let x = node_of joint side u in
      elim (n z owns) [
        | inl own ↦ fits.no_cycle o x (unit_owns side u o own) (subst (IsBelow joint x) (fits.one_owner o z x owns (unit_owns side u o own)) below)
        | inr help ↦ fits.helper_reaches o side u z help owns below
      ]

  -- what is above-free at a node is free at each node that it calls
  above_callee : (x y : Node) → Calls joint x y → (o : ℕ) → AboveFree x o → IsFree joint y o
  above_callee x y c o f b = f b.owner b.owns (record { first = y; is_call = c; reached = b.reached })

  store_words : AllByRecursion IsWordShape (store_shapes (table joint))
  store_words = subst (AllByRecursion IsWordShape) (sym (bare_shapes joint.old.objects)) (all_words joint.old.objects (fits.objects Old))

  pub store_free : (f g : ℕ → Type 0) (store : List Value) → HaveShapes (table joint) f (store_shapes (table joint)) store → HaveShapes (table joint) g (store_shapes (table joint)) store
  store_free f g store h = words_anywhere (table joint) (table joint) f g (store_shapes (table joint)) store store_words h

  module _ (side : Side) where
    pub input_args : (q : Request) (w : Unit) → unit_of joint side q.unit ≡ Some w → IsInput joint side q → HaveShapes (table joint) (AboveFree (node_of joint side q.unit)) w.inputs q.args
    input_args q w is i =
        all_refreed (table joint) (IsFree joint (node_of joint side q.unit)) (AboveFree (node_of joint side q.unit)) (input_above (node_of joint side q.unit)) w.inputs q.args (subst (λ o. HaveShapes (table joint) (IsFree joint (node_of joint side q.unit)) (inputs_by o) q.args) is i.arguments)

    module _ (q : Request) (w : Unit) (is : unit_of joint side q.unit ≡ Some w) where
      abbrev x : Node
      x = node_of joint side q.unit

      abbrev pub Callee : ℕ → Request → Type 0
      Callee d c = CallFits joint fits side (AboveFree x) (MayName joint fits.helpers side q.unit) (names_above side q.unit) w (run (core_of joint side) d) (calls_in w.body) c

      -- a call on such values is on an input
      pub callee_input : (d : ℕ) (c : Request) → Callee d c → IsInput joint side c
      callee_input d c h =
          let y = node_of joint side c.unit in
          record {
            arguments = subst (λ o. HaveShapes (table joint) (IsFree joint y) (inputs_by o) c.args) (sym h.is_there) (all_refreed (table joint) (AboveFree x) (IsFree joint y) (above_callee x y (call_of_node side q.unit c.unit w is h.is_callee)) h.unit.inputs c.args h.args);
            cells = store_free (λ _. ⊥) (IsFree joint y) c.store h.store;
          }

      -- what a callee returns is above-free too
      pub callee_results : (d : ℕ) (c : Request) (v : Unit) (e : End) → Callee d c → unit_of joint side c.unit ≡ Some v → run (core_of joint side) d c ≡ Some e → EndFits joint fits side (IsFree joint (node_of joint side c.unit)) v e → EndFits joint fits side (AboveFree x) v e
      callee_results d c v (Trapped t) h isv r f = tt
      callee_results d c v (Returned results store) h isv r f =
          (all_refined (table joint) (IsFree joint y) (AboveFree x) v.results results (λ p k g m z owns below. away p k g m z owns below) f.0, f.1)
        where
          y : Node
          y = node_of joint side c.unit

          away : (p k : ℕ) → IsFree joint (node_of joint side c.unit) p → Among (At p k) results → (z : Node) → Owns joint z p → IsBelow joint x z → ⊥
          away p k g m z owns below =
              let call = call_of_node side q.unit c.unit w is h.is_callee in
              let not_reached : Reaches joint y z → ⊥ = λ t. g (record { owner = z; reached = t; owns = owns }) in
              let no_owner : (n : Node) → Reaches joint y n → Owns joint n p → ⊥ = λ n t o. not_reached (subst (Reaches joint y) (fits.one_owner p n z o owns) t) in
              let no_helper : (n : ℕ) → Comes side c.unit n → fits.helpers p side n ≡ true → ⊥ =
              λ n t k. elim (up_from side p t k) [
                | inl u ↦ no_owner (node_of joint side u.0) (come_reach side u.2) (unit_owns side u.0 p u.1)
                | inr help ↦ elim (fits.helper_called p side q.unit c.unit (callee_among side q.unit c.unit w is h.is_callee) help) [
                  | inl own ↦ fits.no_cycle p x (unit_owns side q.unit p own) (subst (IsBelow joint x) (sym (fits.one_owner p x z (unit_owns side q.unit p own) owns)) below)
                  | inr hx ↦ fits.helper_reaches p side q.unit z hx owns below
                ]
              ] in
              let strange : IsStrange p z owns side c.unit = record { no_owner = no_owner; no_helper = no_helper } in
              let args = all_refreed (table joint) (AboveFree x) (IsAway p z owns) (λ o f e. f z (subst (Owns joint z) (sym e) owns) below) h.unit.inputs c.args h.args in
              let args' = subst (λ (v : Unit). HaveShapes (table joint) (IsAway p z owns) v.inputs c.args) (some_same _ _ (sym h.is_there ∙ isv)) args in
              let returned = stays_away p z owns d side c v isv strange args' h.store (Returned results store) r in
              among_free (table joint) (IsAway p z owns) v.results results p k returned.0 m refl

      -- a node returns no pointer into an object of its own
      own_results : (e : End) → EndFits joint fits side (AboveFree x) w e → EndFits joint fits side (IsFree joint x) w e
      own_results (Trapped t) h = tt
      own_results (Returned results store) h = (
        all_refined (table joint) (AboveFree x) (IsFree joint x) w.results results (λ p k g m b. elim (reach_cases joint b.reached) [
          | inl same ↦ no_pointer (table joint) (AboveFree x) w.results results p k ((fits.units side q.unit w is).returns_words p (subst (λ n. Owns joint n p) (sym same) b.owns)) h.0 m
          | inr below ↦ g b.owner b.owns below
        ]) h.0,
        h.1,
      )

      -- the premise of a body's run: what is known of the ends of its calls
      abbrev Ends : ℕ → Type 0
      Ends d = (c : Request) (v : Unit) (e : End) → unit_of joint side c.unit ≡ Some v → IsInput joint side c → run (core_of joint side) d c ≡ Some e → EndFits joint fits side (IsFree joint (node_of joint side c.unit)) v e

      module _ (d : ℕ) (ends : Ends d) (i : IsInput joint side q) where
        answers : (c : Request) (v : Unit) (e : End) → Callee d c → unit_of joint side c.unit ≡ Some v → run (core_of joint side) d c ≡ Some e → EndFits joint fits side (AboveFree x) v e
        answers c v e h isv r = callee_results d c v e h isv r (ends c v e isv (callee_input d c h) r)

        one_end : (e : End) → run (core_of joint side) (suc d) q ≡ Some e → EndFits joint fits side (IsFree joint x) w e
        one_end e r =
            let u = fits.units side q.unit w is in
            own_results e (unit_end_fits joint fits side (AboveFree x) (MayName joint fits.helpers side q.unit) (names_above side q.unit) w u.others u.registers u.body u.stops (run (core_of joint side) d) answers q.args q.store (input_args q w is i) (store_free (IsFree joint x) (λ _. ⊥) q.store i.cells) e (end_there side d q w e is r))

        one_calls : AllByRecursion (IsInput joint side) (run_calls (core_of joint side) d q)
        one_calls =
            let u = fits.units side q.unit w is in
            let calls = unit_calls_fit joint fits side (AboveFree x) (MayName joint fits.helpers side q.unit) (names_above side q.unit) w u.others u.registers u.body u.stops (run (core_of joint side) d) answers q.args q.store (input_args q w is i) (store_free (IsFree joint x) (λ _. ⊥) q.store i.cells) in
            subst (λ o. AllByRecursion (IsInput joint side) (unit_run (core_of joint side).objects (run (core_of joint side) d) o q.args q.store).calls) (sym is) (all_mapped _ _ (λ c h. callee_input d c h) _ calls)

    -- the end of a run from an input is of its unit's shapes
    pub ends_free : (d : ℕ) (q : Request) (w : Unit) (e : End) → unit_of joint side q.unit ≡ Some w → IsInput joint side q → run (core_of joint side) d q ≡ Some e → EndFits joint fits side (IsFree joint (node_of joint side q.unit)) w e
    ends_free zero q w e is i r = absurd (no_end e r)
    ends_free (suc d) q w e is i r = one_end q w is d (ends_free d) i e r

    by_unit : (d : ℕ) (q : Request) → IsInput joint side q → (o : Option Unit) → unit_of joint side q.unit ≡ o → AllByRecursion (IsInput joint side) (run_calls (core_of joint side) d q)
    by_unit d q i None is = subst (λ o. AllByRecursion (IsInput joint side) (unit_run (core_of joint side).objects (run (core_of joint side) d) o q.args q.store).calls) (sym is) tt
    by_unit d q i (Some w) is = one_calls q w is d (ends_free d) i

    -- its calls are on inputs
    pub run_inputs : (d : ℕ) (q : Request) → IsInput joint side q → AllByRecursion (IsInput joint side) (run_calls (core_of joint side) d q)
    run_inputs d q i = by_unit d q i (unit_of joint side q.unit) refl

    pub record EndOfUnit (q : Request) (e : End) : Type 0 where
      pub unit : Unit
      pub is_there : unit_of joint side q.unit ≡ Some unit
      pub fits_shapes : EndFits joint fits side (IsFree joint (node_of joint side q.unit)) unit e

    pub there_is : (d : ℕ) (q : Request) (e : End) → run (core_of joint side) d q ≡ Some e → (o : Option Unit) → unit_of joint side q.unit ≡ o → (w : Unit) × (unit_of joint side q.unit ≡ Some w)
    there_is zero q e r o is = absurd (no_end e r)
    there_is (suc d) q e r None is = absurd (no_end e (subst (λ o. unit_end (core_of joint side).objects (run (core_of joint side) d) o q.args q.store ≡ Some e) is r))
    there_is (suc d) q e r (Some w) is = (w, is)

    pub run_ends : (d : ℕ) (q : Request) (e : End) → IsInput joint side q → run (core_of joint side) d q ≡ Some e → EndOfUnit q e
    run_ends d q e i r =
        let w = there_is d q e r (unit_of joint side q.unit) refl in
        record { unit = w.0; is_there = w.1; fits_shapes = ends_free d q w.0 e w.1 i r }
