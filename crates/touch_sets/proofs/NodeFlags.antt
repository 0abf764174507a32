-- Flags of units as effects of nodes.
use Rattle.std.proofs.Common.{◌≡◌, inl, inr, ℕ, Bool, true, false, cond, List, Option, Some, None, refl, sym, ap, ◌∙◌, subst, arith}
use Rattle.std.specs.Prelude.{slice_get, nat_eq}
use Rattle.core_ir.proofs.Pairs.{Found, found}
use Rattle.core_ir.specs.Joint.{Side, Old, New, Node, Pair, Alone, PairOfUnits, member, pair_from, node_by}
use Rattle.core_ir.specs.declared.cores.JointCore.{JointCore}
use Rattle.touch_sets.proofs.Places.{false_true, nat_same, nat_is, or_true, true_left, true_right}
use Rattle.touch_sets.specs.Sets.{AreEffects}
use Rattle.touch_sets.specs.Touching.{node_in, is_side, unless_paired, if_paired, member_at, unit_at, UnitFlags, AreFlags, unit_touches, unit_traps, told, at_node, Touching, flags_at, effects_of}

module _ (pairs : List PairOfUnits) where
  -- ---- units and nodes

  alone_told : (side : Side) (u v : ℕ) (o : Option ℕ) → unless_paired u o ≡ Some v → (u ≡ v) × (node_by side u o ≡ Alone side u)
  alone_told side u v None h = (cc, refl)
  alone_told side u v (Some p) h = absurd (cc)

  paired_told : (side : Side) (p m u : ℕ) (o : Option ℕ) → if_paired p m o ≡ Some u → (m ≡ u) × (node_by side m o ≡ Pair p)
  paired_told side p m u None h = absurd (cc)
  paired_told side p m u (Some q) h = by_test (nat_eq q p) refl h
    where
      by_test : (b : Bool) → nat_eq q p ≡ b → cond b (Some m) None ≡ Some u → (m ≡ u) × (Pair q ≡ Pair p)
      by_test true e k = (cc, ap Pair (nat_same q p e))
      by_test false e k = absurd (cc)

  -- the unit of a node stands there
  unit_stands : (x : Node) (side : Side) (u : ℕ) → unit_at pairs x side ≡ Some u → node_in pairs side u ≡ x
  unit_stands (Pair p) side u h = by_pair (slice_get pairs p) h
    where
      by_pair : (o : Option PairOfUnits) → member_at pairs p side o ≡ Some u → node_in pairs side u ≡ Pair p
      by_pair None k = absurd (cc)
      by_pair (Some units) k =
          let r = paired_told side p (member side units) u (pair_from side (member side units) 0 pairs) k in
          subst (λ v. node_in pairs side v ≡ Pair p) r.0 r.1
  unit_stands (Alone Old v) Old u h = let r = alone_told Old v u (pair_from Old v 0 pairs) h in subst (λ w. node_in pairs Old w ≡ Alone Old v) r.0 r.1
  unit_stands (Alone New v) New u h = let r = alone_told New v u (pair_from New v 0 pairs) h in subst (λ w. node_in pairs New w ≡ Alone New v) r.0 r.1
  unit_stands (Alone Old v) New u h = absurd (cc)
  unit_stands (Alone New v) Old u h = absurd (cc)

  -- and each unit is the one of its node
  stands_unit : (side : Side) (u : ℕ) → unit_at pairs (node_in pairs side u) side ≡ Some u
  stands_unit side u = by_entry (pair_from side u 0 pairs) refl
    where
      same_side : (side : Side) (o : Option ℕ) → cond (is_side side side) o None ≡ o
      same_side Old o = refl
      same_side New o = refl

      by_entry : (o : Option ℕ) → pair_from side u 0 pairs ≡ o → unit_at pairs (node_by side u o) side ≡ Some u
      by_entry None e = same_side side (unless_paired u (pair_from side u 0 pairs)) ∙ ap (unless_paired u) e
      by_entry (Some p) e = from_found (found side u 0 pairs p e)
        where
          from_found : Found side u 0 pairs p → member_at pairs p side (slice_get pairs p) ≡ Some u
          from_found f =
              let place : f.place ≡ p = omega (arith, f.after) in
              let at : slice_get pairs p ≡ Some f.pair = subst (λ k. slice_get pairs k ≡ Some f.pair) place f.is_there in
              ap (member_at pairs p side) at
              ∙ ap (λ v. if_paired p v (pair_from side v 0 pairs)) f.is_member
              ∙ ap (if_paired p u) e
              ∙ ap (λ b. cond b (Some u) None) (nat_is p)

  -- ---- what holds at a node

  told_unit : (o : Option ℕ) (holds : ℕ → Bool) → told o holds ≡ true → (u : ℕ) × (o ≡ Some u) × (holds u ≡ true)
  told_unit None holds h = false_true h
  told_unit (Some u) holds h = (u, refl, h)

  pub at_unit : (x : Node) (holds : Side → ℕ → Bool) → at_node pairs x holds ≡ true → (side : Side) × (u : ℕ) × (node_in pairs side u ≡ x) × (holds side u ≡ true)
  at_unit x holds h = elim (or_true (told (unit_at pairs x Old) (holds Old)) (told (unit_at pairs x New) (holds New)) h) [
    | inl l ↦ let w = told_unit (unit_at pairs x Old) (holds Old) l in (Old, w.0, unit_stands x Old w.0 w.1, w.2)
    | inr r ↦ let w = told_unit (unit_at pairs x New) (holds New) r in (New, w.0, unit_stands x New w.0 w.1, w.2)
  ]

  pub unit_at_node : (holds : Side → ℕ → Bool) (side : Side) (u : ℕ) (x : Node) → node_in pairs side u ≡ x → holds side u ≡ true → at_node pairs x holds ≡ true
  unit_at_node holds side u x e h = subst (λ y. at_node pairs y holds ≡ true) e (here side (ap (λ o. told o (holds side)) (stands_unit side u) ∙ h))
    where
      here : (s : Side) → told (unit_at pairs (node_in pairs side u) s) (holds s) ≡ true → at_node pairs (node_in pairs side u) holds ≡ true
      here Old t = true_left (told (unit_at pairs (node_in pairs side u) Old) (holds Old)) (told (unit_at pairs (node_in pairs side u) New) (holds New)) t
      here New t = true_right (told (unit_at pairs (node_in pairs side u) Old) (holds Old)) (told (unit_at pairs (node_in pairs side u) New) (holds New)) t

-- ---- the effects

module _ (joint : JointCore) (old new_side : UnitFlags) (are_old : AreFlags joint Old old) (are_new : AreFlags joint New new_side) where
  abbrev touch : Touching
  touch = record { pairs = joint.pairs; old = old; new_side = new_side }

  are : (side : Side) → AreFlags joint side (flags_at touch side)
  are Old = are_old
  are New = are_new

  pub are_effects : AreEffects joint (effects_of touch)
  are_effects = record {
    touched = λ x o. (
      λ h. let w = at_unit joint.pairs x (λ side u. unit_touches (flags_at touch side) u o) h in record { side = w.0; unit = w.1; of_node = w.2; touches = ((are w.0).touched w.1 o).0 w.3 },
      λ t. unit_at_node joint.pairs (λ side u. unit_touches (flags_at touch side) u o) t.side t.unit x t.of_node (((are t.side).touched t.unit o).1 t.touches),
    );
    may_trap = λ x k. (
      λ h. let w = at_unit joint.pairs x (λ side u. unit_traps (flags_at touch side) u k) h in record { side = w.0; unit = w.1; of_node = w.2; traps = ((are w.0).may_trap w.1 k).0 w.3 },
      λ t. unit_at_node joint.pairs (λ side u. unit_traps (flags_at touch side) u k) t.side t.unit x t.of_node (((are t.side).may_trap t.unit k).1 t.traps),
    );
    always_ends = λ side u. (are side).always_ends u;
  }

-- with the pairs of the joint core
pub effects_with : (joint : JointCore) (pairs : List PairOfUnits) (old new_side : UnitFlags) → pairs ≡ joint.pairs → AreFlags joint Old old → AreFlags joint New new_side → AreEffects joint (effects_of (record { pairs = pairs; old = old; new_side = new_side }))
effects_with joint pairs old new_side e are_old are_new =
    subst (λ (ps : List PairOfUnits). AreEffects joint (effects_of (record { pairs = ps; old = old; new_side = new_side }))) (sym e) (are_effects joint old new_side are_old are_new)
