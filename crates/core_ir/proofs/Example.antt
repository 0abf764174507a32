-- The small joint core fits.
use Rattle.std.proofs.Common.{◌≡◌, ℕ, zero, suc, Bool, true, false, List, [], ◌∷◌, Some, None, refl, sym, ap, ◌∙◌, subst, inl, inr}
use Rattle.std.specs.Prelude.{IsTrue, slice_get}
use Rattle.std.specs.List.{AllByRecursion}
use Rattle.core_ir.proofs.FieldsMet.{met_there}
use Rattle.core_ir.proofs.Shapes.{some_same}
use Rattle.core_ir.specs.Examples.{identity, global, both}
use Rattle.core_ir.specs.Cells.{has}
use Rattle.core_ir.specs.Calls.{Among}
use Rattle.core_ir.specs.Fields.{MeetsField}
use Rattle.core_ir.specs.Fits.{Fits, Helpers, UnitFits, NodeFits, ObjectFits, MayName}
use Rattle.core_ir.specs.Inputs.{inputs_of, results_of}
use Rattle.core_ir.specs.Joint.{Side, Old, New, Node, PairOfUnits, member, node_of, core_of, unit_of, pair_of, IsPair, Owns, owned_objects}
use Rattle.core_ir.specs.Meaning.{Trapped, Returned, Answers, Over, Setting, Step, setting_of, node, does, entered, unit_run, run}
use Rattle.core_ir.specs.Nodes.{CodeNode, node_nodes, nodes_in, node_goes_on, goes_on}
use Rattle.core_ir.specs.Pairing.{ArePaired}
use Rattle.core_ir.specs.declared.units.Code.TheFolds.{fold-roll-Code}
use Rattle.core_ir.specs.declared.units.Code.TheOpen.{Code-F}
use Rattle.core_ir.specs.declared.units.Code.TheVariants.{Stop, rolls-Stop}
use Rattle.core_ir.specs.Places.{State}
use Rattle.core_ir.specs.declared.units.CoreOp.{CoreOp}
use Rattle.core_ir.specs.declared.units.CoreOp.TheVariants.{Field}
use Rattle.core_ir.specs.declared.units.Shape.TheVariants.{Word}
use Rattle.core_ir.specs.declared.units.Unit.{Unit}
use Rattle.rvt_num.specs.declared.kinds.Kind.TheVariants.{I32}
use Rattle.rvt_num.specs.declared.values.Trap.{Trap}
use Rattle.rvt_num.specs.declared.values.Value.{Value}

-- what the body's folds give
body_nodes : nodes_in (Stop (0 ∷ [])) ≡ Code-F.Stop (0 ∷ []) ∷ []
body_nodes = ap nodes_in (sym (rolls-Stop (0 ∷ []))) ∙ fold-roll-Code (List CodeNode) node_nodes (Code-F.Stop (0 ∷ []))

body_stops : goes_on (Stop (0 ∷ [])) ≡ false
body_stops = ap goes_on (sym (rolls-Stop (0 ∷ []))) ∙ fold-roll-Code Bool node_goes_on (Code-F.Stop (0 ∷ []))

not_there : {A : Type 0} (x : A) → None ≡ Some x → ⊥
not_there x e = cc

-- each version has the one unit
the_unit : (side : Side) (u : ℕ) (w : Unit) → unit_of both side u ≡ Some w → identity ≡ w
the_unit Old zero w h = some_same identity w h
the_unit Old (suc u) w h = absurd (not_there w h)
the_unit New zero w h = some_same identity w h
the_unit New (suc u) w h = absurd (not_there w h)

false_true : IsTrue false → ⊥
false_true h = cc

no_owned : (o : ℕ) (side : Side) (u : ℕ) → IsTrue (has o (owned_objects (unit_of both side u))) → ⊥
no_owned o Old zero h = false_true h
no_owned o Old (suc u) h = false_true h
no_owned o New zero h = false_true h
no_owned o New (suc u) h = false_true h

no_owner : (x : Node) (o : ℕ) → Owns both x o → ⊥
no_owner x o h = no_owned o h.side h.unit h.owned

apart : (side : Side) (p : ℕ) (x : PairOfUnits) → slice_get both.pairs p ≡ Some x → pair_of both side (member side x) ≡ Some p
apart Old zero x h = subst (λ (y : PairOfUnits). pair_of both Old y.0 ≡ Some 0) (some_same _ x h) refl
apart New zero x h = subst (λ (y : PairOfUnits). pair_of both New y.1 ≡ Some 0) (some_same _ x h) refl
apart side (suc p) x h = absurd (not_there x h)

present : (side : Side) (p : ℕ) (x : PairOfUnits) → slice_get both.pairs p ≡ Some x → (u : Unit) × (unit_of both side (member side x) ≡ Some u)
present Old zero x h = subst (λ (y : PairOfUnits). (u : Unit) × (unit_of both Old y.0 ≡ Some u)) (some_same _ x h) (identity, refl)
present New zero x h = subst (λ (y : PairOfUnits). (u : Unit) × (unit_of both New y.1 ≡ Some u)) (some_same _ x h) (identity, refl)
present side (suc p) x h = absurd (not_there x h)

-- the two units of a pair have the one interface
members : (p u v : ℕ) → IsPair both p u v → (u ≡ 0) × (v ≡ 0)
members zero u v h = let e = some_same _ _ h in (sym (ap (λ (y : PairOfUnits). y.0) e), sym (ap (λ (y : PairOfUnits). y.1) e))
members (suc p) u v h = absurd (not_there (u, v, true) h)

paired : ArePaired both
paired =
    record {
      apart = apart;
      present = present;
      inputs = λ p u v h. let m = members p u v h in ap (inputs_of both Old) m.0 ∙ sym (ap (inputs_of both New) m.1);
      results = λ p u v h. let m = members p u v h in ap (results_of both Old) m.0 ∙ sym (ap (results_of both New) m.1);
    }

global_fits : ObjectFits global
global_fits = record { words = (tt, tt); contents = λ h. absurd (false_is_true h) }
  where
    false_is_true : false ≡ true → ⊥
    false_is_true h = cc

objects_fit : (side : Side) → AllByRecursion ObjectFits (core_of both side).objects
objects_fit Old = (global_fits, tt)
objects_fit New = (global_fits, tt)

false_is_true : false ≡ true → ⊥
false_is_true h = cc

abbrev none : Helpers
none o side u = false

identity_fits : (side : Side) (u : ℕ) → UnitFits both none side u identity
identity_fits side u =
    record {
      others = [];
      registers = refl;
      body = subst (AllByRecursion (NodeFits both side (MayName both none side u) identity)) (sym body_nodes) ((record { shape = Word I32; is_there = refl; widens = refl }, tt), tt);
      stops = body_stops;
      returns_words = λ o h. absurd (no_owner (node_of both side u) o h);
    }

-- no field is met in it
no_field : (target pointer cells : ℕ) → Among {X = CodeNode} (Code-F.Set target (Field pointer cells)) (Code-F.Stop (0 ∷ []) ∷ []) → ⊥
no_field target pointer cells h = elim h [ inl e ↦ apart_nodes target (Field pointer cells) e | inr t ↦ t ]
  where
    apart_nodes : (r : ℕ) (op : CoreOp) → ◌≡◌ {A = CodeNode} (Code-F.Set r op) (Code-F.Stop (0 ∷ [])) → ⊥
    apart_nodes r op e = cc

fields_of_identity : (at : Setting) (a : Answers) (s : State) (v : Value) (cells : ℕ) → MeetsField at a (Stop (0 ∷ [])) s v cells → ⊥
fields_of_identity at a s v cells m =
    let f = met_there at a (Stop (0 ∷ [])) s v cells m in
    no_field f.target f.pointer cells (subst (Among {X = CodeNode} (Code-F.Set f.target (Field f.pointer cells))) body_nodes f.is_there)

no_trap : (rs st : List Value) (t : Trap) → Over (Returned rs st) ≡ Over (Trapped t) → ⊥
no_trap rs st t e = cc

-- the body's run returns
body_returns : (side : Side) (d : ℕ) (args store : List Value) (t : Trap) → (unit_run (core_of both side).objects (run (core_of both side) d) (Some identity) args store).flow ≡ Over (Trapped t) → ⊥
body_returns side d args store t h =
    let at = setting_of (core_of both side).objects identity in
    let a = run (core_of both side) d in
    let s = entered (core_of both side).objects identity args store in
    let e = ap (does at a) (sym (rolls-Stop (0 ∷ []))) ∙ fold-roll-Code Step (node at a) (Code-F.Stop (0 ∷ [])) in
    no_trap _ _ t (sym (ap (λ (m : Step). (m s).flow) e) ∙ h)

pub both_fits : Fits both
both_fits =
    record {
      paired = paired;
      same_table = refl;
      objects = objects_fit;
      helpers = none;
      helper_called = λ o side u v c h. absurd (false_is_true h);
      helper_reaches = λ o side u z h w b. false_is_true h;
      one_owner = λ o x y h k. absurd (no_owner x o h);
      no_cycle = λ o x h b. no_owner x o h;
      units = λ side u w h. subst (UnitFits both none side u) (the_unit side u w h) (identity_fits side u);
      fields = λ side a call w v cells is p proper m. absurd (fields_of_identity (setting_of (core_of both side).objects w) a (entered (core_of both side).objects w call.args call.store) v cells (subst (λ (w' : Unit). MeetsField (setting_of (core_of both side).objects w) a w'.body (entered (core_of both side).objects w call.args call.store) v cells) (sym (the_unit side call.unit w is)) m));
      own_traps = λ side d call w t is i h none. absurd (body_returns side d call.args call.store t (subst (λ w. (unit_run (core_of both side).objects (run (core_of both side) d) (Some w) call.args call.store).flow ≡ Over (Trapped t)) (sym (the_unit side call.unit w is)) h));
    }
