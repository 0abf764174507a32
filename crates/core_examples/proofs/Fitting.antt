-- The two versions of the factorial function fit.
use Rattle.std.proofs.Common.{◌≡◌, ℕ, zero, suc, true, false, List, [], ◌∷◌, ◌++◌, Option, Some, None, refl, sym, ap, ◌∙◌, subst, inl, inr, arith}
use Rattle.std.specs.Prelude.{IsTrue, slice_get, pos}
use Rattle.std.specs.List.{AllByRecursion}
use Rattle.core_examples.proofs.Plain.{IsPlain, blamed, all_set, all_call, all_stop, all_if, all_seq, stop_ends, seq_ends}
use Rattle.core_examples.specs.Factorials.{int, first_part, old_body, new_body, factorial, global, both_factorials}
use Rattle.core_ir.proofs.FieldsMet.{met_there}
use Rattle.core_ir.proofs.Shapes.{some_same}
use Rattle.core_ir.specs.Calls.{Among}
use Rattle.core_ir.specs.Cells.{has}
use Rattle.core_ir.specs.Fields.{MeetsField}
use Rattle.core_ir.specs.Fits.{Fits, Helpers, UnitFits, NodeFits, ObjectFits, MayName, Gives, Takes, IsWord}
use Rattle.core_ir.specs.Inputs.{inputs_of, results_of}
use Rattle.core_ir.specs.Joint.{Side, Old, New, Node, PairOfUnits, member, node_of, core_of, unit_of, pair_of, IsPair, Owns, owned_objects}
use Rattle.core_ir.specs.Meaning.{Trapped, Request, Answers, Over, Setting, setting_of, entered, unit_run, run, run_calls}
use Rattle.core_ir.specs.Nodes.{CodeNode, nodes_in, goes_on}
use Rattle.core_ir.specs.Pairing.{ArePaired}
use Rattle.core_ir.specs.Places.{State}
use Rattle.core_ir.specs.declared.units.Code.{Code}
use Rattle.core_ir.specs.declared.units.Code.TheOpen.{Code-F}
use Rattle.core_ir.specs.declared.units.Code.TheVariants.{Seq, Set, Call, If, Stop}
use Rattle.core_ir.specs.declared.units.CoreOp.TheVariants.{Const, Copy, Binary, Field}
use Rattle.core_ir.specs.declared.units.Shape.{Shape}
use Rattle.core_ir.specs.declared.units.Unit.{Unit}
use Rattle.rvt_num.proofs.Readings.{reading_in_range}
use Rattle.rvt_num.specs.Kinds.{IsOf}
use Rattle.rvt_num.specs.declared.kinds.Kind.TheVariants.{I32}
use Rattle.rvt_num.specs.declared.operations.BinOp.TheVariants.{Le, Sub, Mul}
use Rattle.rvt_num.specs.declared.values.Trap.{Trap}
use Rattle.rvt_num.specs.declared.values.Value.{Value}
use Rattle.rvt_num.specs.declared.values.Value.TheVariants.{Num}

abbrev body_of : Side → Code
body_of Old = old_body
body_of New = new_body

abbrev unit_at : Side → Unit
unit_at side = factorial (body_of side)

not_there : {A : Type 0} (x : A) → None ≡ Some x → ⊥
not_there x e = cc

false_true : IsTrue false → ⊥
false_true h = cc

false_is_true : false ≡ true → ⊥
false_is_true h = cc

-- each version has the one unit
the_unit : (side : Side) (u : ℕ) (w : Unit) → unit_of both_factorials side u ≡ Some w → unit_at side ≡ w
the_unit Old zero w h = some_same (unit_at Old) w h
the_unit Old (suc u) w h = absurd (not_there w h)
the_unit New zero w h = some_same (unit_at New) w h
the_unit New (suc u) w h = absurd (not_there w h)

it_is_there : (side : Side) → unit_of both_factorials side 0 ≡ Some (unit_at side)
it_is_there Old = refl
it_is_there New = refl

no_owned : (o : ℕ) (side : Side) (u : ℕ) → IsTrue (has o (owned_objects (unit_of both_factorials side u))) → ⊥
no_owned o Old zero h = false_true h
no_owned o Old (suc u) h = false_true h
no_owned o New zero h = false_true h
no_owned o New (suc u) h = false_true h

no_owner : (x : Node) (o : ℕ) → Owns both_factorials x o → ⊥
no_owner x o h = no_owned o h.side h.unit h.owned

-- ---- the pair

apart : (side : Side) (p : ℕ) (x : PairOfUnits) → slice_get both_factorials.pairs p ≡ Some x → pair_of both_factorials side (member side x) ≡ Some p
apart Old zero x h = subst (λ (y : PairOfUnits). pair_of both_factorials Old y.0 ≡ Some 0) (some_same _ x h) refl
apart New zero x h = subst (λ (y : PairOfUnits). pair_of both_factorials New y.1 ≡ Some 0) (some_same _ x h) refl
apart side (suc p) x h = absurd (not_there x h)

present : (side : Side) (p : ℕ) (x : PairOfUnits) → slice_get both_factorials.pairs p ≡ Some x → (u : Unit) × (unit_of both_factorials side (member side x) ≡ Some u)
present Old zero x h = subst (λ (y : PairOfUnits). (u : Unit) × (unit_of both_factorials Old y.0 ≡ Some u)) (some_same _ x h) (unit_at Old, refl)
present New zero x h = subst (λ (y : PairOfUnits). (u : Unit) × (unit_of both_factorials New y.1 ≡ Some u)) (some_same _ x h) (unit_at New, refl)
present side (suc p) x h = absurd (not_there x h)

members : (p u v : ℕ) → IsPair both_factorials p u v → (u ≡ 0) × (v ≡ 0)
members zero u v h = let e = some_same _ _ h in (sym (ap (λ (y : PairOfUnits). y.0) e), sym (ap (λ (y : PairOfUnits). y.1) e))
members (suc p) u v h = absurd (not_there (u, v, true) h)

paired : ArePaired both_factorials
paired =
    record {
      apart = apart;
      present = present;
      inputs = λ p u v h. let m = members p u v h in ap (inputs_of both_factorials Old) m.0 ∙ sym (ap (inputs_of both_factorials New) m.1);
      results = λ p u v h. let m = members p u v h in ap (results_of both_factorials Old) m.0 ∙ sym (ap (results_of both_factorials New) m.1);
    }

global_fits : ObjectFits global
global_fits = record { words = (tt, tt); contents = λ h. absurd (false_is_true h) }

objects_fit : (side : Side) → AllByRecursion ObjectFits (core_of both_factorials side).objects
objects_fit Old = (global_fits, tt)
objects_fit New = (global_fits, tt)

-- ---- the bodies

abbrev shapes : List Shape
shapes = int ∷ int ∷ int ∷ int ∷ int ∷ int ∷ int ∷ []

gives : (r : ℕ) → slice_get shapes r ≡ Some int → Gives shapes r int
gives r h = record { shape = int; is_there = h; widens = refl }

takes : (r : ℕ) → slice_get shapes r ≡ Some int → Takes shapes r int
takes r h = record { shape = int; is_there = h; widens = refl }

abbrev word : (r : ℕ) → slice_get shapes r ≡ Some int → IsWord shapes r
word r h = record { kind = I32; is_there = h }

one_in_range : IsOf I32 (pos 1)
one_in_range = reading_in_range I32 1 (omega arith)

abbrev none : Helpers
none o side u = false

module _ (side : Side) (u : ℕ) where
  abbrev Fit : CodeNode → Type 0
  Fit = NodeFits both_factorials side (MayName both_factorials none side u) (unit_at side)

  fits_const : AllByRecursion Fit (nodes_in (Set 1 (Const (Num (record { kind = I32; value = pos 1 })))))
  fits_const = all_set Fit 1 _ (int, refl, record { of_kind = refl; in_range = one_in_range })

  fits_le : AllByRecursion Fit (nodes_in (Set 2 (Binary Le 0 1)))
  fits_le = all_set Fit 2 _ (int, refl, (word 0 refl, word 1 refl, refl, refl, λ h. refl, refl))

  fits_sub : AllByRecursion Fit (nodes_in (Set 3 (Binary Sub 0 1)))
  fits_sub = all_set Fit 3 _ (int, refl, (word 0 refl, word 1 refl, refl, refl, λ h. refl, refl))

  fits_if : AllByRecursion Fit (nodes_in (If 2 (Stop (1 ∷ [])) (Seq [])))
  fits_if = all_if Fit 2 (Stop (1 ∷ [])) (Seq []) (word 2 refl) (all_stop Fit (1 ∷ []) (gives 1 refl, tt)) (all_seq Fit [] (λ ps. tt) tt)

  fits_call : AllByRecursion Fit (nodes_in (Call 0 (3 ∷ []) (4 ∷ [])))
  fits_call = all_call Fit 0 (3 ∷ []) (4 ∷ []) (unit_at side, it_is_there side, (gives 3 refl, tt), (takes 4 refl, tt))

  fits_copy : AllByRecursion Fit (nodes_in (Set 6 (Copy 4)))
  fits_copy = all_set Fit 6 _ (int, refl, gives 4 refl)

  fits_product : (r : ℕ) → slice_get shapes r ≡ Some int → AllByRecursion Fit (nodes_in (Set 5 (Binary Mul 0 r)))
  fits_product r h = all_set Fit 5 _ (int, refl, (word 0 refl, word r h, refl, refl, λ k. refl, refl))

  fits_stop : AllByRecursion Fit (nodes_in (Stop (5 ∷ [])))
  fits_stop = all_stop Fit (5 ∷ []) (gives 5 refl, tt)

body_fits : (side : Side) (u : ℕ) → AllByRecursion (Fit side u) (nodes_in (body_of side))
body_fits Old u =
    all_seq (Fit Old u) (first_part ++ Set 5 (Binary Mul 0 4) ∷ Stop (5 ∷ []) ∷ []) (λ ps. tt) (fits_const Old u, (fits_le Old u, (fits_if Old u, (fits_sub Old u, (fits_call Old u, (fits_product Old u 4 refl, (fits_stop Old u, tt)))))))
body_fits New u =
    all_seq (Fit New u) (first_part ++ Set 6 (Copy 4) ∷ Set 5 (Binary Mul 0 6) ∷ Stop (5 ∷ []) ∷ []) (λ ps. tt) (fits_const New u, (fits_le New u, (fits_if New u, (fits_sub New u, (fits_call New u, (fits_copy New u, (fits_product New u 6 refl, (fits_stop New u, tt))))))))

body_stops : (side : Side) → goes_on (body_of side) ≡ false
body_stops Old = seq_ends (first_part ++ Set 5 (Binary Mul 0 4) ∷ []) (Stop (5 ∷ [])) (stop_ends (5 ∷ []))
body_stops New = seq_ends (first_part ++ Set 6 (Copy 4) ∷ Set 5 (Binary Mul 0 6) ∷ []) (Stop (5 ∷ [])) (stop_ends (5 ∷ []))

unit_fits : (side : Side) (u : ℕ) → UnitFits both_factorials none side u (unit_at side)
unit_fits side u =
    record {
      others = int ∷ int ∷ int ∷ int ∷ int ∷ int ∷ [];
      registers = refl;
      body = body_fits side u;
      stops = body_stops side;
      returns_words = λ o h. absurd (no_owner (node_of both_factorials side u) o h);
    }

-- ---- traps and fields

plain_if : AllByRecursion IsPlain (nodes_in (If 2 (Stop (1 ∷ [])) (Seq [])))
plain_if = all_if IsPlain 2 (Stop (1 ∷ [])) (Seq []) tt (all_stop IsPlain (1 ∷ []) tt) (all_seq IsPlain [] (λ ps. tt) tt)

body_plain : (side : Side) → AllByRecursion IsPlain (nodes_in (body_of side))
body_plain Old =
    all_seq IsPlain (first_part ++ Set 5 (Binary Mul 0 4) ∷ Stop (5 ∷ []) ∷ []) (λ ps. tt) (all_set IsPlain 1 _ tt, (all_set IsPlain 2 _ (λ a b. refl), (plain_if, (all_set IsPlain 3 _ (λ a b. refl), (all_call IsPlain 0 (3 ∷ []) (4 ∷ []) tt, (all_set IsPlain 5 _ (λ a b. refl), (all_stop IsPlain (5 ∷ []) tt, tt)))))))
body_plain New =
    all_seq IsPlain (first_part ++ Set 6 (Copy 4) ∷ Set 5 (Binary Mul 0 6) ∷ Stop (5 ∷ []) ∷ []) (λ ps. tt) (all_set IsPlain 1 _ tt, (all_set IsPlain 2 _ (λ a b. refl), (plain_if, (all_set IsPlain 3 _ (λ a b. refl), (all_call IsPlain 0 (3 ∷ []) (4 ∷ []) tt, (all_set IsPlain 6 _ tt, (all_set IsPlain 5 _ (λ a b. refl), (all_stop IsPlain (5 ∷ []) tt, tt))))))))

all_at : {X : Type 0} (P : X → Type 0) (x : X) (xs : List X) → AllByRecursion P xs → Among x xs → P x
all_at P x [] p h = absurd h
all_at P x (y ∷ ys) p h = elim h [ inl e ↦ subst P (sym e) p.0 | inr t ↦ all_at P x ys p.1 t ]

no_field : (side : Side) (at : Setting) (a : Answers) (s : State) (v : Value) (cells : ℕ) → MeetsField at a (body_of side) s v cells → ⊥
no_field side at a s v cells m =
    let f = met_there at a (body_of side) s v cells m in
    all_at IsPlain (Code-F.Set f.target (Field f.pointer cells)) (nodes_in (body_of side)) (body_plain side) f.is_there

-- a trap of the body's run is one of a call
no_own_trap : (side : Side) (d : ℕ) (call : Request) (w : Unit) (t : Trap) → unit_of both_factorials side call.unit ≡ Some w → (unit_run (core_of both_factorials side).objects (run (core_of both_factorials side) d) (Some w) call.args call.store).flow ≡ Over (Trapped t) → AllByRecursion (λ q. run (core_of both_factorials side) d q ≡ Some (Trapped t) → ⊥) (run_calls (core_of both_factorials side) d call) → ⊥
no_own_trap side d call w t is h none =
    let objects = (core_of both_factorials side).objects in
    let a = run (core_of both_factorials side) d in
    let flow = subst (λ (x : Unit). (unit_run objects a (Some x) call.args call.store).flow ≡ Over (Trapped t)) (sym (the_unit side call.unit w is)) h in
    let b = blamed (setting_of objects (unit_at side)) a (body_of side) (body_plain side) (entered objects (unit_at side) call.args call.store) t flow in
    let calls = subst (λ (o : Option Unit). AllByRecursion (λ q. run (core_of both_factorials side) d q ≡ Some (Trapped t) → ⊥) (unit_run objects a o call.args call.store).calls) (is ∙ ap Some (sym (the_unit side call.unit w is))) none in
    all_at _ b.call (unit_run objects a (Some (unit_at side)) call.args call.store).calls calls b.is_there b.traps

pub factorials_fit : Fits both_factorials
factorials_fit =
    record {
      paired = paired;
      same_table = refl;
      objects = objects_fit;
      helpers = none;
      helper_called = λ o side u v c h. absurd (false_is_true h);
      helper_reaches = λ o side u z h w b. false_is_true h;
      one_owner = λ o x y h k. absurd (no_owner x o h);
      no_cycle = λ o x h b. no_owner x o h;
      units = λ side u w h. subst (UnitFits both_factorials none side u) (the_unit side u w h) (unit_fits side u);
      fields = λ side a call w v cells is p proper m. absurd (no_field side (setting_of (core_of both_factorials side).objects w) a (entered (core_of both_factorials side).objects w call.args call.store) v cells (subst (λ (x : Unit). MeetsField (setting_of (core_of both_factorials side).objects w) a x.body (entered (core_of both_factorials side).objects w call.args call.store) v cells) (sym (the_unit side call.unit w is)) m));
      own_traps = λ side d call w t is i h none. absurd (no_own_trap side d call w t is h none);
    }
