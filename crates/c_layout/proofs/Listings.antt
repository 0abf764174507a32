-- How runs of values are listed: what is pushed, and what a step of the loop keeps.
use Rattle.std.proofs.Common.{◌≡◌, ◌<◌, ℕ, zero, suc, List, [], ◌∷◌, ◌++◌, length, drop, Bool, true, false, Option, Some, None, refl, ap, sym, ◌∙◌, subst, arith}
use Rattle.std.proofs.lemmas.List.{length-map}
use Rattle.std.specs.Prelude.{option_map, slice_get, if◌then◌else◌, IsSome}
use Rattle.rvt_tree.specs.declared.types.CType.{CType}
use Rattle.rvt_tree.specs.declared.types.CType.TheVariants.{Struct}
use Rattle.rvt_tree.specs.declared.programs.StructDef.{StructDef}
use Rattle.rvt_tree.specs.declared.programs.Structs.{Structs}
use Rattle.c_types.specs.Layout.{Plan, empty, further, followed_by, repeated, plan_with, plan_in_order, plan_of_definition, plan_of}
use Rattle.c_layout.specs.declared.plans.Run.{Run}
use Rattle.c_layout.specs.Causes.{HasFew}
use Rattle.c_layout.specs.Sizes.{At, types_of}
use Rattle.c_layout.specs.Runs.{known_plans, both, several, plan_of_runs, head, inside, starts_left}
use Rattle.c_layout.proofs.Sequences.{both_assoc, both_empty, empty_both, some_same, both_some, map_some, runs_append, parts}

-- ---- what is pushed

pub pushed_values : (known : ℕ → Option Plan) (old : List Run) (run : Run) (count : ℕ) → suc run.more ≡ count → (plan : Plan) → plan_with known run.ty.now ≡ Some plan →
    plan_of_runs known (old ++ run ∷ []) ≡ both (Some (repeated count plan)) (plan_of_runs known old)
pushed_values known old run count n plan h =
    runs_append known old run
    ∙ ap (λ k. both (several known run.ty.now k) (plan_of_runs known old)) n
    ∙ ap (λ a. both (option_map (repeated count) a) (plan_of_runs known old)) h

pub dropped_all : (fields : List (List ℕ × CType)) → drop (length fields) (types_of fields) ≡ []
dropped_all [] = refl
dropped_all (field ∷ fields) = dropped_all fields

drop_cons : (types : List CType) (k : ℕ) (ty : CType) → At types k ty → drop k types ≡ ty ∷ drop (suc k) types
drop_cons [] k ty h = absurd (cc)
drop_cons (first ∷ types) zero ty h = ap (λ t. t ∷ types) (some_same first ty h)
drop_cons (first ∷ types) (suc k) ty h = drop_cons types k ty h

several_one : (known : ℕ → Option Plan) (ty : CType) → several known ty 1 ≡ plan_with known ty
several_one known ty = both_empty (plan_with known ty)

pub pushed_field : (known : ℕ → Option Plan) (types : List CType) (old first : List Run) (run : Run) (k left : ℕ) → left ≡ suc k → run.more ≡ 0 → At types k run.ty.now →
    plan_of_runs known old ≡ both (plan_in_order known (drop left types)) (plan_of_runs known first) →
    plan_of_runs known (old ++ run ∷ []) ≡ both (plan_in_order known (drop k types)) (plan_of_runs known first)
pushed_field known types old first run k left is more there h =
    runs_append known old run
    ∙ ap (λ n. both (several known run.ty.now (suc n)) (plan_of_runs known old)) more
    ∙ ap (λ a. both a (plan_of_runs known old)) (several_one known run.ty.now)
    ∙ ap (both (plan_with known run.ty.now)) h
    ∙ sym (both_assoc (plan_with known run.ty.now) (plan_in_order known (drop left types)) (plan_of_runs known first))
    ∙ ap (λ n. both (both (plan_with known run.ty.now) (plan_in_order known (drop n types))) (plan_of_runs known first)) is
    ∙ ap (λ ts. both (plan_in_order known ts) (plan_of_runs known first)) (sym (drop_cons types k run.ty.now there))

chosen_some : (b : Bool) (o : Option Plan) → IsSome (if b then o else None) → (if b then o else None) ≡ o
chosen_some true o h = refl
chosen_some false o h = absurd (cc)

definition_inside : (known : ℕ → Option Plan) (o : Option StructDef) (d : StructDef) → o ≡ Some d → IsSome (plan_of_definition known o) → plan_of_definition known o ≡ plan_in_order known (types_of d.fields)
definition_inside known None d e h = absurd (cc)
definition_inside known (Some f) d e h =
    chosen_some f.complete _ h ∙ ap (λ (g : StructDef). plan_in_order known (types_of g.fields)) (some_same f d e)

pub struct_inside : (structs : Structs) (number : ℕ) (d : StructDef) → At structs.list number d → IsSome (inside structs (Struct number)) → inside structs (Struct number) ≡ plan_in_order (known_plans structs) (types_of d.fields)
struct_inside structs number d e h = definition_inside (known_plans structs) (slice_get structs.list number) d e h

none_within : (list : List StructDef) (number : ℕ) (known : ℕ → Option Plan) → IsSome (plan_of_definition known (slice_get list number)) → number < length list
none_within [] number known h = absurd (cc)
none_within (d ∷ list) zero known h = omega arith
none_within (d ∷ list) (suc number) known h = let r = none_within list number known h in omega (arith, r)

pub inside_within : (structs : Structs) (number : ℕ) → IsSome (inside structs (Struct number)) → number < length structs.list
inside_within structs number h = none_within structs.list number (known_plans structs) h

-- ---- the first run

few_is : (o : Option Plan) → HasFew o → (plan : Plan) × (o ≡ Some plan)
few_is None h = absurd h
few_is (Some plan) h = (plan, refl)

pub begun : (structs : Structs) (ty : CType) → HasFew (plan_of structs ty) → (out : Plan) → out ≡ empty → (old rest : List Run) → old ≡ [] →
    ((known : ℕ → Option Plan) (plan : Plan) → plan_with known ty ≡ Some plan → plan_of_runs known rest ≡ both (Some (repeated 1 plan)) (plan_of_runs known old)) →
    both (Some out) (plan_of_runs (known_plans structs) rest) ≡ plan_of structs ty
begun structs ty few out none old rest no_run h =
    let p = few_is (plan_of structs ty) few in
    ap (λ o. both (Some o) (plan_of_runs (known_plans structs) rest)) none
    ∙ empty_both (plan_of_runs (known_plans structs) rest)
    ∙ h (known_plans structs) p.0 p.1
    ∙ ap (λ runs. both (Some (repeated 1 p.0)) (plan_of_runs (known_plans structs) runs)) no_run
    ∙ both_empty (Some (repeated 1 p.0))
    ∙ both_empty (Some p.0)
    ∙ sym p.1

-- ---- a step

head_less : (ty : CType) (o : Option Plan) (plan : Plan) → both (Some (head ty)) o ≡ Some plan → starts_left o < starts_left (both (Some (head ty)) o)
head_less ty None plan h = absurd (cc)
head_less ty (Some p) plan h = let l = length-map p.starts (further (length (head ty).cells)) in omega (arith, l)

module _ (structs : Structs) (ty : CType) (few : HasFew (plan_of structs ty)) (out : Plan) (all old : List Run) (run : Run) (popped : all ≡ old ++ run ∷ [])
    (whole : both (Some out) (plan_of_runs (known_plans structs) all) ≡ plan_of structs ty) where
  all_planned : (plan : Plan) × (plan_of_runs (known_plans structs) all ≡ Some plan)
  all_planned =
      let p = few_is (plan_of structs ty) few in
      let r = both_some (Some out) (plan_of_runs (known_plans structs) all) p.0 (whole ∙ p.1) in
      (r.1, r.3)

  pub planned : (plan : Plan) × (plan_with (known_plans structs) run.ty.now ≡ Some plan)
  planned =
      let a = all_planned in
      let e = sym (runs_append (known_plans structs) old run) ∙ ap (plan_of_runs (known_plans structs)) (sym popped) ∙ a.1 in
      let r = both_some (several (known_plans structs) run.ty.now (suc run.more)) (plan_of_runs (known_plans structs) old) a.0 e in
      let v = map_some (repeated (suc run.more)) (plan_with (known_plans structs) run.ty.now) r.0 r.2 in
      (v.0, v.1)

  some_inside : (o : Option Plan) (q : Plan) → o ≡ Some q → IsSome o
  some_inside None q h = absurd (cc)
  some_inside (Some p) q h = refl

  pub is_inside : IsSome (inside structs run.ty.now)
  is_inside = let q = parts structs run.ty.now planned.0 planned.1 in some_inside (inside structs run.ty.now) q.0 q.1

  module _ (first second : List Run)
      (more : (known : ℕ → Option Plan) (plan : Plan) → plan_with known run.ty.now ≡ Some plan → plan_of_runs known first ≡ both (Some (repeated run.more plan)) (plan_of_runs known old))
      (within : plan_of_runs (known_plans structs) second ≡ both (inside structs run.ty.now) (plan_of_runs (known_plans structs) first)) where
    next : plan_of_runs (known_plans structs) all ≡ both (Some (head run.ty.now)) (plan_of_runs (known_plans structs) second)
    next =
        let K = known_plans structs in
        let p = planned in
        let q = parts structs run.ty.now p.0 p.1 in
        ap (plan_of_runs K) popped
        ∙ runs_append K old run
        ∙ ap (λ a. both (option_map (repeated (suc run.more)) a) (plan_of_runs K old)) p.1
        ∙ both_assoc (Some p.0) (Some (repeated run.more p.0)) (plan_of_runs K old)
        ∙ ap (both (Some p.0)) (sym (more K p.0 p.1))
        ∙ ap (λ x. both (Some x) (plan_of_runs K first)) q.2
        ∙ both_assoc (Some (head run.ty.now)) (Some q.0) (plan_of_runs K first)
        ∙ ap (λ a. both (Some (head run.ty.now)) (both a (plan_of_runs K first))) (sym q.1)
        ∙ ap (both (Some (head run.ty.now))) (sym within)

    pub stepped : (after : Plan) → after ≡ followed_by out (head run.ty.now) → both (Some after) (plan_of_runs (known_plans structs) second) ≡ plan_of structs ty
    stepped after e =
        ap (λ o. both (Some o) (plan_of_runs (known_plans structs) second)) e
        ∙ both_assoc (Some out) (Some (head run.ty.now)) (plan_of_runs (known_plans structs) second)
        ∙ ap (both (Some out)) (sym next)
        ∙ whole

    pub smaller : starts_left (plan_of_runs (known_plans structs) second) < starts_left (plan_of_runs (known_plans structs) all)
    smaller =
        let a = all_planned in
        subst (λ o. starts_left (plan_of_runs (known_plans structs) second) < starts_left o) (sym next)
        (head_less run.ty.now (plan_of_runs (known_plans structs) second) a.0 (sym next ∙ a.1))
