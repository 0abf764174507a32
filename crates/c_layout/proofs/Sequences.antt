-- Plans one after another: an order without brackets, and what a run of values begins with.
use Rattle.std.proofs.Common.{◌≡◌, ℕ, zero, suc, ◌+◌, List, [], ◌∷◌, ◌++◌, map, length, Bool, true, false, Option, Some, None, refl, ap, sym, ◌∙◌, subst, arith, length-append, append_assoc, append-nil}
use Rattle.std.proofs.lemmas.List.{map-append}
use Rattle.std.specs.Prelude.{option_map, slice_get, if◌then◌else◌}
use Rattle.rvt_num.specs.declared.kinds.Kind.{Kind}
use Rattle.rvt_tree.specs.declared.types.CType.{CType}
use Rattle.rvt_tree.specs.declared.types.CType.TheVariants.{Word, Pointer, Array', Struct}
use Rattle.rvt_tree.specs.declared.programs.StructDef.{StructDef}
use Rattle.rvt_tree.specs.declared.programs.Structs.{Structs}
use Rattle.c_types.specs.Layout.{Shape, AnArray, AStruct, Begin, Plan, empty, further, followed_by, repeated, is_whole, plan_with, plan_in_order, plan_of_definition, plan_of_struct, shape_of}
use Rattle.c_layout.specs.declared.plans.Run.{Run}
use Rattle.c_layout.specs.Runs.{known_plans, both, several, plan_of_runs, head, inside}

-- ---- plans one after another

further_none : (starts : List Begin) → map (further 0) starts ≡ starts
further_none [] = refl
further_none (s ∷ starts) =
    let e : 0 + s.cell ≡ s.cell = omega arith in
    ap (λ n. record { what = s.what; cell = n } ∷ map (further 0) starts) e ∙ ap (λ xs. s ∷ xs) (further_none starts)

further_twice : (a b n : ℕ) → n ≡ a + b → (starts : List Begin) → map (further a) (map (further b) starts) ≡ map (further n) starts
further_twice a b n is [] = refl
further_twice a b n is (s ∷ starts) =
    let e : a + (b + s.cell) ≡ n + s.cell = omega (arith, is) in
    ap (λ k. record { what = s.what; cell = k } ∷ map (further a) (map (further b) starts)) e ∙ ap (λ xs. record { what = s.what; cell = n + s.cell } ∷ xs) (further_twice a b n is starts)

pub same_plan : (a b : List (Option Kind)) (s t : List Begin) → a ≡ b → s ≡ t → ◌≡◌ {A = Plan} (record { cells = a; starts = s }) (record { cells = b; starts = t })
same_plan a b s t h k = subst (λ x. ◌≡◌ {A = Plan} (record { cells = a; starts = s }) (record { cells = x; starts = t })) h (subst (λ y. ◌≡◌ {A = Plan} (record { cells = a; starts = s }) (record { cells = a; starts = y })) k refl)

followed_assoc : (p q r : Plan) → followed_by (followed_by p q) r ≡ followed_by p (followed_by q r)
followed_assoc p q r =
    let n = length p.cells in
    let m = length q.cells in
    let sum : length (p.cells ++ q.cells) ≡ n + m = length-append p.cells q.cells in
    same_plan _ _ _ _ (append_assoc p.cells q.cells r.cells)
    (append_assoc p.starts (map (further n) q.starts) (map (further (length (p.cells ++ q.cells))) r.starts)
    ∙ ap (λ xs. p.starts ++ (map (further n) q.starts ++ xs)) (sym (further_twice n m (length (p.cells ++ q.cells)) sum r.starts))
    ∙ ap (λ xs. p.starts ++ xs) (sym (map-append (further n) q.starts (map (further m) r.starts))))

followed_empty : (p : Plan) → followed_by p empty ≡ p
followed_empty p = same_plan _ _ _ _ (append-nil p.cells) (append-nil p.starts)

empty_followed : (p : Plan) → followed_by empty p ≡ p
empty_followed p = same_plan _ _ _ _ refl (further_none p.starts)

whole_is : (shape : Shape) (p : Plan) → is_whole shape p ≡ followed_by (record { cells = []; starts = record { what = shape; cell = 0 } ∷ [] }) p
whole_is shape p = same_plan _ _ _ _ refl (ap (λ xs. record { what = shape; cell = 0 } ∷ xs) (sym (further_none p.starts)))

-- ---- the same where there may be none

pub both_assoc : (a b c : Option Plan) → both (both a b) c ≡ both a (both b c)
both_assoc None b c = refl
both_assoc (Some p) None c = refl
both_assoc (Some p) (Some q) None = refl
both_assoc (Some p) (Some q) (Some r) = ap Some (followed_assoc p q r)

pub both_empty : (a : Option Plan) → both a (Some empty) ≡ a
both_empty None = refl
both_empty (Some p) = ap Some (followed_empty p)

pub empty_both : (a : Option Plan) → both (Some empty) a ≡ a
empty_both None = refl
empty_both (Some p) = ap Some (empty_followed p)

pub some_same : {X : Type 0} (x y : X) → Some x ≡ Some y → x ≡ y
some_same x y h = cc

pub both_some : (a b : Option Plan) (r : Plan) → both a b ≡ Some r → (p : Plan) × (q : Plan) × (a ≡ Some p) × (b ≡ Some q) × (followed_by p q ≡ r)
both_some None b r h = absurd (cc)
both_some (Some p) None r h = absurd (cc)
both_some (Some p) (Some q) r h = (p, q, refl, refl, some_same (followed_by p q) r h)

pub map_some : (f : Plan → Plan) (a : Option Plan) (r : Plan) → option_map f a ≡ Some r → (p : Plan) × (a ≡ Some p) × (f p ≡ r)
map_some f None r h = absurd (cc)
map_some f (Some p) r h = (p, refl, some_same (f p) r h)

-- ---- runs

pub runs_append : (known : ℕ → Option Plan) (runs : List Run) (run : Run) → plan_of_runs known (runs ++ run ∷ []) ≡ both (several known run.ty.now (suc run.more)) (plan_of_runs known runs)
runs_append known [] run = empty_both (several known run.ty.now (suc run.more)) ∙ sym (both_empty (several known run.ty.now (suc run.more)))
runs_append known (first ∷ runs) run =
    ap (λ a. both a (several known first.ty.now (suc first.more))) (runs_append known runs run)
    ∙ both_assoc (several known run.ty.now (suc run.more)) (plan_of_runs known runs) (several known first.ty.now (suc first.more))

-- ---- a plan that is known stays known where structs may stand deeper

module _ (known deeper : ℕ → Option Plan) (grows : (s : ℕ) (p : Plan) → known s ≡ Some p → deeper s ≡ Some p) where
  type_grows : (ty : CType) (p : Plan) → plan_with known ty ≡ Some p → plan_with deeper ty ≡ Some p
  type_grows (Word kind) p h = h
  type_grows (Pointer pointee constant) p h = h
  type_grows (Array' q element count) p h =
      let r = map_some (λ plan. is_whole (AnArray (shape_of element) count) (repeated count plan)) (plan_with known element) p h in
      ap (option_map (λ plan. is_whole (AnArray (shape_of element) count) (repeated count plan))) (type_grows element r.0 r.1) ∙ ap Some r.2
  type_grows (Struct number) p h =
      let r = map_some (is_whole (AStruct number)) (known number) p h in
      ap (option_map (is_whole (AStruct number))) (grows number r.0 r.1) ∙ ap Some r.2

  order_grows : (types : List CType) (p : Plan) → plan_in_order known types ≡ Some p → plan_in_order deeper types ≡ Some p
  order_grows [] p h = h
  order_grows (ty ∷ types) p h =
      let r = both_some (plan_with known ty) (plan_in_order known types) p h in
      ap (λ a. both a (plan_in_order deeper types)) (type_grows ty r.0 r.2) ∙ ap (λ b. both (Some r.0) b) (order_grows types r.1 r.3) ∙ ap Some r.4

  chosen_grows : (b : Bool) (types : List CType) (p : Plan) → (if b then plan_in_order known types else None) ≡ Some p → (if b then plan_in_order deeper types else None) ≡ Some p
  chosen_grows true types p h = order_grows types p h
  chosen_grows false types p h = h

  pub definition_grows : (definition : Option StructDef) (p : Plan) → plan_of_definition known definition ≡ Some p → plan_of_definition deeper definition ≡ Some p
  definition_grows None p h = h
  definition_grows (Some d) p h = chosen_grows d.complete (map (λ field. field.1) d.fields) p h

pub struct_grows : (structs : Structs) (depth number : ℕ) (p : Plan) → plan_of_struct structs depth number ≡ Some p → plan_of_struct structs (suc depth) number ≡ Some p
struct_grows structs zero number p h = absurd (cc)
struct_grows structs (suc depth) number p h = definition_grows (plan_of_struct structs depth) (plan_of_struct structs (suc depth)) (struct_grows structs depth) (slice_get structs.list number) p h

-- ---- what a value begins with, and what stands in it

pub parts : (structs : Structs) (ty : CType) (p : Plan) → plan_with (known_plans structs) ty ≡ Some p → (q : Plan) × (inside structs ty ≡ Some q) × (p ≡ followed_by (head ty) q)
parts structs (Word kind) p h = (empty, refl, sym (some_same _ p h))
parts structs (Pointer pointee constant) p h = (empty, refl, sym (some_same _ p h))
parts structs (Array' q element count) p h =
    let r = map_some (λ plan. is_whole (AnArray (shape_of element) count) (repeated count plan)) (plan_with (known_plans structs) element) p h in
    (repeated count r.0, ap (option_map (repeated count)) r.1, sym r.2 ∙ whole_is (AnArray (shape_of element) count) (repeated count r.0))
parts structs (Struct number) p h =
    let r = map_some (is_whole (AStruct number)) (known_plans structs number) p h in
    (r.0, struct_grows structs (length structs.list) number r.0 r.1, sym r.2 ∙ whole_is (AStruct number) r.0)
