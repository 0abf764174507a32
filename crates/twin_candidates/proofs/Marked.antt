-- Marks of the types of which values begin in objects that aren't paired.
use Rattle.std.proofs.Common.{◌≡◌, ℕ, ◌+◌, ◌<◌, ◌≤◌, List, [], ◌∷◌, length, slice_get, Bool, true, false, ◌&&◌, ◌||◌, nat_eq, Option, Some, None, ◌⊎◌, inl, inr, refl, sym, ap, ap₂, ◌∙◌, subst, arith}
use Rattle.std.proofs.lemmas.Bool.{cases_lt}
use Rattle.std.proofs.lemmas.Bool.Decides.{eqb_tells}
use Rattle.std.proofs.lemmas.Option.{slice_get_past}
use Rattle.rvt_tree.specs.declared.types.Pointee.{Pointee}
use Rattle.rvt_tree.specs.declared.programs.Object.{Object}
use Rattle.rvt_tree.specs.declared.programs.Program.{Program}
use Rattle.rvt_tree.specs.Same.{ArePaired}
use Rattle.c_types.specs.Layout.{Begin, Plan, plan_of, is_of_pointee, begins_in}
use Rattle.c_meaning.specs.Stores.{objects_of, plan_of_object, begins_in_plan, begins_at}
use Rattle.twin_laws.specs.Touches.{is_addressable}
use Rattle.twin_candidates.specs.declared.marks.Marks.{Marks}
use Rattle.twin_candidates.specs.Marks.{marked, is_among, begins_somewhere, TouchesBelow, MarksBelow, MarksChanged}

-- ---- what begins somewhere

or_left : (a b : Bool) → a ≡ true → (a || b) ≡ true
or_left true b h = refl
or_left false b h = cc

or_right : (a b : Bool) → b ≡ true → (a || b) ≡ true
or_right true b h = refl
or_right false b h = h

and_right : (a b : Bool) → (a && b) ≡ true → b ≡ true
and_right true b h = h
and_right false b h = cc

one_of_two : (a b : Bool) → (a || b) ≡ true → (a ≡ true) ⊎ (b ≡ true)
one_of_two true b h = inl refl
one_of_two false b h = inr h

among : (pointee : Pointee) (cell : ℕ) (starts : List Begin) → begins_in pointee cell starts ≡ true → is_among pointee starts ≡ true
among pointee cell [] h = h
among pointee cell (start ∷ starts) h = by (among pointee cell starts) (one_of_two _ _ h)
  where
    by : (begins_in pointee cell starts ≡ true → is_among pointee starts ≡ true) →
        ((nat_eq cell start.cell && is_of_pointee pointee start.what) ≡ true) ⊎ (begins_in pointee cell starts ≡ true) → is_among pointee (start ∷ starts) ≡ true
    by rest (inl here) = or_left (is_of_pointee pointee start.what) (is_among pointee starts) (and_right (nat_eq cell start.cell) _ here)
    by rest (inr later) = or_right (is_of_pointee pointee start.what) (is_among pointee starts) (rest later)

same_cell : (n : ℕ) → nat_eq n n ≡ true
same_cell n = by (eqb_tells n n)
  where
    by : ((nat_eq n n ≡ true) × (n ≡ n)) ⊎ ((nat_eq n n ≡ false) × (n ≡ n → ⊥)) → nat_eq n n ≡ true
    by (inl x) = x.0
    by (inr x) = absurd (x.1 refl)

somewhere : (pointee : Pointee) (starts : List Begin) → is_among pointee starts ≡ true → (cell : ℕ) × (begins_in pointee cell starts ≡ true)
somewhere pointee [] h = (0, h)
somewhere pointee (start ∷ starts) h = by (somewhere pointee starts) (one_of_two _ _ h)
  where
    by : (is_among pointee starts ≡ true → (cell : ℕ) × (begins_in pointee cell starts ≡ true)) → (is_of_pointee pointee start.what ≡ true) ⊎ (is_among pointee starts ≡ true) → (cell : ℕ) × (begins_in pointee cell (start ∷ starts) ≡ true)
    by later_cell (inl here) = (
      start.cell,
      or_left (nat_eq start.cell start.cell && is_of_pointee pointee start.what) (begins_in pointee start.cell starts)
          (ap₂ (λ a b. a && b) (same_cell start.cell) here),
    )
    by later_cell (inr later) =
        let rest = later_cell later in
        (rest.0, or_right (nat_eq rest.0 start.cell && is_of_pointee pointee start.what) (begins_in pointee rest.0 starts) rest.1)

begins_then : (pointee : Pointee) (cell : ℕ) (plan : Option Plan) → begins_in_plan pointee cell plan ≡ true → begins_somewhere pointee plan ≡ true
begins_then pointee cell None h = h
begins_then pointee cell (Some plan) h = among pointee cell plan.starts h

begins_so : (pointee : Pointee) (plan : Option Plan) → begins_somewhere pointee plan ≡ true → (cell : ℕ) × (begins_in_plan pointee cell plan ≡ true)
begins_so pointee None h = (0, h)
begins_so pointee (Some plan) h = somewhere pointee plan.starts h

-- ---- the first so many objects

module _ (program : Program) (objects : List (Option ℕ)) where
  pub marks_none : (marks : Marks) → ((pointee : Pointee) → marked marks pointee ≡ false) → MarksBelow program objects marks 0
  marks_none marks none pointee = (λ _ number cell low. absurd (omega (arith, low)), λ _. none pointee)

  split : (count : ℕ) (pointee : Pointee) → TouchesBelow program objects count pointee →
      ((cell : ℕ) → is_addressable (slice_get (objects_of program) count) ≡ true → begins_at program pointee count cell ≡ true → ArePaired objects count count) → TouchesBelow program objects (count + 1) pointee
  split count pointee below here number cell low = by (cases_lt number count)
    where
      by : (number < count) ⊎ (count ≤ number) → is_addressable (slice_get (objects_of program) number) ≡ true → begins_at program pointee number cell ≡ true → ArePaired objects number number
      by (inl less) = below number cell less
      by (inr more) =
          let same : count ≡ number = omega (arith, more, low) in
          subst (λ n. is_addressable (slice_get (objects_of program) n) ≡ true → begins_at program pointee n cell ≡ true → ArePaired objects n n) same (here cell)

  fewer : (count : ℕ) (pointee : Pointee) → TouchesBelow program objects (count + 1) pointee → TouchesBelow program objects count pointee
  fewer count pointee h number cell low = h number cell (omega (arith, low))

  -- an object that isn't addressable, or is paired
  pub marks_kept : (marks : Marks) (count : ℕ) → (is_addressable (slice_get (objects_of program) count) ≡ true → ArePaired objects count count) → MarksBelow program objects marks count → MarksBelow program objects marks (count + 1)
  marks_kept marks count fine h pointee =
      (λ none. split count pointee ((h pointee).0 none) (λ cell open' _. fine open'), λ touches. (h pointee).1 (fewer count pointee touches))

  neither : (a b : Bool) → (a || b) ≡ false → (a ≡ false) × (b ≡ false)
  neither true b h = cc
  neither false b h = (refl, h)

  -- one that is addressable, and isn't paired
  pub marks_more : (before after : Marks) (count : ℕ) (object : Object) → slice_get (objects_of program) count ≡ Some object → object.addressable ≡ true → (ArePaired objects count count → ⊥) →
      ((pointee : Pointee) → marked after pointee ≡ (begins_somewhere pointee (plan_of program.structs object.ty) || marked before pointee)) → MarksBelow program objects before count → MarksBelow program objects after (count + 1)
  marks_more before after count object there addressable alone more h pointee = (to, from)
    where
      open_there : is_addressable (slice_get (objects_of program) count) ≡ true
      open_there = ap is_addressable there ∙ addressable

      plan_there : plan_of_object program (slice_get (objects_of program) count) ≡ plan_of program.structs object.ty
      plan_there = ap (plan_of_object program) there

      to : marked after pointee ≡ false → TouchesBelow program objects (count + 1) pointee
      to none =
          let parts = neither (begins_somewhere pointee (plan_of program.structs object.ty)) (marked before pointee) (sym (more pointee) ∙ none) in
          split count pointee ((h pointee).0 parts.1)
          (λ cell _ begin. absurd (let yes : true ≡ false = sym (begins_then pointee cell (plan_of program.structs object.ty) (sym (ap (begins_in_plan pointee cell) plan_there) ∙ begin)) ∙ parts.0 in cc))

      unmarked : (b : Bool) → begins_somewhere pointee (plan_of program.structs object.ty) ≡ b → TouchesBelow program objects (count + 1) pointee → b ≡ false
      unmarked false e touches = refl
      unmarked true e touches =
          let where' = begins_so pointee (plan_of program.structs object.ty) e in
          absurd (alone (touches count where'.0 (omega arith) open_there (ap (begins_in_plan pointee where'.0) plan_there ∙ where'.1)))

      from : TouchesBelow program objects (count + 1) pointee → marked after pointee ≡ false
      from touches =
          more pointee ∙ ap₂ (λ a b. a || b) (unmarked (begins_somewhere pointee (plan_of program.structs object.ty)) refl touches) ((h pointee).1 (fewer count pointee touches))

  pub marks_all : (marks : Marks) (count : ℕ) → length (objects_of program) ≤ count → MarksBelow program objects marks count → MarksChanged program objects marks
  marks_all marks count whole h pointee =
      (λ none number cell. by number cell (cases_lt number count) ((h pointee).0 none), λ touches. (h pointee).1 (λ number cell _. touches number cell))
    where
      by : (number cell : ℕ) → (number < count) ⊎ (count ≤ number) → TouchesBelow program objects count pointee → is_addressable (slice_get (objects_of program) number) ≡ true → begins_at program pointee number cell ≡ true → ArePaired objects number number
      by number cell (inl less) touches open' = touches number cell less open'
      by number cell (inr more) touches open' =
          let past : slice_get (objects_of program) number ≡ None = slice_get_past (objects_of program) number (omega (arith, whole, more)) in
          absurd (let no : true ≡ false = sym open' ∙ ap is_addressable past in cc)
