-- What begins at the cells of objects.
use Rattle.std.proofs.Common.{◌≡◌, ℕ, zero, suc, ◌+◌, ◌<◌, ◌≤◌, List, [], ◌∷◌, ◌++◌, length, drop, get_or, Bool, true, false, ◌&&◌, ◌||◌, if◌then◌else◌, Option, Some, None, refl, ap, sym, ◌∙◌, subst}
use Rattle.std.proofs.lemmas.List.{drop_more, drop_all}
use Rattle.rvt_tree.specs.declared.types.CType.{CType}
use Rattle.rvt_tree.specs.declared.types.CType.TheVariants.{Word, Pointer, Array', Struct}
use Rattle.rvt_tree.specs.declared.types.Pointee.{Pointee}
use Rattle.rvt_tree.specs.declared.types.Pointee.TheVariants as P
use Rattle.rvt_tree.specs.declared.programs.Program.{Program}
use Rattle.rvt_tree.specs.declared.programs.Object.{Object}
use Rattle.c_types.specs.Layout.{Plan, plan_of, shape_of, is_of_pointee, same_pointee}
use Rattle.c_places.specs.Starts.{pointee_of, is_among, AreStarts, AreAllStarts}

word_begins : (pointee : Pointee) (ty : CType) (p : Pointee) → pointee_of ty ≡ Some p → same_pointee pointee p ≡ is_of_pointee pointee (shape_of ty)
word_begins (P.Word a) (Word kind) p h = let e : P.Word kind ≡ p = cc in ap (same_pointee (P.Word a)) (sym e)
word_begins (P.Struct a) (Word kind) p h = let e : P.Word kind ≡ p = cc in ap (same_pointee (P.Struct a)) (sym e)
word_begins (P.Word a) (Struct number) p h = let e : P.Struct number ≡ p = cc in ap (same_pointee (P.Word a)) (sym e)
word_begins (P.Struct a) (Struct number) p h = let e : P.Struct number ≡ p = cc in ap (same_pointee (P.Struct a)) (sym e)
word_begins pointee (Pointer q constant) p h = absurd (cc)
word_begins pointee (Array' q element count) p h = absurd (cc)

or_false : (b : Bool) → (b || false) ≡ b
or_false true = refl
or_false false = refl

or_assoc : (a b c : Bool) → (a || (b || c)) ≡ ((a || b) || c)
or_assoc true b c = refl
or_assoc false b c = refl

is_among-push : (pointee : Pointee) (here : List Pointee) (p : Pointee) → is_among pointee (here ++ p ∷ []) ≡ (is_among pointee here || same_pointee pointee p)
is_among-push pointee [] p = or_false (same_pointee pointee p)
is_among-push pointee (other ∷ here) p =
    ap (λ b. same_pointee pointee other || b) (is_among-push pointee here p)
    ∙ or_assoc (same_pointee pointee other) (is_among pointee here) (same_pointee pointee p)

added : (b test : Bool) (pointee : Pointee) (here : List Pointee) (p : Pointee) → same_pointee pointee p ≡ test →
    is_among pointee (if b then here ++ p ∷ [] else here) ≡ (is_among pointee here || (b && test))
added true test pointee here p same = is_among-push pointee here p ∙ ap (λ t. is_among pointee here || t) same
added false test pointee here p same = sym (or_false (is_among pointee here))

-- a value that a pointer may point to is entered at a cell
pub begins_more : (rows old : List (List Pointee)) (ty : CType) (p : Pointee) (test : ℕ → Bool) → pointee_of ty ≡ Some p →
    ((cell : ℕ) → get_or rows cell [] ≡ (if test cell then get_or old cell [] ++ p ∷ [] else get_or old cell [])) →
    (pointee : Pointee) (cell : ℕ) → is_among pointee (get_or rows cell []) ≡ (is_among pointee (get_or old cell []) || (test cell && is_of_pointee pointee (shape_of ty)))
begins_more rows old ty p test is_p entered pointee cell =
    ap (is_among pointee) (entered cell)
    ∙ added (test cell) (is_of_pointee pointee (shape_of ty)) pointee (get_or old cell []) p (word_begins pointee ty p is_p)

-- ---- objects one after another

starts_cons : (program : Program) (rows : List (List Pointee)) (others : List (List (List Pointee))) (object : Object) (objects : List Object) →
    AreStarts rows (plan_of program.structs object.ty) → AreAllStarts program others objects → AreAllStarts program (rows ∷ others) (object ∷ objects)
starts_cons program rows others object objects here rest zero = here
starts_cons program rows others object objects here rest (suc number) = rest number

pub starts_next : (program : Program) (objects : List Object) (i : ℕ) (object : Object) (rows : List (List Pointee)) (others : List (List (List Pointee))) →
    i < length objects → object ≡ get_or objects i object →
    AreStarts rows (plan_of program.structs object.ty) → AreAllStarts program others (drop (i + 1) objects) → AreAllStarts program (rows ∷ others) (drop i objects)
starts_next program objects i object rows others h e here rest =
    let split : drop i objects ≡ object ∷ drop (i + 1) objects = drop_more objects i object h ∙ ap (λ x. x ∷ drop (i + 1) objects) (sym e) in
    subst (λ left. AreAllStarts program (rows ∷ others) left) (sym split) (starts_cons program rows others object (drop (i + 1) objects) here rest)

starts_none : (program : Program) → AreAllStarts program [] []
starts_none program number pointee cell = refl

pub starts_done : (program : Program) (objects : List Object) (i : ℕ) → length objects ≤ i → AreAllStarts program [] (drop i objects)
starts_done program objects i h = subst (λ left. AreAllStarts program [] left) (sym (drop_all i objects h)) (starts_none program)
