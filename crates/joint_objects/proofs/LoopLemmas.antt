-- One turn of a loop takes the first of what is left.
use Rattle.std.proofs.Common.{◌≡◌, ℕ, ◌+◌, max, Bool, List, [], ◌∷◌, ◌++◌, map, length, get_or, Option, Some, None, Result, Ok, Err, OnOk, append_assoc, refl, sym, ap, ap₂, ◌∙◌, arith}
use Rattle.std.specs.List.{flat_map}
use Rattle.rvt_num.specs.declared.kinds.Kind.{Kind}
use Rattle.rvt_tree.specs.declared.types.Pointee.TheVariants as P
use Rattle.rvt_tree.specs.declared.programs.Object.{Object}
use Rattle.rvt_tree.specs.declared.programs.Local.{Local}
use Rattle.rvt_tree.specs.declared.programs.Function.{Function}
use Rattle.rvt_tree.specs.declared.programs.StructDef.{StructDef}
use Rattle.rvt_tree.specs.declared.programs.Program.{Program}
use Rattle.c_types.specs.Layout.{shape_of}
use Rattle.version_map.specs.Maps.{Entries}
use Rattle.joint_objects.specs.declared.found.Found.{Found}
use Rattle.joint_objects.specs.declared.objects.JointObject.{JointObject}
use Rattle.joint_objects.specs.declared.objects.Element.TheVariants as e
use Rattle.joint_objects.specs.declared.tallies.Tally.{Tally}
use Rattle.joint_objects.specs.Sides.{from_old, from_new}
use Rattle.joint_objects.specs.StructTypes.{struct_partners}
use Rattle.joint_objects.specs.Globals.{global_partner, found_global, globals_from}
use Rattle.joint_objects.specs.Locals.{declarations_in, locals_among, paired_function, locals_from}
use Rattle.joint_objects.specs.Extras.{arrays_of, arrays_of_kind, arrays_of_old_struct, arrays_of_old_structs, arrays_of_new_struct, arrays_of_new_structs, most_pointers}
use Rattle.joint_objects.specs.JointObjects.{all_globals, all_locals, extra_arrays, mapped_arrays, table_of, joint_table}

-- what holds where a call succeeds, from what is known there
pub where_ok : {T E : Type 0} {P Q : Type 0} (r : Result T E) → (P → Q) → OnOk r P → OnOk r Q
where_ok (Ok value) to known = to known
where_ok (Err error) to known = tt

pub globals_step : (structs : List (Option ℕ)) (listed : List (List ℕ × List ℕ)) (theirs : List Object) (found after : List Found) (left rest : List Object) (first : Object) (number next : ℕ) (partner : Option ℕ) →
    left ≡ first ∷ rest → next ≡ number + 1 → partner ≡ global_partner structs listed theirs first → after ≡ found ++ found_global first.owner number partner →
    after ++ globals_from structs listed theirs next rest ≡ found ++ globals_from structs listed theirs number left
globals_step structs listed theirs found after left rest first number next partner is one of pushed =
    ap₂ (λ (a : List Found) (n : ℕ). a ++ globals_from structs listed theirs n rest) pushed one
    ∙ append_assoc found (found_global first.owner number partner) (globals_from structs listed theirs (number + 1) rest)
    ∙ ap (λ (p : Option ℕ). found ++ (found_global first.owner number p ++ globals_from structs listed theirs (number + 1) rest)) of
    ∙ ap (λ (l : List Object). found ++ globals_from structs listed theirs number l) (sym is)

pub locals_step : (structs pairs : List (Option ℕ)) (theirs : List Function) (found after : List Found) (left rest : List Function) (first : Function) (number next : ℕ) (other : Option Function) →
    left ≡ first ∷ rest → next ≡ number + 1 → other ≡ paired_function pairs theirs number →
    after ≡ found ++ locals_among structs (declarations_in other) (declarations_in (Some first)) →
    after ++ locals_from structs pairs theirs next rest ≡ found ++ locals_from structs pairs theirs number left
locals_step structs pairs theirs found after left rest first number next other is one of pushed =
    ap₂ (λ (a : List Found) (n : ℕ). a ++ locals_from structs pairs theirs n rest) pushed one
    ∙ append_assoc found (locals_among structs (declarations_in other) (declarations_in (Some first))) (locals_from structs pairs theirs (number + 1) rest)
    ∙ ap (λ (o : Option Function). found ++ (locals_among structs (declarations_in o) (declarations_in (Some first)) ++ locals_from structs pairs theirs (number + 1) rest)) of
    ∙ ap (λ (l : List Function). found ++ locals_from structs pairs theirs number l) (sym is)

pub kinds_step : (f g : List Function) (out after : List JointObject) (left rest : List Kind) (kind : Kind) (m n count : ℕ) →
    left ≡ kind ∷ rest → m ≡ most_pointers (P.Word kind) f → n ≡ most_pointers (P.Word kind) g → count ≡ max m n → after ≡ out ++ arrays_of (e.Word kind) count →
    after ++ flat_map (arrays_of_kind f g) rest ≡ out ++ flat_map (arrays_of_kind f g) left
kinds_step f g out after left rest kind m n count is old new most pushed =
    ap (λ (a : List JointObject). a ++ flat_map (arrays_of_kind f g) rest) pushed
    ∙ append_assoc out (arrays_of (e.Word kind) count) (flat_map (arrays_of_kind f g) rest)
    ∙ ap (λ (c : ℕ). out ++ (arrays_of (e.Word kind) c ++ flat_map (arrays_of_kind f g) rest)) (most ∙ ap₂ max old new)
    ∙ ap (λ (l : List Kind). out ++ flat_map (arrays_of_kind f g) l) (sym is)

-- ---- the end of a loop, where nothing is left

nothing_more : {X : Type 0} (xs : List X) → xs ++ [] ≡ xs
nothing_more [] = refl
nothing_more (x ∷ xs) = ap (λ ys. x ∷ ys) (nothing_more xs)

pub drained : {X : Type 0} (to : List X → List JointObject) (out made : List JointObject) (left : List X) → to [] ≡ [] → length left ≡ 0 → out ++ to left ≡ made → out ≡ made
drained to out made [] nothing ended held = sym (nothing_more out) ∙ ap (λ (l : List JointObject). out ++ l) (sym nothing) ∙ held
drained to out made (x ∷ rest) nothing ended held = absurd (omega (arith, ended))

-- ---- one object more

pub one_pushed : {X : Type 0} (to : X → JointObject) (out after : List JointObject) (left rest : List X) (x : X) (made : JointObject) →
    left ≡ x ∷ rest → made ≡ to x → after ≡ out ++ made ∷ [] → after ++ map to rest ≡ out ++ map to left
one_pushed {X = X} to out after left rest x made is what pushed =
    ap (λ (a : List JointObject). a ++ map to rest) pushed
    ∙ append_assoc out (made ∷ []) (map to rest)
    ∙ ap (λ (m : JointObject). out ++ m ∷ map to rest) what
    ∙ ap (λ (l : List X). out ++ map to l) (sym is)

pub some_pushed : {X : Type 0} (to : X → List JointObject) (out after made : List JointObject) (left rest : List X) (x : X) →
    left ≡ x ∷ rest → made ≡ to x → after ≡ out ++ made → after ++ flat_map to rest ≡ out ++ flat_map to left
some_pushed {X = X} to out after made left rest x is what pushed =
    ap (λ (a : List JointObject). a ++ flat_map to rest) pushed
    ∙ append_assoc out made (flat_map to rest)
    ∙ ap (λ (m : List JointObject). out ++ (m ++ flat_map to rest)) what
    ∙ ap (λ (l : List X). out ++ flat_map to l) (sym is)

-- ---- the parts of the table

pub extras_made : (t t1 t2 t3 k o n : List JointObject) → t1 ≡ t ++ k → t2 ≡ t1 ++ o → t3 ≡ t2 ++ n → t3 ≡ t ++ (k ++ (o ++ n))
extras_made t t1 t2 t3 k o n one two three =
    three ∙ ap (λ (x : List JointObject). x ++ n) (two ∙ ap (λ (x : List JointObject). x ++ o) one)
    ∙ append_assoc (t ++ k) o n ∙ append_assoc t k (o ++ n)

pub parts_made : (t t1 t2 t3 t4 g l x m : List JointObject) → t1 ≡ t ++ g → t2 ≡ t1 ++ l → t3 ≡ t2 ++ x → t4 ≡ t3 ++ m → t4 ≡ t ++ (g ++ (l ++ (x ++ m)))
parts_made t t1 t2 t3 t4 g l x m one two three four =
    four
    ∙ ap (λ (y : List JointObject). y ++ m) (three ∙ ap (λ (y : List JointObject). y ++ x) (two ∙ ap (λ (y : List JointObject). y ++ l) one))
    ∙ append_assoc ((t ++ g) ++ l) x m ∙ append_assoc (t ++ g) l (x ++ m) ∙ append_assoc t g (l ++ (x ++ m))

-- ---- arrays of structs

pub old_structs_step : (f g : List Function) (partners : List (Option ℕ)) (out after : List JointObject) (left rest : List StructDef) (s : StructDef) (number next : ℕ) (partner : Option ℕ) →
    left ≡ s ∷ rest → next ≡ number + 1 → partner ≡ get_or partners number None → after ≡ out ++ arrays_of_old_struct f g number partner s →
    after ++ arrays_of_old_structs f g partners next rest ≡ out ++ arrays_of_old_structs f g partners number left
old_structs_step f g partners out after left rest s number next partner is one of pushed =
    ap₂ (λ (a : List JointObject) (n : ℕ). a ++ arrays_of_old_structs f g partners n rest) pushed one
    ∙ append_assoc out (arrays_of_old_struct f g number partner s) (arrays_of_old_structs f g partners (number + 1) rest)
    ∙ ap (λ (p : Option ℕ). out ++ (arrays_of_old_struct f g number p s ++ arrays_of_old_structs f g partners (number + 1) rest)) of
    ∙ ap (λ (l : List StructDef). out ++ arrays_of_old_structs f g partners number l) (sym is)

pub new_structs_step : (g : List Function) (partners : List (Option ℕ)) (out after : List JointObject) (left rest : List StructDef) (s : StructDef) (number next : ℕ) (partner : Option ℕ) →
    left ≡ s ∷ rest → next ≡ number + 1 → partner ≡ get_or partners number None → after ≡ out ++ arrays_of_new_struct g number partner s →
    after ++ arrays_of_new_structs g partners next rest ≡ out ++ arrays_of_new_structs g partners number left
new_structs_step g partners out after left rest s number next partner is one of pushed =
    ap₂ (λ (a : List JointObject) (n : ℕ). a ++ arrays_of_new_structs g partners n rest) pushed one
    ∙ append_assoc out (arrays_of_new_struct g number partner s) (arrays_of_new_structs g partners (number + 1) rest)
    ∙ ap (λ (p : Option ℕ). out ++ (arrays_of_new_struct g number p s ++ arrays_of_new_structs g partners (number + 1) rest)) of
    ∙ ap (λ (l : List StructDef). out ++ arrays_of_new_structs g partners number l) (sym is)
