-- The group that a number selects.
use Rattle.std.proofs.Common.{◌≡◌, ◌≤◌, ℕ, ◌+◌, Bool, true, false, if◌then◌else◌, Option, Some, None, List, ◌∷◌, ◌||◌, refl, sym, ap, ◌∙◌, subst, arith}
use Rattle.std.specs.Prelude.{option_map, unwrap_or}
use Rattle.rvt_num.specs.Number.{Number}
use Rattle.rvt_tree.specs.declared.programs.Program.{Program}
use Rattle.rvt_tree.specs.declared.statements.Label.{Label}
use Rattle.rvt_tree.specs.declared.statements.Label.TheVariants.{Case, Default}
use Rattle.rvt_tree.specs.Syntax.{Statements, compound, Groups, no_groups, labelled}
use Rattle.c_meaning.specs.Outcomes.{State, give, Normally, and_then}
use Rattle.c_meaning.specs.Statements.{after_group, any, or_else, meaning, group}
use Rattle.c_meaning.specs.Runs.{stepping}
use Rattle.c_tasks.specs.Operands.{Operands}
use Rattle.c_tasks.specs.Tasks.{Rest, ending, chosen_group}
use Rattle.c_tasks.specs.Weights.{block_weight, groups_weight}
use Rattle.c_control.specs.Groups.{is_label, labelled_group, group_for, in_group, selecting_by}

first_of : {A B : Type 0} (f : A → B) (b : Bool) (a : A) (rest : Option B) (others : Option A) → rest ≡ option_map f others → (if b then Some (f a) else rest) ≡ option_map f (if b then Some a else others)
first_of f true a rest others e = refl
first_of f false a rest others e = e

group_is : (program : Program) (d : ℕ) (wanted : Label) (groups : Groups) → group program (stepping program d) (any (is_label wanted)) groups ≡ option_map (λ body. meaning program (stepping program d) (compound body)) (labelled_group wanted groups)
group_is program d wanted no_groups = refl
group_is program d wanted (labelled labels body rest) =
    first_of (λ b. meaning program (stepping program d) (compound b)) (any (is_label wanted) labels) body _ _ (group_is program d wanted rest)

mapped_or : {A B : Type 0} (f : A → B) (a b : Option A) → or_else (option_map f a) (option_map f b) ≡ option_map f (or_else a b)
mapped_or f (Some a) b = refl
mapped_or f None b = refl

chosen_is : (program : Program) (d : ℕ) (n : Number) (groups : Groups) → chosen_group program d n groups ≡ unwrap_or (option_map (λ body. meaning program (stepping program d) (compound body)) (group_for n groups)) (give Normally)
chosen_is program d n groups =
    ap (λ o. unwrap_or (or_else o (group program (stepping program d) (any (is_label Default)) groups)) (give Normally)) (group_is program d (Case n) groups)
    ∙ ap (λ o. unwrap_or (or_else (option_map (λ body. meaning program (stepping program d) (compound body)) (labelled_group (Case n) groups)) o) (give Normally)) (group_is program d Default groups)
    ∙ ap (λ o. unwrap_or o (give Normally)) (mapped_or (λ body. meaning program (stepping program d) (compound body)) (labelled_group (Case n) groups) (labelled_group Default groups))

-- the tasks of the selected group, and none
pub selected : (program : Program) (d : ℕ) (n : Number) (groups : Groups) (body : Statements) → group_for n groups ≡ Some body → (next : Rest) (on : Operands) (s : State ℕ) →
    in_group program d body next on s ≡ selecting_by program d n groups next on s
selected program d n groups body e next on s =
    sym (ap (λ part. ending program d (and_then part after_group) next on s)
    (chosen_is program d n groups ∙ ap (λ o. unwrap_or (option_map (λ b. meaning program (stepping program d) (compound b)) o) (give Normally)) e))

pub none_selected : (program : Program) (d : ℕ) (n : Number) (groups : Groups) → group_for n groups ≡ None → (next : Rest) (on : Operands) (s : State ℕ) →
    ending program d (give Normally) next on s ≡ selecting_by program d n groups next on s
none_selected program d n groups e next on s =
    sym (ap (λ part. ending program d (and_then part after_group) next on s)
    (chosen_is program d n groups ∙ ap (λ o. unwrap_or (option_map (λ b. meaning program (stepping program d) (compound b)) o) (give Normally)) e))

-- ---- weights

abbrev some_weight : {A : Type 0} (w : A → ℕ) (bound : ℕ) → Option A → Type 0
some_weight w bound None = Unit {0}
some_weight w bound (Some a) = w a ≤ bound

weight_first : (b : Bool) (body : Statements) (others : Option Statements) (rest : ℕ) → some_weight block_weight rest others → some_weight block_weight (8 + block_weight body + rest) (if b then Some body else others)
weight_first true body others rest h = omega arith
weight_first false body None rest h = tt
weight_first false body (Some other) rest h = omega (arith, h)

labelled_weight : (wanted : Label) (groups : Groups) → some_weight block_weight (groups_weight groups) (labelled_group wanted groups)
labelled_weight wanted no_groups = tt
labelled_weight wanted (labelled labels body rest) = weight_first (any (is_label wanted) labels) body (labelled_group wanted rest) (groups_weight rest) (labelled_weight wanted rest)

either_weight : (bound : ℕ) (a b : Option Statements) → some_weight block_weight bound a → some_weight block_weight bound b → some_weight block_weight bound (or_else a b)
either_weight bound (Some a) b h k = h
either_weight bound None b h k = k

of_some : (bound : ℕ) (o : Option Statements) (body : Statements) → o ≡ Some body → some_weight block_weight bound o → block_weight body ≤ bound
of_some bound o body e h = subst (some_weight block_weight bound) e h

pub selected_weight : (n : Number) (groups : Groups) (body : Statements) → group_for n groups ≡ Some body → block_weight body ≤ groups_weight groups
selected_weight n groups body e =
    of_some (groups_weight groups) (group_for n groups) body e (either_weight (groups_weight groups) (labelled_group (Case n) groups) (labelled_group Default groups) (labelled_weight (Case n) groups) (labelled_weight Default groups))

-- ---- looking for a label

pub labelled_here : (wanted : Label) (labels : List Label) (body : Statements) (rest : Groups) → any (is_label wanted) labels ≡ true → Some body ≡ labelled_group wanted (labelled labels body rest)
labelled_here wanted labels body rest e = sym (ap (λ b. if b then Some body else labelled_group wanted rest) e)

pub labelled_later : (wanted : Label) (labels : List Label) (body : Statements) (rest : Groups) → any (is_label wanted) labels ≡ false → labelled_group wanted rest ≡ labelled_group wanted (labelled labels body rest)
labelled_later wanted labels body rest e = sym (ap (λ b. if b then Some body else labelled_group wanted rest) e)

pub has_here : (wanted label : Label) (labels : List Label) → is_label wanted label ≡ true → true ≡ any (is_label wanted) (label ∷ labels)
has_here wanted label labels e = sym (ap (λ b. b || any (is_label wanted) labels) e)

pub has_later : (wanted label : Label) (labels : List Label) → is_label wanted label ≡ false → any (is_label wanted) labels ≡ any (is_label wanted) (label ∷ labels)
has_later wanted label labels e = sym (ap (λ b. b || any (is_label wanted) labels) e)
