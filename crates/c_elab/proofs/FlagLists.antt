-- Flags that are set one after another.
use Rattle.std.proofs.Common.{◌≡◌, ℕ, List, [], ◌∷◌, ◌++◌, Bool, true, false, ◌||◌, nat_eq, map, flat_map, option_map, length, get_or, take, drop, take_all, ◌-◌, ◌≤◌, ◌<◌, arith, ◌⊎◌, ◌≢◌, inl, inr, slice_set, refl, subst, sym, ◌∙◌}
use Rattle.std.proofs.lemmas.List.{get_or-set_same, get_or-set_other}
use Rattle.std.proofs.lemmas.Bool.Decides.{eqb_tells}
use Rattle.rvt_tree.specs.declared.expressions.Variable.{Variable}
use Rattle.expression_typing.specs.Progress.{Taken, same_variable, is_taken}
use Rattle.file_state.specs.declared.entries.FunctionEntry.{FunctionEntry}
use Rattle.file_state.specs.Views.{body_view, function_entry_view}
use Rattle.file_typing.specs.Elaboration.{taken_in}
use Rattle.file_typing.specs.FileScope.{FunctionEntry as Entry}
use Rattle.local_objects.specs.ObjectTables.{is_flagged}

pub or_false : (a : Bool) → a || false ≡ a
or_false true = refl
or_false false = refl

or_true : (a : Bool) → a || true ≡ true
or_true true = refl
or_true false = refl

pub or_assoc : (a b c : Bool) → a || b || c ≡ a || (b || c)
or_assoc true b c = refl
or_assoc false b c = refl

pub taken_append : (xs ys : List Taken) (v : Variable) → is_taken (xs ++ ys) v ≡ is_taken xs v || is_taken ys v
taken_append [] ys v = refl
taken_append (x ∷ xs) ys v = rw (taken_append xs ys v) (sym (or_assoc (same_variable x.variable v) (is_taken xs v) (is_taken ys v)))

-- ---- function by function

abbrev pub all_taken : List FunctionEntry → List Taken
all_taken functions = flat_map (λ (entry : Entry). taken_in entry.body) (map function_entry_view functions)

pub function_step : (rest : List FunctionEntry) (function : FunctionEntry) (v : Variable) (before after whole : Bool)
    → 1 ≤ length rest → function ≡ get_or rest 0 function
    → after ≡ before || is_taken (taken_in (option_map body_view function.body)) v
    → before || is_taken (all_taken rest) v ≡ whole
    → after || is_taken (all_taken (take (length rest - 1) (drop 1 rest))) v ≡ whole
function_step [] function v before after whole some first set is = absurd (let no : ⊥ = omega (arith, some) in no)
function_step (f ∷ rest) function v before after whole some first set is =
    let all : take (length (f ∷ rest) - 1) rest ≡ rest = take_all (length (f ∷ rest) - 1) rest (let h : length rest ≤ length (f ∷ rest) - 1 = omega arith in h) in
    let here = taken_in (function_entry_view function).body in
    let both = rw (← first, taken_append here (all_taken rest) v, ← or_assoc before (is_taken here v) (is_taken (all_taken rest) v)) at is in
    rw (all, set) both

-- ---- the flags after one is set

module _ (flags : List Bool) (n k : ℕ) (before : Bool) (room : n < length flags) (same : is_flagged flags k ≡ before) where
  set_by : ((nat_eq n k ≡ true) × (n ≡ k)) ⊎ ((nat_eq n k ≡ false) × (n ≢ k)) → is_flagged (slice_set flags n true) k ≡ before || nat_eq n k
  set_by (inl here) = rw (here.0, or_true before) (subst (λ (k : ℕ). is_flagged (slice_set flags n true) k ≡ true) here.1 (get_or-set_same flags n true false room))
  set_by (inr other) = rw (other.0, or_false before) (get_or-set_other flags n k true false (λ e. other.1 (sym e)) ∙ same)

  pub flag_set : is_flagged (slice_set flags n true) k ≡ before || nat_eq n k
  flag_set = set_by (eqb_tells n k)
