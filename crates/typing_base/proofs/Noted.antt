-- One more of what is noted.
use Rattle.std.proofs.Common.{◌≡◌, ℕ, ◌+◌, List, [], ◌∷◌, ◌++◌, map, Bool, true, false, ◌||◌, nat_eq, length, ◌<◌, ◌⊎◌, ◌≢◌, inl, inr, slice_index_or, slice_set, refl, subst, sym, ◌∙◌}
use Rattle.std.proofs.lemmas.List.{map-append, get_or-set_same, get_or-set_other}
use Rattle.std.proofs.lemmas.List.Sums.{sum_by_push}
use Rattle.std.proofs.lemmas.Bool.Decides.{eqb_tells}
use Rattle.rvt_tree.specs.declared.expressions.Variable.{Variable}
use Rattle.rvt_tree.specs.declared.expressions.Variable.TheVariants as V
use Rattle.expression_typing.specs.Progress as p
use Rattle.expression_typing.specs.Progress.{same_variable, is_taken}
use Rattle.file_typing.specs.FunctionNotes.{cells_of_locals}
use Rattle.typing_base.specs.declared.locals.Local.{Local}
use Rattle.typing_base.specs.declared.addresses.Taken.{Taken}
use Rattle.typing_base.specs.NoteViews.{local_view, taken_view}

pub cells_push : (locals : List Local) (local : Local)
    → cells_of_locals (map local_view (locals ++ local ∷ [])) ≡ cells_of_locals (map local_view locals) + local.cells
cells_push locals local = rw map-append (sum_by_push (λ (l : p.Local). l.cells) (map local_view locals) (local_view local))

or_assoc : (a b c : Bool) → a || (b || c) ≡ a || b || c
or_assoc true b c = refl
or_assoc false b c = refl

or_false : (a : Bool) → a || false ≡ a
or_false true = refl
or_false false = refl

or_true : (a : Bool) → a || true ≡ true
or_true true = refl
or_true false = refl

pub taken_push : (list : List Taken) (taken : Taken) (v : Variable)
    → is_taken (map taken_view (list ++ taken ∷ [])) v ≡ is_taken (map taken_view list) v || same_variable taken.variable v
taken_push [] taken v = or_false (same_variable taken.variable v)
taken_push (t ∷ ts) taken v = rw (taken_push ts taken v) (or_assoc (same_variable t.variable v) (is_taken (map taken_view ts) v) (same_variable taken.variable v))

-- the flags of the locals after the address of one is taken
module _ (flags : List Bool) (list : List Taken) (taken : Taken) (n number : ℕ) (room : n < length flags)
    (before : slice_index_or flags number false ≡ is_taken (map taken_view list) (V.Local number)) where
  marked_by : (((nat_eq n number) ≡ true) × (n ≡ number)) ⊎ (((nat_eq n number) ≡ false) × (n ≢ number))
      → slice_index_or (slice_set flags n true) number false ≡ is_taken (map taken_view list) (V.Local number) || nat_eq n number
  marked_by (inl same) = rw (same.0, or_true (is_taken (map taken_view list) (V.Local number))) (subst (λ (k : ℕ). slice_index_or (slice_set flags n true) k false ≡ true) same.1 (get_or-set_same flags n true false room))
  marked_by (inr other) = rw (other.0, or_false (is_taken (map taken_view list) (V.Local number))) (get_or-set_other flags n number true false (λ e. other.1 (sym e)) ∙ before)

  pub marked : (list' : List Taken) → list' ≡ list ++ taken ∷ [] → taken.variable ≡ V.Local n
      → slice_index_or (slice_set flags n true) number false ≡ is_taken (map taken_view list') (V.Local number)
  marked list' pushed is =
      rw (pushed, taken_push list taken (V.Local number)) (subst (λ (v : Variable). slice_index_or (slice_set flags n true) number false ≡ is_taken (map taken_view list) (V.Local number) || same_variable v (V.Local number)) (sym is) (marked_by (eqb_tells n number)))
