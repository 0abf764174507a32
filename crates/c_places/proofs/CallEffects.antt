-- What the entry of a function and its return do to the locals and the store.
use Rattle.std.proofs.Common.{◌≡◌, ℕ, List, [], ◌∷◌, ◌++◌, length, map, take, drop, slice_get, Bool, true, Option, Some, ap, sym, ◌∙◌, refl}
use Rattle.rvt_num.specs.declared.values.Value.{Value}
use Rattle.rvt_tree.specs.declared.programs.Program.{Program}
use Rattle.rvt_tree.specs.declared.programs.Function.{Function}
use Rattle.c_meaning.specs.Stores.{objects_of}
use Rattle.c_meaning.specs.Runs.{first_cells, parameter_cells, locals_at_entry, opened, with_arguments, entered}
use Rattle.c_places.specs.declared.ranges.Range.{Range}
use Rattle.c_places.specs.Kept.{Contents, Kept, owned_cells, put_back, kept_of, returned}
use Rattle.c_places.specs.Extents.{owned_ranges}
use Rattle.c_places.specs.Ranges.{cells_in_ranges, with_cleared_ranges, fits, with_ranges}
use Rattle.c_places.specs.Frames.{frame_in}
use Rattle.c_places.proofs.OwnedRanges.{kept_is, cleared_is, put_is}

module _ (program : Program) (number : ℕ) (owned : List Range) (is_owned : owned ≡ owned_ranges number 0 (objects_of program)) where
  pub kept_are : (store : List Value) → cells_in_ranges owned store ≡ owned_cells number (objects_of program) store
  kept_are store = ap (λ ranges. cells_in_ranges ranges store) is_owned ∙ kept_is number (objects_of program) 0 store

  pub opened_are : (store : List Value) → with_cleared_ranges owned store ≡ opened program number store
  opened_are store = ap (λ ranges. with_cleared_ranges ranges store) is_owned ∙ cleared_is number (objects_of program) 0 store

  pub put_owned_is : (cells store now : List Value) (cell_count store_count : ℕ) → cell_count ≡ length cells → store_count ≡ length store →
      true ≡ fits owned cell_count store_count → now ≡ with_ranges owned cells store → now ≡ put_back number (objects_of program) cells store
  put_owned_is cells store now cell_count store_count as_cells as_store fit now_is =
      now_is
      ∙ ap (λ ranges. with_ranges ranges cells store) is_owned
      ∙ put_is number (objects_of program) 0 cells store (sym (fit ∙ ap (λ n. fits owned n store_count) as_cells ∙ ap (λ n. fits owned (length cells) n) as_store ∙ ap (λ ranges. fits ranges (length cells) (length store)) is_owned))
