-- What the calls on objects do to what contracts see of them.
use Rattle.std.proofs.Common.{◌≡◌, ℕ, ◌+◌, ◌≤◌, List, [], length, map, take, drop, set, nat_lt, Bool, true, false, not, Some, None, if◌then◌else◌, refl, ap, sym, ◌∙◌, subst}
use Rattle.std.proofs.lemmas.List.{length-set}
use Rattle.rvt_num.specs.declared.values.Value.{Value}
use Rattle.rvt_tree.specs.declared.programs.Program.{Program}
use Rattle.c_meaning.specs.Stores.{cleared, overwritten, objects_of, object_cells, object_length, with_object}
use Rattle.flat_memory.specs.Cells.{with_cleared}
use Rattle.flat_memory.specs.declared.extents.Extent.{Extent}
use Rattle.flat_memory.specs.Extents.{extent_of}
use Rattle.flat_memory.specs.Memories.{Contents, IsMemoryOf}
use Rattle.flat_memory.proofs.Cleared.{cleared_count}
use Rattle.flat_memory.proofs.Sharing.{overwritten_length}
use Rattle.flat_memory.proofs.ObjectCells.{no_cells, no_object, length_is, constant_cells, stored_cells, constant_with, stored_with, inside, stored_written, stored_cleared}

abbrev pub contents : Program → List Value → Contents
contents program store = record { program = program; store = store }

not_false : (b : Bool) → not b ≡ false → b ≡ true
not_false true h = refl
not_false false h = absurd (cc)

set_if : (b : Bool) (store : List Value) (at : ℕ) (v : Value) → length (if b then set store at v else store) ≡ length store
set_if true store at v = length-set store at v
set_if false store at v = refl

module _ (program : Program) (extents : List Extent) (constants store : List Value) (memory : IsMemoryOf program extents constants store) (now : Contents) (view : contents program store ≡ now) (number : ℕ) where
  still : (new : List Value) → length new ≡ length store → IsMemoryOf program extents constants new
  still new same = record { lie = memory.lie; hold = memory.hold; fill = same ∙ memory.fill }

  module _ (it : Extent) (h : Some it ≡ extent_of (objects_of now.program) number) where
    there : Some it ≡ extent_of (objects_of program) number
    there = subst (λ c. Some it ≡ extent_of (objects_of c.program) number) (sym view) h

    pub constant_now : it.constant ≡ true → take it.count (drop it.first constants) ≡ object_cells now.program now.store number
    constant_now c =
        ap (λ xs. take it.count (drop it.first xs)) memory.hold
        ∙ constant_cells (objects_of program) store number it there c
        ∙ ap (λ c. object_cells c.program c.store number) view

    pub stored_now : not it.constant ≡ true → take it.count (drop it.first store) ≡ object_cells now.program now.store number
    stored_now c = stored_cells (objects_of program) store number it there c ∙ ap (λ c. object_cells c.program c.store number) view

    pub kept_now : not it.constant ≡ false → (cells : List Value) → now ≡ contents now.program (with_object now.program now.store number cells)
    kept_now c cells =
        subst (λ x. x ≡ contents x.program (with_object x.program x.store number cells)) view
        (ap (contents program) (constant_with (objects_of program) store number it there (not_false it.constant c) cells))

    module _ (c : not it.constant ≡ true) where
      pub write_now : (cell : ℕ) (v : Value) (new : List Value) → new ≡ (if nat_lt cell it.count then set store (it.first + cell) v else store) →
          contents program new ≡ contents now.program (with_object now.program now.store number (set (object_cells now.program now.store number) cell v))
      write_now cell v new is =
          ap (contents program) (is ∙ stored_written (objects_of program) store number it there c cell v)
          ∙ ap (λ x. contents x.program (with_object x.program x.store number (set (object_cells x.program x.store number) cell v))) view

      pub write_still : (cell : ℕ) (v : Value) (new : List Value) → new ≡ (if nat_lt cell it.count then set store (it.first + cell) v else store) → IsMemoryOf program extents constants new
      write_still cell v new is = still new (ap (λ t. length t) is ∙ set_if (nat_lt cell it.count) store (it.first + cell) v)

      pub clear_now : (new : List Value) → new ≡ with_cleared it.first it.count store →
          contents program new ≡ contents now.program (with_object now.program now.store number (map cleared (object_cells now.program now.store number)))
      clear_now new is =
          ap (contents program) (is ∙ stored_cleared (objects_of program) store number it there c)
          ∙ ap (λ x. contents x.program (with_object x.program x.store number (map cleared (object_cells x.program x.store number)))) view

      pub clear_still : (new : List Value) → new ≡ with_cleared it.first it.count store → IsMemoryOf program extents constants new
      clear_still new is = still new (ap (λ t. length t) is ∙ cleared_count it.first it.count store)

      count_is : (cells : List Value) → length cells ≡ object_length now.program number → length cells ≡ it.count
      count_is cells fit =
          subst (λ x. length cells ≡ object_length x.program number) (sym view) fit ∙ sym (length_is (objects_of program) store number it there)

      pub put_ends : (cells : List Value) → length cells ≡ object_length now.program number → it.first + length cells ≤ length store
      put_ends cells fit =
          subst (λ n. it.first + n ≤ length store) (sym (count_is cells fit))
          (subst (λ n. it.first + it.count ≤ n) (sym memory.fill) (inside (objects_of program) store number it there c))

      pub put_now : (cells new : List Value) → new ≡ overwritten store it.first cells → contents program new ≡ contents now.program (with_object now.program now.store number cells)
      put_now cells new is =
          ap (contents program) (is ∙ stored_with (objects_of program) store number it there c cells)
          ∙ ap (λ x. contents x.program (with_object x.program x.store number cells)) view

      pub put_still : (cells new : List Value) → length cells ≡ object_length now.program number → new ≡ overwritten store it.first cells → IsMemoryOf program extents constants new
      put_still cells new fit is = still new (ap (λ t. length t) is ∙ overwritten_length store it.first cells (put_ends cells fit))

  module _ (h : None ≡ extent_of (objects_of now.program) number) where
    nowhere : None ≡ extent_of (objects_of program) number
    nowhere = subst (λ c. None ≡ extent_of (objects_of c.program) number) (sym view) h

    pub none_object : [] ≡ object_cells now.program now.store number
    none_object = no_cells (objects_of program) store number nowhere ∙ ap (λ c. object_cells c.program c.store number) view

    pub none_with : (cells : List Value) → now ≡ contents now.program (with_object now.program now.store number cells)
    none_with cells =
        subst (λ x. x ≡ contents x.program (with_object x.program x.store number cells)) view
        (ap (contents program) (no_object (objects_of program) store number nowhere cells))
