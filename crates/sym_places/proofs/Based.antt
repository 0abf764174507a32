-- The table of bases, and what is found by it.
use Rattle.std.proofs.Common.{◌≡◌, ℕ, zero, suc, ◌+◌, ◌<◌, ◌≤◌, List, [], ◌∷◌, length, Some, None, refl, sym, ap, ◌∙◌, arith, get_or}
use Rattle.std.specs.Prelude.{slice_get}
use Rattle.bit_ops.specs.declared.values.SymValue.{SymValue}
use Rattle.core_ir.specs.Cells.{mutable_cells}
use Rattle.core_ir.specs.Places.{base_of}
use Rattle.core_ir.specs.declared.cores.CoreObject.{CoreObject}
use Rattle.sym_places.specs.Bases.{bases_from}
use Rattle.sym_places.specs.Reads.{cell_held, cell_in}
use Rattle.sym_places.specs.Writes.{with_cell_held, with_cell_in}
use Rattle.sym_store.specs.Stores.{LitStore}

pub bases_long : (n : ℕ) (objects : List CoreObject) → length (bases_from n objects) ≡ length objects
bases_long n [] = refl
bases_long n (x ∷ xs) = ap (λ k. suc k) (bases_long (n + length (mutable_cells x)) xs)

base_at : (n : ℕ) (objects : List CoreObject) (o d : ℕ) → o < length objects → get_or (bases_from n objects) o d ≡ n + base_of objects o
base_at n [] o d p = absurd (omega arith)
base_at n (x ∷ xs) zero d p = omega arith
base_at n (x ∷ xs) (suc o) d p = let rest = base_at (n + length (mutable_cells x)) xs o d (omega arith) in omega (arith, rest)

pub base_is : (objects : List CoreObject) (o d : ℕ) → o < length objects → get_or (bases_from 0 objects) o d ≡ base_of objects o
base_is objects o d p = let there = base_at 0 objects o d p in omega (arith, there)

pub found : (objects : List CoreObject) (o : ℕ) (x : CoreObject) → o < length objects → x ≡ get_or objects o x → slice_get objects o ≡ Some x
found [] o x p e = absurd (omega arith)
found (y ∷ ys) zero x p e = ap (λ z. Some z) (sym e)
found (y ∷ ys) (suc o) x p e = found ys o x (omega arith) e

pub past : (objects : List CoreObject) (o : ℕ) → length objects ≤ o → slice_get objects o ≡ None
past [] o p = refl
past (y ∷ ys) zero p = absurd (omega arith)
past (y ∷ ys) (suc o) p = past ys o (omega arith)

-- what a cell holds, and the store with it set, by the object and its base
pub held_at : (objects : List CoreObject) (bases : List ℕ) (cells : List SymValue) (o c d : ℕ) (x : CoreObject) → bases ≡ bases_from 0 objects → o < length objects → x ≡ get_or objects o x
    → cell_in x (get_or bases o d) cells c ≡ cell_held objects cells o c (slice_get objects o)
held_at objects bases cells o c d x e p f =
    ap (λ bs. cell_in x (get_or bs o d) cells c) e ∙ ap (λ b. cell_in x b cells c) (base_is objects o d p) ∙ ap (cell_held objects cells o c) (sym (found objects o x p f))

pub set_at : (objects : List CoreObject) (bases : List ℕ) (s : LitStore) (o c d : ℕ) (y : SymValue) (x : CoreObject) → bases ≡ bases_from 0 objects → o < length objects → x ≡ get_or objects o x
    → with_cell_in x (get_or bases o d) s c y ≡ with_cell_held objects s o c y (slice_get objects o)
set_at objects bases s o c d y x e p f =
    ap (λ bs. with_cell_in x (get_or bs o d) s c y) e ∙ ap (λ b. with_cell_in x b s c y) (base_is objects o d p) ∙ ap (with_cell_held objects s o c y) (sym (found objects o x p f))
