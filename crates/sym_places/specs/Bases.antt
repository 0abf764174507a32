-- Where the cells of the objects begin among the mutable cells of all.
use Rattle.std.specs.Prelude.{ℕ, ◌+◌, List, [], ◌∷◌, length}
use Rattle.core_ir.specs.Cells.{mutable_cells}
use Rattle.core_ir.specs.declared.cores.CoreObject.{CoreObject}

-- for each object where its cells begin; those of the first begin at n
abbrev pub bases_from : ℕ → List CoreObject → List ℕ
bases_from n [] = []
bases_from n (x ∷ xs) = n ∷ bases_from (n + length (mutable_cells x)) xs
