-- The gates that a literal needs, found from the last node down.
use Rattle.std.specs.Prelude.{ℕ, zero, suc, Bool, true, false, List, length, set, replicate, Some, None, is_some, slice_index_or, if◌then◌else◌}
use Rattle.aig_build.specs.declared.lits.Lit.{Lit}
use Rattle.aig_build.specs.Circuits.{Node}

abbrev pub node_at : List Node → ℕ → Node
node_at nodes n = slice_index_or nodes n None

abbrev pub is_marked : List Bool → ℕ → Bool
is_marked marks n = slice_index_or marks n false

-- the node of the literal is marked where it is a gate
abbrev pub marked : List Node → List Bool → Lit → List Bool
marked nodes marks lit = if is_some (node_at nodes lit.node) then set marks lit.node true else marks

abbrev pub operands_marked : List Node → List Bool → Node → List Bool
operands_marked nodes marks None = marks
operands_marked nodes marks (Some gate) = marked nodes (marked nodes marks gate.0) gate.1

-- a marked gate marks its operands
abbrev pub spread_from : List Node → List Bool → ℕ → List Bool
spread_from nodes marks n = if is_marked marks n then operands_marked nodes marks (node_at nodes n) else marks

-- the first n nodes, from the last of them down
abbrev pub spread_below : List Node → ℕ → List Bool → List Bool
spread_below nodes zero marks = marks
spread_below nodes (suc n) marks = spread_below nodes n (spread_from nodes marks n)

-- which nodes are gates that the literal needs
unfoldable pub needed : List Node → Lit → List Bool
needed nodes lit = spread_below nodes (length nodes) (marked nodes (replicate (length nodes) false) lit)
