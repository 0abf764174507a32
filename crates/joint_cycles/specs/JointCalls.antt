-- The calls of two files in which paired functions are one.
use Rattle.std.specs.Prelude.{◌≡◌, ℕ, ◌+◌, ◌-◌, ◌<◌, nat_lt, List, [], ◌∷◌, ◌++◌, map, filter, length, Option, Some, None, option_map, slice_get}
use Rattle.rvt_tree.specs.declared.programs.Function.{Function}
use Rattle.rvt_tree.specs.Views.{stmt_view}
use Rattle.rvt_tree.specs.Same.{ArePaired}
use Rattle.body_calls.specs.Calls.{body_calls}
use Rattle.function_pairs.specs.declared.pairs.FunctionPairs.{FunctionPairs}

-- ---- nodes: one for each pair of functions, and one for each function of one file alone

-- the node of a function of the new file: its partner's number; where it has none, its own, behind those of so many of the old file
abbrev pub node_by : ℕ → ℕ → Option (Option ℕ) → ℕ
node_by old_count number (Some (Some partner)) = partner
node_by old_count number _ = old_count + number

abbrev pub new_node : List (Option ℕ) → ℕ → ℕ → ℕ
new_node of_new old_count number = node_by old_count number (slice_get of_new number)

-- ---- edges: the calls of either file

-- the functions of a file of so many that a function calls
abbrev pub called_by : ℕ → Function → List ℕ
called_by count f = filter (λ callee. nat_lt callee count) (body_calls (option_map stmt_view f.body))

module _ (pairs : FunctionPairs) (old new : List Function) where
  -- the nodes that a function of the new file calls
  abbrev pub nodes_called : Function → List ℕ
  nodes_called g = map (new_node pairs.of_new (length old)) (called_by (length new) g)

  abbrev pub nodes_called_there : Option Function → List ℕ
  nodes_called_there (Some g) = nodes_called g
  nodes_called_there None = []

  abbrev pub nodes_called_by_partner : Option (Option ℕ) → List ℕ
  nodes_called_by_partner (Some (Some partner)) = nodes_called_there (slice_get new partner)
  nodes_called_by_partner _ = []

  -- the nodes that the function of this number of the old file calls, or its partner
  abbrev pub old_row : ℕ → Function → List ℕ
  old_row number f = called_by (length old) f ++ nodes_called_by_partner (slice_get pairs.of_old number)

  abbrev pub row_alone : Option (Option ℕ) → Function → List ℕ
  row_alone (Some (Some partner)) g = []
  row_alone _ g = nodes_called g

  -- the nodes that the function of this number of the new file calls, if it is in no pair
  abbrev pub new_row : ℕ → Function → List ℕ
  new_row number g = row_alone (slice_get pairs.of_new number) g

abbrev pub rows_from : (ℕ → Function → List ℕ) → ℕ → List Function → List (List ℕ)
rows_from row number [] = []
rows_from row number (f ∷ rest) = row number f ∷ rows_from row (number + 1) rest

-- the nodes that each node calls; a function of the new file that is in a pair calls none as a node of its own
abbrev pub joint_calls : FunctionPairs → List Function → List Function → List (List ℕ)
joint_calls pairs old new = rows_from (old_row pairs old new) 0 old ++ rows_from (new_row pairs old new) 0 new

-- the partners of functions of the new file are functions of the old one
abbrev pub ArePartnersOf : List (Option ℕ) → ℕ → Type 0
ArePartnersOf of_new old_count = (g f : ℕ) → ArePaired of_new g f → f < old_count

-- ---- names

abbrev pub name_at : List Function → ℕ → Option (List ℕ)
name_at functions number = option_map (λ (f : Function). f.name) (slice_get functions number)

abbrev pub name_or : Option (List ℕ) → Option (List ℕ) → Option (List ℕ)
name_or (Some name) other = Some name
name_or None other = other

-- the name of a node: that of the function of the old file, where it has one there
abbrev pub node_name : List Function → List Function → ℕ → Option (List ℕ)
node_name old new node = name_or (name_at old node) (name_at new (node - length old))
