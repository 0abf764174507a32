-- The pairs of functions and the functions in no pair, in order, and how pairs are called.
use Rattle.std.specs.Prelude.{ℕ, ◌+◌, Bool, true, false, not, ◌&&◌, cond, if◌then◌else◌, List, [], ◌∷◌, ◌++◌, codes, Option, Some, None, slice_get}
use Rattle.std.specs.Option.{is_some}
use Rattle.std.specs.Str.{bytes_eq}
use Rattle.rvt_tree.specs.declared.programs.Function.{Function}
use Rattle.function_pairs.specs.declared.pairs.Pair.{Pair}

-- the pairs of functions that are numbered from here on, by the partner of each
abbrev pub pairs_from : ℕ → List (Option ℕ) → List Pair
pairs_from number [] = []
pairs_from number (Some partner ∷ rest) = (record { old = number; new = partner }) ∷ pairs_from (number + 1) rest
pairs_from number (None ∷ rest) = pairs_from (number + 1) rest

abbrev pub is_partner : Option (Option ℕ) → Bool
is_partner (Some (Some g)) = true
is_partner _ = false

-- a function with a body that has no partner
abbrev pub is_alone : List (Option ℕ) → ℕ → Function → Bool
is_alone partners number f = is_some f.body && not (is_partner (slice_get partners number))

-- the numbers of those of them that are numbered from here on
abbrev pub alone_from : List (Option ℕ) → ℕ → List Function → List ℕ
alone_from partners number [] = []
alone_from partners number (f ∷ rest) = cond (is_alone partners number f) (number ∷ alone_from partners (number + 1) rest) (alone_from partners (number + 1) rest)

-- how a pair of functions of these names is called
abbrev pub pair_name : List ℕ → List ℕ → List ℕ
pair_name old new = if bytes_eq old new then old else old ++ codes " -> " ++ new
