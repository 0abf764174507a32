-- Which functions of two files are paired.
use Rattle.std.specs.Prelude.{ℕ, ◌+◌, Bool, false, ◌&&◌, if◌then◌else◌, nat_eq, List, [], ◌∷◌, Option, Some, None}
use Rattle.std.specs.Str.{bytes_eq}
use Rattle.rvt_tree.specs.declared.programs.Function.{Function}
use Rattle.version_map.specs.declared.map.Listed.{Listed}
use Rattle.function_pairs.specs.declared.pairs.FunctionPairs.{FunctionPairs}
use Rattle.function_pairs.specs.Defined.{defined_number}
use Rattle.function_pairs.specs.Counterparts.{new_name, old_name}

abbrev pub is_number : ℕ → Option ℕ → Bool
is_number number (Some n) = nat_eq number n
is_number number None = false

-- The partner of the function of this number and name, if it has a body: the function of the other file with a body that
-- has the name's counterpart, where each of the two names is called the other in the other file.
abbrev pub partner_of : (List ℕ → List ℕ) → (List ℕ → List ℕ) → List Function → List Function → ℕ → List ℕ → Option ℕ
partner_of there back own others number name =
    if is_number number (defined_number own name) && bytes_eq (back (there name)) name then defined_number others (there name) else None

-- the partners of functions that are numbered from here on
abbrev pub partners_from : (List ℕ → List ℕ) → (List ℕ → List ℕ) → List Function → List Function → ℕ → List Function → List (Option ℕ)
partners_from there back own others number [] = []
partners_from there back own others number (f ∷ rest) = partner_of there back own others number f.name ∷ partners_from there back own others (number + 1) rest

-- the partner of each function of the old file, and of each function of the new one
abbrev pub pairs_of : List Listed → List Function → List Function → FunctionPairs
pairs_of lines old new = record {
  of_old = partners_from (new_name lines) (old_name lines) old new 0 old;
  of_new = partners_from (old_name lines) (new_name lines) new old 0 new;
}
