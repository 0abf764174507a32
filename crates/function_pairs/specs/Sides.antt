-- What the names of one file stand for.
use Rattle.std.specs.Prelude.{ℕ, ◌+◌, ◌&&◌, if◌then◌else◌, List, [], ◌∷◌, Option, None}
use Rattle.std.specs.Str.{bytes_eq}
use Rattle.rvt_tree.specs.declared.programs.Function.{Function}
use Rattle.function_pairs.specs.declared.partners.Side.{Side}
use Rattle.function_pairs.specs.Defined.{number_in, AreNumbers}
use Rattle.function_pairs.specs.Counterparts.{name_in, AreNames}
use Rattle.function_pairs.specs.FunctionPairs.{is_number}

-- the functions of a file by their names, and what names are called in the other file
pub record IsSide (side : Side) (called : List ℕ → List ℕ) (functions : List Function) : Type 0 where
  pub numbers : AreNumbers side.numbers functions
  pub names : AreNames side.names called

-- the partner of the function of this number and name, by what names stand for on both sides
abbrev pub partner_among : Side → Side → ℕ → List ℕ → Option ℕ
partner_among own other number name =
    if is_number number (number_in name own.numbers) && bytes_eq (name_in (name_in name own.names) other.names) name then number_in (name_in name own.names) other.numbers else None

-- the partners of functions that are numbered from here on
abbrev pub partners_among : Side → Side → ℕ → List Function → List (Option ℕ)
partners_among own other number [] = []
partners_among own other number (f ∷ rest) = partner_among own other number f.name ∷ partners_among own other (number + 1) rest
