-- What may stand for what in two files: functions by their names, objects and structs by their numbers.
use Rattle.std.specs.Prelude.{ℕ, zero, suc, ◌+◌, List, [], ◌∷◌, ◌++◌, length, Bool, false, nat_eq, if◌then◌else◌, Option, Some, None}
use Rattle.rvt_tree.specs.declared.pairings.Pairing.{Pairing}
use Rattle.rvt_tree.specs.declared.programs.Program.{Program}
use Rattle.rvt_tree.specs.declared.programs.Function.{Function}
use Rattle.one_table.specs.Names.{function_number}

abbrev pub is_number : ℕ → Option ℕ → Bool
is_number number (Some n) = nat_eq number n
is_number number None = false

-- the partner of the function of this number and name: the first function of the name in the new file, if it is itself the first of its name
abbrev pub partner_of : List Function → List Function → ℕ → List ℕ → Option ℕ
partner_of old new number name = if is_number number (function_number old name) then function_number new name else None

-- the partners of functions that are numbered from here on
abbrev pub partners_from : List Function → List Function → ℕ → List Function → List (Option ℕ)
partners_from old new number [] = []
partners_from old new number (f ∷ rest) = partner_of old new number f.name ∷ partners_from old new (number + 1) rest

-- each number below the count with itself
abbrev pub by_number : ℕ → List (Option ℕ)
by_number zero = []
by_number (suc n) = by_number n ++ Some n ∷ []

abbrev pub candidates_of : Program → Program → Pairing
candidates_of old new = record {
  functions = partners_from old.functions new.functions 0 old.functions;
  objects = by_number (length old.table.objects);
  structs = by_number (length old.structs.list);
}
