-- The code of initializers (C 6.7.9): the cells of a variable from a slot on, in order. Its zeros stand in the first slots.
use Rattle.std.specs.Prelude.{ℕ, zero, suc, ◌+◌, ◌-◌, List, [], ◌∷◌, ◌++◌, get_or, nat_le, if◌then◌else◌}
use Rattle.rvt_tree.specs.declared.expressions.Variable.{Variable}
use Rattle.rvt_tree.specs.declared.expressions.Variable.TheVariants as V
use Rattle.rvt_tree.specs.Syntax.{Initializer, initial_value, braces, Initializers, no_initializers, initializer}
use Rattle.c_code.specs.Expressions.{value_code}
use Rattle.c_code.specs.declared.instructions.Instruction.{Instruction}
use Rattle.c_code.specs.declared.instructions.Instruction.TheVariants as I

-- how many cells each variable has
pub record Counts : Type 0 where
  pub locals : List ℕ
  pub objects : List ℕ

abbrev pub count_of : Counts → Variable → ℕ
count_of counts (V.Local number) = get_or counts.locals number 0
count_of counts (V.Object number) = get_or counts.objects number 0

abbrev pub least : ℕ → ℕ → ℕ
least a b = if nat_le a b then a else b

-- zeros in place of cells from one on, so many
abbrev pub pad_code : ℕ → ℕ → ℕ → List Instruction
pad_code at zero slot = []
pad_code at (suc n) slot = I.Pad at (suc n) slot ∷ []

abbrev mutual
  -- how many cells an initializer gives in place of so many zeros
  pub cells_in : Initializer → ℕ → ℕ
  cells_in (initial_value e) size = suc (size - 1)
  cells_in (braces members) size = cells_in_members members size

  pub cells_in_members : Initializers → ℕ → ℕ
  cells_in_members no_initializers size = size
  cells_in_members (initializer i own rest) size = cells_in i (least own size) + cells_in_members rest (size - own)

abbrev mutual
  -- the cells in place of the zeros from one on, so many, into the slots from one on
  pub initializer_code : Initializer → ℕ → ℕ → ℕ → List Instruction
  initializer_code (initial_value e) at size slot = value_code e slot 0 ++ pad_code (suc at) (size - 1) (suc slot)
  initializer_code (braces members) at size slot = members_code members at size slot

  pub members_code : Initializers → ℕ → ℕ → ℕ → List Instruction
  members_code no_initializers at size slot = pad_code at size slot
  members_code (initializer i own rest) at size slot =
      initializer_code i at (least own size) slot ++ members_code rest (at + own) (size - own) (slot + cells_in i (least own size))
