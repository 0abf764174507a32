-- The interface of a loop, in the order of names.
use Rattle.std.specs.Prelude.{◌≡◌, ℕ, ◌<◌, ◌⊎◌, ◌↔◌, List, [], ◌∷◌}
use Rattle.rvt_tree.specs.Syntax.{Statement}
use Rattle.rvt_tree.specs.declared.programs.Function.{Function}
use Rattle.c_meaning.specs.Interfaces.{StandsIn, IsBefore, name_of, named_in_loop, declared_in_loop}
use Rattle.loop_interfaces.specs.declared.interfaces.LoopInterface.{LoopInterface}
use Rattle.loop_interfaces.specs.Loops.{number_of}

-- the name of the first is before that of the second in the order of bytes; or they have one name, and the number is lower
abbrev pub StandsBefore : Function → ℕ → ℕ → Type 0
StandsBefore function a b = IsBefore (name_of function a) (name_of function b) ⊎ ((name_of function a ≡ name_of function b) × (a < b))

abbrev pub AreInNameOrder : Function → List ℕ → Type 0
AreInNameOrder function [] = Unit {0}
AreInNameOrder function (a ∷ []) = Unit {0}
AreInNameOrder function (a ∷ (b ∷ rest)) = StandsBefore function a b × AreInNameOrder function (b ∷ rest)

-- these stand in the first list and not in the second
abbrev pub AreOthers : List ℕ → List ℕ → List ℕ → Type 0
AreOthers others numbers excluded = (number : ℕ) → StandsIn number others ↔ (StandsIn number numbers × (StandsIn number excluded → ⊥))

-- the locals that a loop names and that are declared outside it, in the order of their names
pub record IsLoopInterface (function : Function) (loop : Statement) (locals : List ℕ) : Type 0 where
  pub members : AreOthers locals (named_in_loop loop) (declared_in_loop loop)
  pub order : AreInNameOrder function locals

-- the interfaces of these loops, one for each
abbrev pub AreInterfaces : Function → List Statement → List LoopInterface → Type 0
AreInterfaces function [] [] = Unit {0}
AreInterfaces function (loop ∷ loops) (i ∷ interfaces) = (i.number ≡ number_of loop) × IsLoopInterface function loop i.locals.items × AreInterfaces function loops interfaces
AreInterfaces function _ _ = ⊥
