-- The twins of two files over one table of objects.
use Rattle.std.specs.Prelude.{◌≡◌, ℕ, List, Bool, Some, slice_get}
use Rattle.std.specs.Option.{option_and_then}
use Rattle.rvt_tree.specs.declared.pairings.Pairing.{Pairing}
use Rattle.rvt_tree.specs.declared.programs.Program.{Program}
use Rattle.rvt_tree.specs.Same.{ArePaired}
use Rattle.c_meaning.specs.Promises.{Full, function_versions, loop_versions}
use Rattle.c_meaning.specs.Twins.{StandOverOneTable, IsClosed}
use Rattle.twin_check.specs.Sets.{IsWithin, HasEveryClosed}
use Rattle.one_table.specs.Names.{function_number}
use Rattle.one_table.specs.Candidates.{candidates_of}
use Rattle.one_table.specs.Tables.{HaveOneTable}

-- two functions, the second of which is the first of the new file that has the name of the first
abbrev pub HaveOneName : Program → Program → ℕ → ℕ → Type 0
HaveOneName old new f g = option_and_then (λ function. function_number new.functions function.name) (slice_get old.functions f) ≡ Some g

-- the pairing is the greatest closed set of twins among the candidates of two files that have one table, and each pair is fully equivalent, and so are its loops of one number
pub record AreTwinsOf (old new : Program) (twins : Pairing) : Type 0 where
  pub one_table : HaveOneTable (candidates_of old new) old new
  pub within : IsWithin twins (candidates_of old new)
  pub closed : IsClosed twins old new
  pub greatest : HasEveryClosed old new (candidates_of old new) twins
  pub stand : StandOverOneTable twins old new
  pub names : (f g : ℕ) → ArePaired twins.functions f g → HaveOneName old new f g
  pub full : (f g : ℕ) → ArePaired twins.functions f g → (reached reached' : ℕ → Bool) → Full (function_versions old new f g reached reached')
  pub loops : (f g : ℕ) → ArePaired twins.functions f g → (number : ℕ) (interface : List ℕ) (reached reached' : ℕ → Bool) → Full (loop_versions old new f g number interface reached reached')
