-- Pairs of functions, and their verdicts.
use Rattle.std.specs.Prelude.{◌≡◌, ℕ, ◌+◌, ◌^◌, ◌<◌, Bool, true, false, not, ◌&&◌, cond, List, [], ◌∷◌, ◌++◌, map, length, drop, Option, Some, None, slice_get}
use Rattle.std.specs.Option.{is_some}
use Rattle.rvt_tree.specs.declared.pairings.Pairing.{Pairing}
use Rattle.rvt_tree.specs.declared.programs.Function.{Function}
use Rattle.rvt_tree.specs.declared.programs.Local.{Local}
use Rattle.c_meaning.specs.Twins.{SameType, SameResult}
use Rattle.loop_interfaces.specs.declared.interfaces.LoopInterface.{LoopInterface}
use Rattle.loop_interfaces.specs.Loops.{loops_of, number_of}
use Rattle.loop_interfaces.specs.NameOrder.{AreInterfaces}
use Rattle.function_pairs.specs.Units.{pair_name}
use Rattle.rvt_run.specs.declared.pairs.Pair.{Pair}
use Rattle.rvt_run.specs.declared.pairs.Verdict.{Verdict}
use Rattle.rvt_run.specs.declared.pairs.Verdict.TheVariants.{Twin, Interface, Bodies}

-- ---- partners: the number of each function's partner in the other file, if it has one

abbrev pub function_at : List Function → Option (Option ℕ) → Option Function
function_at others (Some (Some g)) = slice_get others g
function_at others _ = None

-- the function of the other file that the function of this number is compared with
abbrev pub partner_at : List (Option ℕ) → List Function → ℕ → Option Function
partner_at partners others number = function_at others (slice_get partners number)

abbrev pub is_partner : Option (Option ℕ) → Bool
is_partner (Some (Some g)) = true
is_partner _ = false

abbrev pub is_paired : List (Option ℕ) → ℕ → Bool
is_paired list f = is_partner (slice_get list f)

-- a function with a body that is compared with none
abbrev pub is_alone : List (Option ℕ) → ℕ → Function → Bool
is_alone partners number f = is_some f.body && not (is_paired partners number)

-- ---- verdicts

-- the same types, where structs are paired
abbrev pub SameTypes : Pairing → List Local → List Local → Type 0
SameTypes pairing [] [] = Unit {0}
SameTypes pairing (a ∷ locals) (b ∷ locals') = SameType pairing a.ty b.ty × SameTypes pairing locals locals'
SameTypes pairing _ _ = ⊥

-- two functions with the same types of parameters and of results
pub record SameInterface (pairing : Pairing) (a b : Function) : Type 0 where
  pub params : SameTypes pairing a.params b.params
  pub result : SameResult pairing a.result b.result

-- the verdict of a pair, where the flag says whether it is in the greatest closed set of twins whose loops are twins too
abbrev pub IsVerdict : Pairing → Function → Function → Bool → Verdict → Type 0
IsVerdict pairing old new is_twin Interface = SameInterface pairing old new → ⊥
IsVerdict pairing old new is_twin Twin = SameInterface pairing old new × (is_twin ≡ true)
IsVerdict pairing old new is_twin Bodies = SameInterface pairing old new × (is_twin ≡ false)

-- ---- twins, if the two files have one table

abbrev pub is_twin : Option Pairing → ℕ → Bool
is_twin None f = false
is_twin (Some twins) f = is_paired twins.functions f

-- ---- loops of two functions that are compared

-- a local or parameter by its number
abbrev pub local_of : Function → ℕ → Option Local
local_of function number = slice_get (function.params ++ function.locals) number

-- two locals of one name and of the same type
abbrev pub SameNamedLocal : Pairing → Option Local → Option Local → Type 0
SameNamedLocal pairing (Some a) (Some b) = (a.name ≡ b.name) × SameType pairing a.ty b.ty
SameNamedLocal pairing _ _ = ⊥

abbrev pub SameNamedLocals : Pairing → Function → Function → List ℕ → List ℕ → Type 0
SameNamedLocals pairing f g [] [] = Unit {0}
SameNamedLocals pairing f g (a ∷ locals) (b ∷ locals') = SameNamedLocal pairing (local_of f a) (local_of g b) × SameNamedLocals pairing f g locals locals'
SameNamedLocals pairing f g _ _ = ⊥

-- two loops whose functions have the same type of result, and that stand on locals of the same names and types
pub record SameLoopInterface (pairing : Pairing) (f g : Function) (old_locals new_locals : List ℕ) : Type 0 where
  pub result : SameResult pairing f.result g.result
  pub locals : SameNamedLocals pairing f g old_locals new_locals

-- two loops that carry one number, and whose interfaces are the same locals
abbrev pub AreOneLoop : LoopInterface → LoopInterface → Type 0
AreOneLoop a b = (a.number ≡ b.number) × (a.locals.items ≡ b.locals.items)

-- the verdict of two loops, where the flag says whether their functions are in that set
abbrev pub IsLoopVerdict : Pairing → Function → Function → Bool → LoopInterface → LoopInterface → Verdict → Type 0
IsLoopVerdict pairing f g are_twins a b Interface = SameLoopInterface pairing f g a.locals.items b.locals.items → ⊥
IsLoopVerdict pairing f g are_twins a b Twin = SameLoopInterface pairing f g a.locals.items b.locals.items × (are_twins ≡ true) × AreOneLoop a b
IsLoopVerdict pairing f g are_twins a b Bodies = SameLoopInterface pairing f g a.locals.items b.locals.items × (are_twins ≡ true → AreOneLoop a b → ⊥)

-- ---- the pairs of two files

-- the printed name of two functions, the number of a loop if the pair is one of loops, and the verdict
abbrev pub PairVerdict : Type 0
PairVerdict = List ℕ × Option ℕ × Verdict

abbrev pub said : Pair → PairVerdict
said pair = (pair_name pair.old_name.now pair.new_name.now, pair.loop_number, pair.verdict)

-- the pairs of these loops of two functions: the first with the first, and so on, as far as there are two
abbrev pub AreLoopPairs : Pairing → Function → Function → Bool → List LoopInterface → List LoopInterface → List PairVerdict → Type 0
AreLoopPairs pairing f g are_twins [] others pairs = pairs ≡ []
AreLoopPairs pairing f g are_twins (a ∷ loops) [] pairs = pairs ≡ []
AreLoopPairs pairing f g are_twins (a ∷ loops) (b ∷ others) [] = ⊥
AreLoopPairs pairing f g are_twins (a ∷ loops) (b ∷ others) (pair ∷ pairs) =
    (pair.0 ≡ pair_name f.name g.name) × (pair.1 ≡ Some a.number) × (a.number < 2 ^ 32) × IsLoopVerdict pairing f g are_twins a b pair.2
    × AreLoopPairs pairing f g are_twins loops others pairs

-- the pairs of the loops of two functions
pub record AreLoops (pairing : Pairing) (f g : Function) (are_twins : Bool) (pairs : List PairVerdict) : Type 0 where
  pub old : List LoopInterface
  pub new_side : List LoopInterface
  pub old_are : AreInterfaces f (loops_of f) old
  pub new_are : AreInterfaces g (loops_of g) new_side
  pub are_pairs : AreLoopPairs pairing f g are_twins old new_side pairs

-- the pairs of these functions of the old file, of which the first has this number, in their order, each before those of its loops
pub data ArePairs (pairing : Pairing) (partners : List (Option ℕ)) (new : List Function) (twins : Option Pairing) : ℕ → List Function → List PairVerdict → Type 0 where
  no_more : (i : ℕ) → ArePairs pairing partners new twins i [] []
  skipped : (i : ℕ) (f : Function) (fs : List Function) (pairs : List PairVerdict)
      → partner_at partners new i ≡ None
      → ArePairs pairing partners new twins (i + 1) fs pairs
      → ArePairs pairing partners new twins i (f ∷ fs) pairs
  paired : (i : ℕ) (f : Function) (fs : List Function) (pairs : List PairVerdict) (g : Function) (verdict : Verdict) (loops : List PairVerdict)
      → partner_at partners new i ≡ Some g
      → IsVerdict pairing f g (is_twin twins i) verdict
      → AreLoops pairing f g (is_twin twins i) loops
      → ArePairs pairing partners new twins (i + 1) fs pairs
      → ArePairs pairing partners new twins i (f ∷ fs) ((pair_name f.name g.name, None, verdict) ∷ loops ++ pairs)

-- ---- units of one file that are compared with none

-- how many loops of a function have one of the other file at their side
abbrev pub loops_beside : Option Function → ℕ
loops_beside None = 0
loops_beside (Some g) = length (loops_of g)

abbrev pub loop_numbers : Function → List ℕ
loop_numbers f = map number_of (loops_of f)

-- the function itself, where it has a body and no partner, and each loop of it that has none
abbrev pub units_alone : List (Option ℕ) → List Function → ℕ → Function → List (Option ℕ)
units_alone partners others i f =
    cond (is_alone partners i f) (None ∷ []) [] ++ map (λ number. Some number) (drop (loops_beside (partner_at partners others i)) (loop_numbers f))
