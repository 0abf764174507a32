-- Types of pointees that are marked.
use Rattle.std.specs.Prelude.{◌≡◌, ◌↔◌, ℕ, ◌+◌, ◌*◌, ◌<◌, All, slice_get, List, [], ◌∷◌, get_or, Bool, true, false, if◌then◌else◌, ◌||◌, Option, Some, None, option_map}
use Rattle.rvt_num.specs.declared.kinds.Kind.{Kind}
use Rattle.rvt_num.specs.Kinds.{width, is_signed}
use Rattle.rvt_tree.specs.declared.types.Pointee.{Pointee}
use Rattle.rvt_tree.specs.declared.types.Pointee.TheVariants as P
use Rattle.rvt_tree.specs.declared.types.CType.{CType}
use Rattle.rvt_tree.specs.declared.types.CType.TheVariants.{Word, Pointer, Array', Struct}
use Rattle.rvt_tree.specs.declared.pairings.Pairing.{Pairing}
use Rattle.rvt_tree.specs.declared.programs.Program.{Program}
use Rattle.rvt_tree.specs.declared.programs.Function.{Function}
use Rattle.rvt_tree.specs.Views.{stmt_view}
use Rattle.c_types.specs.Layout.{Begin, Plan, is_of_pointee}
use Rattle.c_meaning.specs.Stores.{objects_of, begins_at}
use Rattle.rvt_tree.specs.Same.{ArePaired}
use Rattle.body_pointees.specs.Pointees.{body_pointees}
use Rattle.twin_laws.specs.Touches.{is_addressable, TouchesPaired}
use Rattle.twin_candidates.specs.declared.marks.Marks.{Marks}

-- kinds of one width and sign have one place
abbrev pub place_of : Kind → ℕ
place_of kind = width kind * 2 + (if is_signed kind then 1 else 0)

abbrev pub marked : Marks → Pointee → Bool
marked marks (P.Word kind) = get_or marks.words.items (place_of kind) false
marked marks (P.Struct number) = get_or marks.structs.items number false

-- what a pointer to a value of the type points to, where there are such pointers
abbrev pub pointee_of : CType → Option Pointee
pointee_of (Word kind) = Some (P.Word kind)
pointee_of (Pointer pointee constant) = None
pointee_of (Array' p element count) = None
pointee_of (Struct number) = Some (P.Struct number)

-- a value of the pointee type begins at some cell
abbrev pub is_among : Pointee → List Begin → Bool
is_among pointee [] = false
is_among pointee (start ∷ starts) = is_of_pointee pointee start.what || is_among pointee starts

abbrev pub begins_somewhere : Pointee → Option Plan → Bool
begins_somewhere pointee None = false
begins_somewhere pointee (Some plan) = is_among pointee plan.starts

-- objects that are paired, and nothing else
abbrev pub objects_paired : List (Option ℕ) → Pairing
objects_paired objects = record { functions = []; objects = objects; structs = [] }

-- a pointer to the type touches paired objects alone among the first so many
abbrev pub TouchesBelow : Program → List (Option ℕ) → ℕ → Pointee → Type 0
TouchesBelow program objects count pointee =
    (number cell : ℕ) → number < count → is_addressable (slice_get (objects_of program) number) ≡ true → begins_at program pointee number cell ≡ true → ArePaired objects number number

-- a type is marked where a pointer to it may touch an object that isn't paired, among the first so many
abbrev pub MarksBelow : Program → List (Option ℕ) → Marks → ℕ → Type 0
MarksBelow program objects marks count = (pointee : Pointee) → (marked marks pointee ≡ false) ↔ TouchesBelow program objects count pointee

-- the same among all
abbrev pub MarksChanged : Program → List (Option ℕ) → Marks → Type 0
MarksChanged program objects marks = (pointee : Pointee) → (marked marks pointee ≡ false) ↔ TouchesPaired (objects_paired objects) program pointee

-- a function dereferences no pointer to a marked type
abbrev pub AvoidsMarked : Marks → Option Function → Type 0
AvoidsMarked marks None = Unit {0}
AvoidsMarked marks (Some function) = All (λ pointee. marked marks pointee ≡ false) (body_pointees (option_map stmt_view function.body))
