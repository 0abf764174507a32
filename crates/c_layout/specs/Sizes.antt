-- How many cells a type has, counted up to one more than it may have.
use Rattle.std.specs.Prelude.{◌≡◌, ◌≤◌, ℕ, zero, suc, ◌+◌, ◌*◌, min, List, [], ◌∷◌, map, length, drop, slice_get, Option, Some, None, option_map, option_and_then, if◌then◌else◌, true, ⊤}
use Rattle.rvt_tree.specs.declared.types.CType.{CType}
use Rattle.rvt_tree.specs.declared.types.CType.TheVariants.{Word, Pointer, Array', Struct}
use Rattle.rvt_tree.specs.declared.programs.StructDef.{StructDef}
use Rattle.rvt_tree.specs.declared.programs.Structs.{Structs}
use Rattle.c_types.specs.Layout.{Plan}
use Rattle.c_layout.specs.declared.faults.TypeFault.{TypeFault}
use Rattle.c_layout.specs.declared.faults.TypeFault.TheVariants.{Incomplete, TooManyCells, Memory}
use Rattle.c_layout.specs.declared.sizes.Mark.{Mark}
use Rattle.c_layout.specs.declared.sizes.Mark.TheVariants.{New, Open, Sized}
use Rattle.c_layout.specs.declared.sizes.Frame.{Frame}

abbrev pub limited : ℕ → ℕ
limited n = min n 4097

abbrev pub size_of_plan : Plan → ℕ
size_of_plan plan = limited (length plan.cells)

abbrev pub size_with : (ℕ → Option ℕ) → CType → Option ℕ
size_with known (Word kind) = Some 1
size_with known (Pointer pointee constant) = Some 1
size_with known (Array' p element count) = option_map (λ size. limited (count * size)) (size_with known element)
size_with known (Struct number) = known number

abbrev pub size_in_order : (ℕ → Option ℕ) → List CType → Option ℕ
size_in_order known [] = Some 0
size_in_order known (ty ∷ types) = option_and_then (λ first. option_map (λ rest. limited (first + rest)) (size_in_order known types)) (size_with known ty)

abbrev pub size_of_definition : (ℕ → Option ℕ) → Option StructDef → Option ℕ
size_of_definition known None = None
size_of_definition known (Some definition) = if definition.complete then size_in_order known (map (λ field. field.1) definition.fields) else None

-- the size of a struct, where structs stand in one another at most so deep
abbrev pub size_of_struct : Structs → ℕ → ℕ → Option ℕ
size_of_struct structs zero number = None
size_of_struct structs (suc depth) number = size_of_definition (size_of_struct structs depth) (slice_get structs.list number)

-- the struct that a type is, or is an array of
abbrev pub struct_in : CType → Option ℕ
struct_in (Word kind) = None
struct_in (Pointer pointee constant) = None
struct_in (Array' p element count) = struct_in element
struct_in (Struct number) = Some number

-- ---- a walk through the structs

abbrev pub At : {X : Type 0} → List X → ℕ → X → Type 0
At xs k x = slice_get xs k ≡ Some x

-- the sizes that are marked are known
abbrev pub Agrees : List Mark → (ℕ → Option ℕ) → Type 0
Agrees marks known = (number size : ℕ) → At marks number (Sized size) → known number ≡ Some size

abbrev pub sized_count : List Mark → ℕ
sized_count [] = 0
sized_count (New ∷ marks) = sized_count marks
sized_count (Open ∷ marks) = sized_count marks
sized_count (Sized size ∷ marks) = suc (sized_count marks)

abbrev pub new_count : List Mark → ℕ
new_count [] = 0
new_count (New ∷ marks) = suc (new_count marks)
new_count (Open ∷ marks) = new_count marks
new_count (Sized size ∷ marks) = new_count marks

abbrev pub types_of : List (List ℕ × CType) → List CType
types_of fields = map (λ field. field.1) fields

-- the one struct is complete only where the other one is
abbrev pub Needs : Structs → ℕ → ℕ → Type 0
Needs structs outer inner = (depth : ℕ) → size_of_struct structs depth inner ≡ None → size_of_struct structs (suc depth) outer ≡ None

-- what the frame has counted of these fields, together with the rest of them
abbrev pub counted : (ℕ → Option ℕ) → Frame → List CType → Option ℕ
counted known frame types = option_map (λ rest. limited (frame.size + rest)) (size_in_order known (drop frame.next types))

-- the frame is in the midst of a complete struct, and has counted as the definition does
pub record IsCounting (structs : Structs) (marks : List Mark) (frame : Frame) : Type 0 where
  pub definition : StructDef
  pub there : At structs.list frame.number definition
  pub complete : definition.complete ≡ true
  pub few : frame.size ≤ 4097
  pub counts : (depth : ℕ) → sized_count marks ≤ depth →
      counted (size_of_struct structs depth) frame (types_of definition.fields) ≡ size_in_order (size_of_struct structs depth) (types_of definition.fields)

pub record IsWalk (structs : Structs) (marks : List Mark) (frames : List Frame) : Type 0 where
  pub all : length marks ≡ length structs.list
  pub sized : (depth : ℕ) → sized_count marks ≤ depth → Agrees marks (size_of_struct structs depth)
  -- the structs of the frames are open, and no others
  pub is_open : (place : ℕ) (frame : Frame) → At frames place frame → At marks frame.number Open
  pub framed : (number : ℕ) → At marks number Open → (place : ℕ) × (frame : Frame) × At frames place frame × (frame.number ≡ number)
  pub once : (i j : ℕ) (f g : Frame) → At frames i f → At frames j g → f.number ≡ g.number → i ≡ j
  pub counting : (place : ℕ) (frame : Frame) → At frames place frame → IsCounting structs marks frame
  -- each frame's struct needs that of the next frame
  pub nested : (place : ℕ) (outer inner : Frame) → At frames place outer → At frames (suc place) inner → Needs structs outer.number inner.number

-- the last frame's struct needs this one
abbrev pub LastNeeds : Structs → List Frame → ℕ → Type 0
LastNeeds structs frames number = (place : ℕ) (frame : Frame) → At frames place frame → suc place ≡ length frames → Needs structs frame.number number

-- the last frame's struct has the size that its frame has counted
abbrev pub LastIsCounted : Structs → List Mark → List Frame → Type 0
LastIsCounted structs marks frames = (place : ℕ) (frame : Frame) → At frames place frame → suc place ≡ length frames →
    (depth : ℕ) → sized_count marks ≤ depth → size_of_struct structs (suc depth) frame.number ≡ Some frame.size

abbrev pub numbers : List Frame → List ℕ
numbers frames = map (λ frame. frame.number) frames

abbrev pub NewWasNew : List Mark → List Mark → Type 0
NewWasNew before after = (number : ℕ) → At after number New → At before number New

abbrev pub SameFirst : List Frame → List Frame → Type 0
SameFirst before after = (frame : Frame) → At after 0 frame → (first : Frame) × At before 0 first × (frame.number ≡ first.number)

-- the fault is right for each type with this struct in it
abbrev pub IsHopeless : Structs → ℕ → TypeFault → Type 0
IsHopeless structs number Incomplete = (depth : ℕ) → size_of_struct structs depth number ≡ None
IsHopeless structs number TooManyCells = ⊥
IsHopeless structs number Memory = ⊤

abbrev pub IsStuck : Structs → List Frame → TypeFault → Type 0
IsStuck structs frames fault = (place : ℕ) (frame : Frame) → At frames place frame → IsHopeless structs frame.number fault

-- a struct is entered once and left once
abbrev pub steps_left : List Mark → List Frame → ℕ
steps_left marks frames = 2 * new_count marks + length frames
