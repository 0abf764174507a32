-- What a map says, and which of its lines is refused.
use Rattle.std.specs.Prelude.{ℕ, ◌+◌, Bool, ◌||◌, if◌then◌else◌, List, [], ◌∷◌, ◌++◌, map, Option, Some, None, Result, Ok, Err}
use Rattle.std.specs.List.{list_any}
use Rattle.std.specs.Str.{bytes_eq}
use Rattle.version_map.specs.declared.map.Listed.{Listed}
use Rattle.version_map.specs.declared.map.Added.{Added}
use Rattle.version_map.specs.declared.map.Map.{Map}
use Rattle.version_map.specs.declared.map.MapFault.{MapFault}
use Rattle.version_map.specs.declared.map.MapFault.TheVariants.{Refused, Memory}
use Rattle.version_map.specs.Texts.{parts}
use Rattle.version_map.specs.Lines.{Saying, nothing, functions, globals, object, saying_of}

-- what the lines of a map say, each with the number of its line
pub record Entries : Type 0 where
  pub functions : List Listed
  pub globals : List Listed
  pub objects : List Added

-- the number of a line, and why it is refused: 41 where it is no line of a map, 42 where it has a name a second time
pub record Refusal : Type 0 where
  pub line : ℕ
  pub cause : ℕ

abbrev pub nothing_said : Entries
nothing_said = record { functions = []; globals = []; objects = [] }

abbrev pub stands_among : List ℕ → List (List ℕ) → Bool
stands_among name names = list_any (bytes_eq name) names

abbrev pub old_names : List Listed → List (List ℕ)
old_names = map (λ (entry : Listed). entry.old)

abbrev pub new_names : List Listed → List (List ℕ)
new_names = map (λ (entry : Listed). entry.new)

abbrev pub object_names : List Added → List (List ℕ)
object_names = map (λ (entry : Added). entry.name)

-- the entries with one more, where no name stands twice
abbrev pub with_listed : List Listed → Listed → Result (List Listed) Refusal
with_listed entries entry =
    if stands_among entry.old (old_names entries) || stands_among entry.new (new_names entries) then Err (record { line = entry.line; cause = 42 })
    else Ok (entries ++ entry ∷ [])

abbrev pub with_added : List Added → Added → Result (List Added) Refusal
with_added entries entry =
    if stands_among entry.name (object_names entries) then Err (record { line = entry.line; cause = 42 }) else Ok (entries ++ entry ∷ [])

abbrev pub on_entries : {T : Type 0} → (T → Entries) → Result T Refusal → Result Entries Refusal
on_entries put (Ok entries) = Ok (put entries)
on_entries put (Err refusal) = Err refusal

-- what was said, with what the line of this number says
abbrev pub with_saying : Entries → ℕ → Saying → Result Entries Refusal
with_saying said number nothing = Ok said
with_saying said number (functions old new) =
    on_entries (λ more. record { functions = more; globals = said.globals; objects = said.objects })
    (with_listed said.functions (record { line = number; old = old; new = new }))
with_saying said number (globals old new) =
    on_entries (λ more. record { functions = said.functions; globals = more; objects = said.objects })
    (with_listed said.globals (record { line = number; old = old; new = new }))
with_saying said number (object name kind count) =
    on_entries (λ more. record { functions = said.functions; globals = said.globals; objects = more })
    (with_added said.objects (record { line = number; name = name; kind = kind; count = count }))

abbrev pub with_sayings : Entries → ℕ → Option Saying → Result Entries Refusal
with_sayings said number (Some saying) = with_saying said number saying
with_sayings said number None = Err (record { line = number; cause = 41 })

-- the same with a line's text
abbrev pub with_line : Entries → ℕ → List ℕ → Result Entries Refusal
with_line said number text = with_sayings said number (saying_of text)

abbrev pub go_on : (Entries → Result Entries Refusal) → Result Entries Refusal → Result Entries Refusal
go_on next (Ok said) = next said
go_on next (Err refusal) = Err refusal

-- what was said by so many lines, with what the lines after them say, one after another: the first that is refused is the answer
abbrev pub with_lines : Entries → ℕ → List (List ℕ) → Result Entries Refusal
with_lines said before [] = Ok said
with_lines said before (text ∷ texts) = go_on (λ more. with_lines more (before + 1) texts) (with_line said (before + 1) text)

-- What a map of these bytes says, or the first line that is refused. Lines end with a line feed; what stands behind the last one is a line too.
abbrev pub map_of : List ℕ → Result Entries Refusal
map_of bytes = with_lines nothing_said 0 (parts 10 bytes)

-- ---- what the code gives

abbrev pub said_in : Map → Entries
said_in it = record { functions = it.functions.items; globals = it.globals.items; objects = it.objects.items }

-- the fault is want of memory, or a line and a cause of which this is said
abbrev pub IfRefused : (Refusal → Type 0) → MapFault → Type 0
IfRefused Says (Refused line cause) = Says (record { line = line; cause = cause })
IfRefused Says Memory = Unit {0}
