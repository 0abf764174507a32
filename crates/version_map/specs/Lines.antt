-- What a line of a map says.
use Rattle.std.specs.Prelude.{ℕ, Bool, true, ◌&&◌, ◌==◌, if◌then◌else◌, List, [], ◌∷◌, codes, Option, Some, None}
use Rattle.std.specs.Option.{option_map}
use Rattle.std.specs.Str.{bytes_eq}
use Rattle.rvt_num.specs.declared.kinds.Kind.{Kind}
use Rattle.version_map.specs.declared.lines.Line.{Line}
use Rattle.version_map.specs.declared.lines.Line.TheVariants as line
use Rattle.version_map.specs.Texts.{parts}
use Rattle.version_map.specs.Words.{is_name, kind_of, count_of}

-- nothing; that two functions are a pair; that two globals are; or that there is an array of this name, kind and length
pub data Saying : Type 0 where
  nothing : Saying
  functions : (old new : List ℕ) → Saying
  globals : (old new : List ℕ) → Saying
  object : (name : List ℕ) (kind : Kind) (count : ℕ) → Saying

-- the line is empty or begins with `#`
abbrev pub is_remark : List ℕ → Bool
is_remark [] = true
is_remark (byte ∷ bytes) = byte == 35

-- `OLD NEW`
abbrev pub two_names : List (List ℕ) → Option (List ℕ × List ℕ)
two_names (old ∷ new ∷ []) = if is_name old && is_name new then Some (old, new) else None
two_names _ = None

abbrev pub with_kind : List ℕ → Option Kind → Option ℕ → Option Saying
with_kind name (Some kind) (Some count) = Some (object name kind count)
with_kind name _ _ = None

-- `NAME KIND COUNT`
abbrev pub object_of : List (List ℕ) → Option Saying
object_of (name ∷ kind ∷ count ∷ []) = if is_name name then with_kind name (kind_of kind) (count_of count) else None
object_of _ = None

-- `function OLD NEW`, `global OLD NEW` or `object NAME KIND COUNT`
abbrev pub said_by : List (List ℕ) → Option Saying
said_by [] = None
said_by (word ∷ words) =
    if bytes_eq word (codes "function") then option_map (λ names. functions names.0 names.1) (two_names words)
    else (if bytes_eq word (codes "global") then option_map (λ names. globals names.0 names.1) (two_names words)
    else (if bytes_eq word (codes "object") then object_of words else None))

-- What a line says, with single spaces between its words; None where it is no line of a map.
abbrev pub saying_of : List ℕ → Option Saying
saying_of text = if is_remark text then Some nothing else said_by (parts 32 text)

-- what the code's line says
abbrev pub line_view : Line → Saying
line_view line.Nothing = nothing
line_view (line.Functions old new) = functions old.now new.now
line_view (line.Globals old new) = globals old.now new.now
line_view (line.Object name kind count) = object name.now kind count
