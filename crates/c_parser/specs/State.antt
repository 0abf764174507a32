-- How tokens and turns change the state.
use Rattle.std.specs.Prelude.{ℕ, ◌+◌, ◌&&◌, if◌then◌else◌, nat_lt, List, [], ◌∷◌, Option, Some, None}
use Rattle.c_parser.specs.declared.symbol.Effect.{Effect}
use Rattle.c_parser.specs.declared.symbol.Effect.TheVariants as effect
use Rattle.c_parser.specs.declared.symbol.Turn.{Turn}
use Rattle.c_parser.specs.declared.symbol.Turn.TheVariants as turn
use Rattle.c_parser.specs.declared.symbol.Token.{Token}
use Rattle.c_parser.specs.declared.state.State.{State}
use Rattle.c_parser.specs.Names.{is_among, with_names}
use Rattle.c_parser.specs.Rules.{Rules, same}

-- how many levels may be open
abbrev pub max_levels : ℕ
max_levels = 100

-- The class of a token: a name is a typedef name where it is among those that are known.
unfoldable pub class_at : {C L A : Type 0} → Rules C L A → State → Token C → C
class_at rules s t = if same rules t.class rules.name && is_among t.name s.known then rules.type_name else t.class

-- the state after a token, if so many levels may be open
unfoldable pub after : {C : Type 0} → ℕ → Effect → State → Token C → Option State
after limit effect.Nothing s t = Some s
after limit effect.Opens s t = if nat_lt s.level limit then Some (record s { level = s.level + 1 }) else None
after limit effect.Declares s t = Some (record s { fresh = t.name ∷ s.fresh })

abbrev pub left : State → List ℕ → State
left s [] = s
left s (level ∷ outer) = record { known = s.known; fresh = s.fresh; level = level; outer = outer }

unfoldable pub turned : Turn → State → State
turned turn.Learn s = record { known = with_names s.fresh s.known; fresh = []; level = s.level; outer = s.outer }
turned turn.Enter s = record s { outer = s.level ∷ s.outer }
turned turn.Leave s = left s s.outer

-- before the first token
unfoldable pub start : State
start = record { known = []; fresh = []; level = 0; outer = [] }
