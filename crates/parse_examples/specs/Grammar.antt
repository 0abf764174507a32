-- The grammar and its look-ahead, as tools/tables.py writes them from grammar.txt.
use Rattle.std.specs.Prelude.{ℕ, Bool, true, false, List, [], ◌∷◌, map}
use Rattle.parse_examples.specs.declared.grammar.Class.{Class}
use Rattle.parse_examples.specs.declared.grammar.Class.TheVariants as class
use Rattle.parse_examples.specs.declared.grammar.Line.{Line}
use Rattle.parse_examples.specs.declared.grammar.Line.TheVariants as line
use Rattle.parse_examples.specs.declared.grammar.Action.{Action}
use Rattle.parse_examples.specs.declared.grammar.TheConstants.{FILE, FILE_FIRST, FILE_FOLLOW, ITEMS, ITEMS_FIRST, ITEMS_FOLLOW, ITEM, ITEM_FIRST, ITEM_FOLLOW, ELSE_PART, ELSE_PART_FIRST, ELSE_PART_FOLLOW, LIST, LIST_FIRST, LIST_FOLLOW, MEMBERS, MEMBERS_FIRST, MEMBERS_FOLLOW, MORE_MEMBERS, MORE_MEMBERS_FIRST, MORE_MEMBERS_FOLLOW, MEMBER, MEMBER_FIRST, MEMBER_FOLLOW}
use Rattle.c_parser.specs.Rules.{Row, Rules}
use Rattle.c_parser.specs.LookAhead.{Table}

-- the alternatives of each line
unfoldable pub lines : Line → List (Row Class Line Action)
lines line.File = map (λ row. row.now) FILE
lines line.Items = map (λ row. row.now) ITEMS
lines line.Item = map (λ row. row.now) ITEM
lines line.ElsePart = map (λ row. row.now) ELSE_PART
lines line.List = map (λ row. row.now) LIST
lines line.Members = map (λ row. row.now) MEMBERS
lines line.MoreMembers = map (λ row. row.now) MORE_MEMBERS
lines line.Member = map (λ row. row.now) MEMBER

-- the classes by number
unfoldable pub number : Class → ℕ
number class.Name = 0
number class.TypeName = 1
number class.Typedef = 2
number class.If = 3
number class.Else = 4
number class.LeftParen = 5
number class.RightParen = 6
number class.Comma = 7
number class.Semicolon = 8

unfoldable pub rules : Rules Class Line Action
rules = record { lines = lines; start = line.File; number = number; name = class.Name; type_name = class.TypeName }

-- what may come first in a line
unfoldable pub first : Line → List Class
first line.File = FILE_FIRST
first line.Items = ITEMS_FIRST
first line.Item = ITEM_FIRST
first line.ElsePart = ELSE_PART_FIRST
first line.List = LIST_FIRST
first line.Members = MEMBERS_FIRST
first line.MoreMembers = MORE_MEMBERS_FIRST
first line.Member = MEMBER_FIRST

-- what may come after a line
unfoldable pub follow : Line → List Class
follow line.File = FILE_FOLLOW
follow line.Items = ITEMS_FOLLOW
follow line.Item = ITEM_FOLLOW
follow line.ElsePart = ELSE_PART_FOLLOW
follow line.List = LIST_FOLLOW
follow line.Members = MEMBERS_FOLLOW
follow line.MoreMembers = MORE_MEMBERS_FOLLOW
follow line.Member = MEMBER_FOLLOW

-- whether a line may read nothing
unfoldable pub empty : Line → Bool
empty line.File = false
empty line.Items = true
empty line.Item = false
empty line.ElsePart = true
empty line.List = false
empty line.Members = false
empty line.MoreMembers = false
empty line.Member = false

-- all classes and all lines
unfoldable pub classes : List Class
classes = class.Name ∷ class.TypeName ∷ class.Typedef ∷ class.If ∷ class.Else ∷ class.LeftParen ∷ class.RightParen ∷ class.Comma ∷ class.Semicolon ∷ []

unfoldable pub all_lines : List Line
all_lines = line.File ∷ line.Items ∷ line.Item ∷ line.ElsePart ∷ line.List ∷ line.Members ∷ line.MoreMembers ∷ line.Member ∷ []

unfoldable pub line_number : Line → ℕ
line_number line.File = 0
line_number line.Items = 1
line_number line.Item = 2
line_number line.ElsePart = 3
line_number line.List = 4
line_number line.Members = 5
line_number line.MoreMembers = 6
line_number line.Member = 7

unfoldable pub table : Table Class Line
table = record { first = first; empty = empty; follow = follow; classes = classes; lines = all_lines; line_number = line_number }
