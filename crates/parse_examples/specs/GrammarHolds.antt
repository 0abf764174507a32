-- The look-ahead is right: the test of it computes to yes.
use Rattle.std.proofs.Common.{◌≡◌, true, Some, refl}
use Rattle.parse_examples.specs.declared.grammar.Class.{Class}
use Rattle.parse_examples.specs.declared.grammar.Class.TheVariants as class
use Rattle.parse_examples.specs.declared.grammar.Line.{Line}
use Rattle.parse_examples.specs.declared.grammar.Line.TheVariants as line
use Rattle.parse_examples.specs.Grammar.{lines, number, rules, first, follow, empty, classes, all_lines, line_number, table}
use Rattle.c_parser.specs.LookAhead.{nth, table_holds, IsRight}

class_at : (c : Class) → nth table.classes (rules.number c) ≡ Some c
unfolding rules table number classes
class_at class.Name = refl
class_at class.TypeName = refl
class_at class.Typedef = refl
class_at class.If = refl
class_at class.Else = refl
class_at class.LeftParen = refl
class_at class.RightParen = refl
class_at class.Comma = refl
class_at class.Semicolon = refl

line_at : (l : Line) → nth table.lines (table.line_number l) ≡ Some l
unfolding table line_number all_lines
line_at line.File = refl
line_at line.Items = refl
line_at line.Item = refl
line_at line.ElsePart = refl
line_at line.List = refl
line_at line.Members = refl
line_at line.MoreMembers = refl
line_at line.Member = refl

holds : table_holds rules table ≡ true
unfolding rules table lines number first follow empty classes all_lines line_number
holds = refl

pub is_right : IsRight rules table
is_right = record { class_at = class_at; line_at = line_at; holds = holds }
