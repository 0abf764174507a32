-- The rule that a file breaks first, said without the functions that type it: it is broken by the first phrase, in the order
-- of the source, that breaks one (C 6.5 to 6.9).
use Rattle.std.specs.Prelude.{◌≡◌, ◌⊎◌, ◌↔◌, List, [], ◌∷◌, Bool, true, false}
use Rattle.rvt_tree.specs.declared.places.Place.{Place}
use Rattle.c_types.specs.Layout.{Shape}
use Rattle.c_syntax.specs.Syntax as s
use Rattle.c_syntax.specs.declared.bases.Word.{Word}
use Rattle.expression_typing.specs.Entities.{Scope, unevaluated, QualifiedType, in_scope}
use Rattle.expression_typing.specs.Progress.{Notes}
use Rattle.expression_typing.specs.Outcomes.{Cause, Made, Broken, Checking, give, and_then}
use Rattle.expression_typing.specs.FirstTokens.{first_token}
use Rattle.expression_typing.specs.FunctionCalls.{Callee, callee, passed_as, later}
use Rattle.expression_typing.specs.Expressions as e
use Rattle.file_typing.specs.Blocks.{Block}
use Rattle.file_typing.specs.Items as i
use Rattle.file_typing.specs.LocalDeclarations as d
use Rattle.file_typing.specs.Statements as t

-- ---- phrases in order

-- the first phrase of a list that breaks a rule: those before it break none, and each stands where the one before it leaves off
pub data FirstBroken {P S : Type 0} (checked : S → P → Checking S) (cause : Cause) (at : Place) : S → Notes → List P → Type 0 where
  this_one : {here : S} {notes : Notes} {phrase : P} {rest : List P}
      → checked here phrase notes ≡ Broken cause at
      → FirstBroken checked cause at here notes (phrase ∷ rest)
  a_later_one : {here behind : S} {notes noted : Notes} {phrase : P} {rest : List P}
      → checked here phrase notes ≡ Made behind noted
      → FirstBroken checked cause at behind noted rest
      → FirstBroken checked cause at here notes (phrase ∷ rest)

-- no phrase of a list breaks a rule
pub data NoneBroken {P S : Type 0} (checked : S → P → Checking S) : S → Notes → List P → Type 0 where
  the_end : {here : S} {notes : Notes} → NoneBroken checked here notes []
  one_more : {here behind : S} {notes noted : Notes} {phrase : P} {rest : List P}
      → checked here phrase notes ≡ Made behind noted
      → NoneBroken checked behind noted rest
      → NoneBroken checked here notes (phrase ∷ rest)

-- what is made of a phrase is of no account, only what has been noted
abbrev pub checked_alone : {A : Type 0} → Checking A → Checking (Unit {0})
checked_alone made = and_then made (λ _. give tt)

-- ---- the items of a file

abbrev pub FirstItem : Type 0
FirstItem = (items : List s.ExternalItem) (notes : Notes) (cause : Cause) (at : Place)
    → (i.all_items items notes ≡ Broken cause at) ↔ FirstBroken i.typed_item cause at (i.beginning items) notes items

-- ---- the parts of a block: declarations and statements

abbrev pub parts_of : s.BlockItems → List s.BlockItem
parts_of s.no_items = []
parts_of (s.block_item part rest) = part ∷ parts_of rest

abbrev pub part_checked : Block → s.BlockItem → Checking Block
part_checked block part = and_then (t.typed_item block part) (λ made. give made.block)

abbrev pub FirstPart : Type 0
FirstPart = (block : Block) (parts : s.BlockItems) (notes : Notes) (cause : Cause) (at : Place)
    → (t.typed_items block parts notes ≡ Broken cause at) ↔ FirstBroken part_checked cause at block notes (parts_of parts)

-- ---- the declarators of a declaration

abbrev pub declarator_checked : QualifiedType → Block → s.InitDeclarator → Checking Block
declarator_checked base block init = and_then (d.typed_declarator block base init) (λ made. give made.block)

abbrev pub FirstDeclarator : Type 0
FirstDeclarator = (block : Block) (base : QualifiedType) (inits : List s.InitDeclarator) (notes : Notes) (cause : Cause) (at : Place)
    → (d.typed_declarators block base inits notes ≡ Broken cause at) ↔ FirstBroken (declarator_checked base) cause at block notes inits

-- ---- operands, which come before their operator

-- an operand of an expression, and whether it is taken as a value
pub record OperandOf : Type 0 where
  pub scope : Scope
  pub expression : s.Expression
  pub as_value : Bool

abbrev pub taken_as : Bool → Scope → s.Expression → Checking (Unit {0})
taken_as true scope x = checked_alone (e.operand scope x)
taken_as false scope x = checked_alone (e.typed scope x)

abbrev pub operand_checked : Unit {0} → OperandOf → Checking (Unit {0})
operand_checked _ operand = taken_as operand.as_value operand.scope operand.expression

abbrev pub value_of : Scope → s.Expression → OperandOf
value_of scope x = record { scope = scope; expression = x; as_value = true }

abbrev pub place_of : Scope → s.Expression → OperandOf
place_of scope x = record { scope = scope; expression = x; as_value = false }

-- the operands of an operator, from left to right; of suffixes what they follow
abbrev pub operands : Scope → s.Expression → List OperandOf
operands scope (s.parenthesized at inner) = place_of scope inner ∷ []
operands scope (s.postfix primary _) = place_of scope primary ∷ []
operands scope (s.unary op at x) = place_of scope x ∷ []
operands scope (s.sizeof_expression at x) = place_of (unevaluated scope) x ∷ []
operands scope (s.binary op at left right) = value_of scope left ∷ value_of scope right ∷ []
operands scope (s.conditional at test first second) = value_of scope test ∷ value_of scope first ∷ value_of scope second ∷ []
operands scope _ = []

-- an expression breaks the rule that the first of its operands breaks, and a rule of its operator only where none of them breaks one
abbrev pub OperandsFirst : Type 0
OperandsFirst = (scope : Scope) (x : s.Expression) (notes : Notes) (cause : Cause) (at : Place)
    → (FirstBroken operand_checked cause at tt notes (operands scope x) → e.typed scope x notes ≡ Broken cause at)
    × (e.typed scope x notes ≡ Broken cause at → FirstBroken operand_checked cause at tt notes (operands scope x) ⊎ NoneBroken operand_checked tt notes (operands scope x))

-- ---- arguments, each with its conversion

abbrev pub arguments_of : s.Arguments → List s.Expression
arguments_of s.no_arguments = []
arguments_of (s.argument x rest) = x ∷ arguments_of rest

-- an argument, where these parameters are still to come
abbrev pub argument_checked : Scope → List Shape → s.Expression → Checking (List Shape)
argument_checked scope params x = and_then (and_then (e.operand scope x) (passed_as (first_token x) params)) (λ _. give (later params))

-- what is called comes before its arguments, and these before their number
abbrev pub ArgumentsFirst : Type 0
ArgumentsFirst = (scope : Scope) (function : Word) (arguments : s.Arguments) (to : Callee) (notes noted : Notes) (cause : Cause) (at : Place)
    → callee scope function (in_scope scope.names function.name) notes ≡ Made to noted
    → FirstBroken (argument_checked scope) cause at to.params noted (arguments_of arguments)
    → e.typed scope (s.call function arguments) notes ≡ Broken cause at
