-- The tree that the steps of reading a file make of its tokens.
use Rattle.std.specs.Prelude.{◌≡◌, ℕ, min, List, [], ◌∷◌, Option, Some, None, option_map}
use Rattle.std.specs.Option.{option_and_then}
use Rattle.rvt_tree.specs.declared.places.Place.{Place}
use Rattle.c_syntax.specs.Syntax.{ExternalItem}
use Rattle.c_tokens.specs.declared.tokens.TokenClass.{TokenClass}
use Rattle.c_tokens.specs.declared.tokens.TokenClass.TheVariants as T
use Rattle.c_lexer.specs.Texts.{text_of}
use Rattle.c_lexer.specs.declared.tokens.Place.{Place as TokenPlace}
use Rattle.c_lexer.specs.declared.tokens.Token.{Token}
use Rattle.c_parser.specs.declared.symbol.Step.{Step}
use Rattle.c_parser.specs.declared.symbol.Step.TheVariants as S
use Rattle.c_grammar.specs.declared.grammar.Action.{Action}
use Rattle.expression_actions.specs.declared.faults.Fault.{Fault}
use Rattle.expression_actions.specs.declared.faults.Fault.TheVariants as F
use Rattle.file_actions.specs.Made.{made}
use Rattle.file_actions.specs.Stacks.{Values, nothing_read}

-- the place of a token as a tree keeps it: a number stops at 2^32 - 1
abbrev pub tree_place : TokenPlace → Place
tree_place p = record { line = min p.line 4294967295; column = min p.column 4294967295 }

-- what these steps make of the tokens, where a token of this class and text was read last, at this place
abbrev pub after_steps : List ℕ → List Token → TokenClass → List ℕ → Place → List (Step Action) → Values → Option Values
after_steps bytes tokens class text place [] v = Some v
after_steps bytes [] class text place (S.Token ∷ steps) v = None
after_steps bytes (t ∷ tokens) class text place (S.Token ∷ steps) v = after_steps bytes tokens t.class (text_of bytes t) (tree_place t.place) steps v
after_steps bytes tokens class text place (S.Make action ∷ steps) v = option_and_then (after_steps bytes tokens class text place steps) (made action class text place v)

-- the items of a file; no action looks at a token before one has been read
abbrev pub items_of : List ℕ → List Token → List (Step Action) → Option (List ExternalItem)
items_of bytes tokens steps = option_map (λ v. v.externals.items) (after_steps bytes tokens T.Word [] (record { line = 1; column = 1 }) steps nothing_read)

-- a value is missing, or there was no memory
abbrev pub IsMissing : {X : Type 0} → Option X → Fault → Type 0
IsMissing items F.Missing = items ≡ None
IsMissing items F.Memory = Unit {0}
