-- What was read of expressions and types and has no place in a tree yet. In each list the last stands first.
use Rattle.std.specs.Prelude.{ℕ, Bool, true, false, List, [], Option}
use Rattle.rvt_tree.specs.declared.places.Place.{Place}
use Rattle.c_syntax.specs.declared.bases.Pointer.{Pointer}
use Rattle.c_syntax.specs.declared.bases.Word.{Word}
use Rattle.c_syntax.specs.Syntax.{Expression, Dimension, TypeName}
use Rattle.c_tokens.specs.declared.tokens.TokenClass.{TokenClass}
use Rattle.c_tokens.specs.declared.tokens.TokenClass.TheVariants as T
use Rattle.expression_actions.specs.declared.half_bases.HalfBase.{HalfBase}
use Rattle.expression_actions.specs.declared.kept_tokens.Kept.{Kept}

pub record OperandValues : Type 0 where
  -- names, operators and brackets
  pub kept : List Kept
  pub expressions : List Expression
  -- the arguments of the calls that are open, those of each call in order
  pub arguments : List (List Expression)

pub record TypeValues : Type 0 where
  pub bases : List HalfBase
  pub pointers : List (Option Pointer)
  -- the dimensions of declarators and of types, those of each in order
  pub dims : List (List Dimension)
  pub names : List TypeName

pub record Values : Type 0 where
  pub operands : OperandValues
  pub types : TypeValues

-- ---- tokens that are kept

abbrev pub word_at : List ℕ → Place → Word
word_at text place = record { name = text; place = place }

abbrev pub is_name : TokenClass → Bool
is_name T.Word = true
is_name _ = false

-- only a name's text is kept
abbrev pub kept_text : Bool → List ℕ → List ℕ
kept_text true text = text
kept_text false text = []

abbrev pub kept_token : TokenClass → List ℕ → Place → Kept
kept_token class text place = record { class = class; word = word_at (kept_text (is_name class) text) place }
