-- What a token says as an operator (C 6.5) or as a word of a type (C 6.7.2). The grammar asks it of such tokens alone,
-- so the last clause of each speaks of one token.
use Rattle.c_syntax.specs.declared.bases.TypeWord.{TypeWord}
use Rattle.c_syntax.specs.declared.bases.TypeWord.TheVariants as W
use Rattle.c_syntax.specs.declared.operators.Infix.{Infix}
use Rattle.c_syntax.specs.declared.operators.Infix.TheVariants as I
use Rattle.c_syntax.specs.declared.operators.Prefix.{Prefix}
use Rattle.c_syntax.specs.declared.operators.Prefix.TheVariants as U
use Rattle.c_syntax.specs.declared.operators.Setting.{Setting}
use Rattle.c_syntax.specs.declared.operators.Setting.TheVariants as S
use Rattle.c_syntax.specs.declared.operators.Step.{Step}
use Rattle.c_syntax.specs.declared.operators.Step.TheVariants as B
use Rattle.c_tokens.specs.declared.tokens.Keyword.{Keyword}
use Rattle.c_tokens.specs.declared.tokens.Keyword.TheVariants as K
use Rattle.c_tokens.specs.declared.tokens.Punctuator.{Punctuator}
use Rattle.c_tokens.specs.declared.tokens.Punctuator.TheVariants as P
use Rattle.c_tokens.specs.declared.tokens.TokenClass.{TokenClass}
use Rattle.c_tokens.specs.declared.tokens.TokenClass.TheVariants as T

abbrev pub prefix_by : Punctuator → Prefix
prefix_by P.Plus = U.Plus
prefix_by P.Minus = U.Minus
prefix_by P.Tilde = U.Complement
prefix_by P.Exclamation = U.Not
prefix_by P.Star = U.Target
prefix_by _ = U.Address

abbrev pub prefix_of : TokenClass → Prefix
prefix_of (T.Punct punctuator) = prefix_by punctuator
prefix_of _ = U.Address

abbrev pub infix_by : Punctuator → Infix
infix_by P.Star = I.Multiply
infix_by P.Slash = I.Divide
infix_by P.Percent = I.Remainder
infix_by P.Plus = I.Add
infix_by P.Minus = I.Subtract
infix_by P.ShiftLeft = I.ShiftLeft
infix_by P.ShiftRight = I.ShiftRight
infix_by P.Less = I.Less
infix_by P.Greater = I.Greater
infix_by P.LessEqual = I.LessEqual
infix_by P.GreaterEqual = I.GreaterEqual
infix_by P.EqualEqual = I.Equal
infix_by P.NotEqual = I.NotEqual
infix_by P.Ampersand = I.And
infix_by P.Caret = I.Xor
infix_by P.Bar = I.Or
infix_by P.AndAnd = I.Both
infix_by _ = I.Either

abbrev pub infix_of : TokenClass → Infix
infix_of (T.Punct punctuator) = infix_by punctuator
infix_of _ = I.Either

abbrev pub setting_by : Punctuator → Setting
setting_by P.Equal = S.Plain
setting_by P.StarEqual = S.Multiply
setting_by P.SlashEqual = S.Divide
setting_by P.PercentEqual = S.Remainder
setting_by P.PlusEqual = S.Add
setting_by P.MinusEqual = S.Subtract
setting_by P.ShiftLeftEqual = S.ShiftLeft
setting_by P.ShiftRightEqual = S.ShiftRight
setting_by P.AmpersandEqual = S.And
setting_by P.CaretEqual = S.Xor
setting_by _ = S.Or

abbrev pub setting_of : TokenClass → Setting
setting_of (T.Punct punctuator) = setting_by punctuator
setting_of _ = S.Or

abbrev pub step_by : Punctuator → Step
step_by P.Increment = B.Up
step_by _ = B.Down

abbrev pub step_of : TokenClass → Step
step_of (T.Punct punctuator) = step_by punctuator
step_of _ = B.Down

abbrev pub type_word_by : Keyword → TypeWord
type_word_by K.Void = W.Void
type_word_by K.Char = W.Char
type_word_by K.Short = W.Short
type_word_by K.Int = W.Int
type_word_by K.Long = W.Long
type_word_by K.Signed = W.Signed
type_word_by K.Unsigned = W.Unsigned
type_word_by _ = W.Bool

abbrev pub type_word_of : TokenClass → TypeWord
type_word_of (T.Keyword keyword) = type_word_by keyword
type_word_of _ = W.Bool
