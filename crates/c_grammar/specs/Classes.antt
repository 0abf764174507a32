-- What a token is to the grammar.
use Rattle.std.specs.Prelude.{ℕ, Bool, true, false, ◌&&◌, if◌then◌else◌, List, [], ◌∷◌, codes}
use Rattle.std.specs.List.{list_any}
use Rattle.std.specs.Str.{bytes_eq}
use Rattle.c_tokens.specs.declared.tokens.Keyword.{Keyword}
use Rattle.c_tokens.specs.declared.tokens.Keyword.TheVariants as K
use Rattle.c_tokens.specs.declared.tokens.Punctuator.{Punctuator}
use Rattle.c_tokens.specs.declared.tokens.Punctuator.TheVariants as P
use Rattle.c_tokens.specs.declared.tokens.TokenClass.{TokenClass}
use Rattle.c_tokens.specs.declared.tokens.TokenClass.TheVariants as T
use Rattle.c_lexer.specs.declared.tokens.Token.{Token}
use Rattle.c_grammar.specs.declared.grammar.Class.{Class}
use Rattle.c_grammar.specs.declared.grammar.Class.TheVariants as C

-- the names of types that <stddef.h>, <stdbool.h> and <stdint.h> give
abbrev pub built_in_types : List (List ℕ)
built_in_types =
    codes "size_t" ∷ codes "bool" ∷
    codes "int8_t" ∷ codes "int16_t" ∷ codes "int32_t" ∷ codes "int64_t" ∷
    codes "uint8_t" ∷ codes "uint16_t" ∷ codes "uint32_t" ∷ codes "uint64_t" ∷ []

-- a word is a name, or that of a type which is built in
abbrev pub word_class : List ℕ → Class
word_class text = if list_any (λ word. bytes_eq word text) built_in_types then C.TypeName else C.Name

-- each keyword that a line reads has a class of its own
abbrev pub keyword_class : Keyword → Class
keyword_class K.Auto = C.Other
keyword_class K.Break = C.Break
keyword_class K.Case = C.Case
keyword_class K.Char = C.Char
keyword_class K.Const = C.Const
keyword_class K.Continue = C.Continue
keyword_class K.Default = C.Default
keyword_class K.Do = C.Do
keyword_class K.Double = C.Other
keyword_class K.Else = C.Else
keyword_class K.Enum = C.Enum
keyword_class K.Extern = C.Extern
keyword_class K.Float = C.Other
keyword_class K.For = C.For
keyword_class K.Goto = C.Other
keyword_class K.If = C.If
keyword_class K.Inline = C.Inline
keyword_class K.Int = C.Int
keyword_class K.Long = C.Long
keyword_class K.Register = C.Register
keyword_class K.Restrict = C.Restrict
keyword_class K.Return = C.Return
keyword_class K.Short = C.Short
keyword_class K.Signed = C.Signed
keyword_class K.Sizeof = C.Sizeof
keyword_class K.Static = C.Static
keyword_class K.Struct = C.Struct
keyword_class K.Switch = C.Switch
keyword_class K.Typedef = C.Typedef
keyword_class K.Union = C.Other
keyword_class K.Unsigned = C.Unsigned
keyword_class K.Void = C.Void
keyword_class K.Volatile = C.Other
keyword_class K.While = C.While
keyword_class K.Alignas = C.Other
keyword_class K.Alignof = C.Other
keyword_class K.Atomic = C.Other
keyword_class K.Bool = C.Bool
keyword_class K.Complex = C.Other
keyword_class K.Generic = C.Other
keyword_class K.Imaginary = C.Other
keyword_class K.Noreturn = C.Other
keyword_class K.StaticAssert = C.Other
keyword_class K.ThreadLocal = C.Other

abbrev pub punctuator_class : Punctuator → Class
punctuator_class P.LeftBracket = C.LeftBracket
punctuator_class P.RightBracket = C.RightBracket
punctuator_class P.LeftParen = C.LeftParen
punctuator_class P.RightParen = C.RightParen
punctuator_class P.LeftBrace = C.LeftBrace
punctuator_class P.RightBrace = C.RightBrace
punctuator_class P.Dot = C.Dot
punctuator_class P.Arrow = C.Arrow
punctuator_class P.Increment = C.Increment
punctuator_class P.Decrement = C.Decrement
punctuator_class P.Ampersand = C.Ampersand
punctuator_class P.Star = C.Star
punctuator_class P.Plus = C.Plus
punctuator_class P.Minus = C.Minus
punctuator_class P.Tilde = C.Tilde
punctuator_class P.Exclamation = C.Exclamation
punctuator_class P.Slash = C.Slash
punctuator_class P.Percent = C.Percent
punctuator_class P.ShiftLeft = C.ShiftLeft
punctuator_class P.ShiftRight = C.ShiftRight
punctuator_class P.Less = C.Less
punctuator_class P.Greater = C.Greater
punctuator_class P.LessEqual = C.LessEqual
punctuator_class P.GreaterEqual = C.GreaterEqual
punctuator_class P.EqualEqual = C.EqualEqual
punctuator_class P.NotEqual = C.NotEqual
punctuator_class P.Caret = C.Caret
punctuator_class P.Bar = C.Bar
punctuator_class P.AndAnd = C.AndAnd
punctuator_class P.OrOr = C.OrOr
punctuator_class P.Question = C.Question
punctuator_class P.Colon = C.Colon
punctuator_class P.Semicolon = C.Semicolon
punctuator_class P.Ellipsis = C.Other
punctuator_class P.Equal = C.Equal
punctuator_class P.StarEqual = C.StarEqual
punctuator_class P.SlashEqual = C.SlashEqual
punctuator_class P.PercentEqual = C.PercentEqual
punctuator_class P.PlusEqual = C.PlusEqual
punctuator_class P.MinusEqual = C.MinusEqual
punctuator_class P.ShiftLeftEqual = C.ShiftLeftEqual
punctuator_class P.ShiftRightEqual = C.ShiftRightEqual
punctuator_class P.AmpersandEqual = C.AmpersandEqual
punctuator_class P.CaretEqual = C.CaretEqual
punctuator_class P.BarEqual = C.BarEqual
punctuator_class P.Comma = C.Comma

abbrev pub class_of : List ℕ → TokenClass → Class
class_of text T.Word = word_class text
class_of text (T.Keyword keyword) = keyword_class keyword
class_of text (T.Constant value) = C.Constant
class_of text (T.Character value) = C.Constant
class_of text T.Literal = C.Other
class_of text (T.Punct punctuator) = punctuator_class punctuator

abbrev pub is_if : TokenClass → Bool
is_if (T.Keyword K.If) = true
is_if _ = false

abbrev pub is_else : TokenClass → Bool
is_else (T.Keyword K.Else) = true
is_else _ = false

abbrev pub begins_with_if : List Token → Bool
begins_with_if [] = false
begins_with_if (t ∷ ts) = is_if t.class

-- the class of a token that these follow: an `else` before an `if` has a class of its own
abbrev pub class_before : List ℕ → TokenClass → List Token → Class
class_before text class following = if is_else class && begins_with_if following then C.ElseIf else class_of text class

-- ---- what the profile leaves out

abbrev pub is_left_out_keyword : Keyword → Bool
is_left_out_keyword K.Auto = true
is_left_out_keyword K.Double = true
is_left_out_keyword K.Float = true
is_left_out_keyword K.Goto = true
is_left_out_keyword K.Union = true
is_left_out_keyword K.Volatile = true
is_left_out_keyword K.Alignas = true
is_left_out_keyword K.Alignof = true
is_left_out_keyword K.Atomic = true
is_left_out_keyword K.Complex = true
is_left_out_keyword K.Generic = true
is_left_out_keyword K.Imaginary = true
is_left_out_keyword K.Noreturn = true
is_left_out_keyword K.StaticAssert = true
is_left_out_keyword K.ThreadLocal = true
is_left_out_keyword K.Extern = true
is_left_out_keyword K.Static = true
is_left_out_keyword K.Typedef = true
is_left_out_keyword _ = false

abbrev pub is_ellipsis : Punctuator → Bool
is_ellipsis P.Ellipsis = true
is_ellipsis _ = false

-- Where such a token can't stand, it is told that it isn't in the profile.
abbrev pub is_left_out : TokenClass → Bool
is_left_out (T.Keyword keyword) = is_left_out_keyword keyword
is_left_out (T.Punct punctuator) = is_ellipsis punctuator
is_left_out T.Literal = true
is_left_out _ = false
