-- Tokens, one after another.
use Rattle.std.proofs.Common.{◌≡◌, ℕ, suc, List, ◌∷◌, ◌++◌, [], sym, ◌∙◌, ap, subst, arith, append_assoc}
use Rattle.std.specs.Prelude.{All}
use Rattle.c_lexer.specs.Texts.{text_of}
use Rattle.c_lexer.specs.declared.tokens.Token.{Token}
use Rattle.c_parser.specs.declared.symbol.Token.{Token as Terminal}
use Rattle.c_grammar.specs.declared.grammar.Class.{Class}
use Rattle.c_grammar.specs.Classes.{class_before}
use Rattle.c_grammar.specs.Terminals.{with_token, names_after, number_among, terminals_by}
use Rattle.c_grammar.proofs.Numbers.{settled}

-- what all items of a list have, those behind the first have
pub all_behind : {X : Type 0} (P : X → Type 0) (whole rest : List X) (first : X) → whole ≡ first ∷ rest → All P whole → All P rest
all_behind P whole rest first e all = λ k d h. (subst (All P) e all) (suc k) d (omega (arith, h))

pub all_first : {X : Type 0} (P : X → Type 0) (whole rest : List X) (first : X) → whole ≡ first ∷ rest → All P whole → P first
all_first P whole rest first e all = (subst (All P) e all) 0 first (omega arith)

-- the names of a token and of those behind it
pub known_more : (names new all : List (List ℕ)) (bytes : List ℕ) (whole rest : List Token) (t : Token) → whole ≡ t ∷ rest → new ≡ with_token names bytes t →
    names_after names bytes whole ≡ all → names_after new bytes rest ≡ all
known_more names new all bytes whole rest t e is known =
    ap (λ (ns : List (List ℕ)). names_after ns bytes rest) is ∙ sym (ap (names_after names bytes) e) ∙ known

-- one more token among those that have been made
pub terminal_more : (names all : List (List ℕ)) (bytes : List ℕ) (whole rest : List Token) (t : Token) (class : Class) (name : ℕ) (before done : List (Terminal Class)) →
    whole ≡ t ∷ rest → names_after names bytes whole ≡ all → class ≡ class_before (text_of bytes t) t.class rest → name ≡ number_among names bytes t →
    done ≡ before ++ record { class = class; name = name } ∷ [] →
    done ++ terminals_by all bytes rest ≡ before ++ terminals_by all bytes whole
terminal_more names all bytes whole rest t class name before done e known is number made =
    ap (λ (d : List (Terminal Class)). d ++ terminals_by all bytes rest) made
    ∙ append_assoc before (record { class = class; name = name } ∷ []) (terminals_by all bytes rest)
    ∙ ap (λ (c : Class). before ++ record { class = c; name = name } ∷ terminals_by all bytes rest) is
    ∙ ap (λ (n : ℕ). before ++ record { class = class_before (text_of bytes t) t.class rest; name = n } ∷ terminals_by all bytes rest) (number ∙ counted)
    ∙ sym (ap (λ (w : List Token). before ++ terminals_by all bytes w) e)
  where
    counted : number_among names bytes t ≡ number_among all bytes t
    counted = sym (settled names bytes t rest) ∙ ap (λ (ns : List (List ℕ)). number_among ns bytes t) (sym (ap (names_after names bytes) e) ∙ known)
