-- Two words of a file have the same number exactly where they have the same text.
use Rattle.std.proofs.Common.{◌≡◌, ℕ, ◌+◌, zero, suc, Bool, true, false, cond, List, [], ◌∷◌, Some, refl, sym, ◌∙◌, ap, subst, arith}
use Rattle.std.specs.Prelude.{not, if◌then◌else◌, ◌||◌, slice_get}
use Rattle.std.specs.List.{list_any, position_or_len}
use Rattle.std.specs.Str.{bytes_eq}
use Rattle.std.proofs.lemmas.Slice.Eq.{bytes_eq-Decides}
use Rattle.c_lexer.specs.declared.tokens.Token.{Token}
use Rattle.c_lexer.specs.Texts.{text_of}
use Rattle.c_parser.specs.declared.symbol.Token.{Token as Terminal}
use Rattle.c_grammar.specs.declared.grammar.Class.{Class}
use Rattle.c_grammar.specs.Terminals.{is_word, with_name, with_token, names_after, number_among, terminals_by, AreNumbered}
use Rattle.c_grammar.proofs.Numbers.{at_front, is_among, among_after}

name_at : (names : List (List ℕ)) (bytes : List ℕ) (tokens : List Token) (i : ℕ) (a : Token) (x : Terminal Class) → slice_get tokens i ≡ Some a →
    slice_get (terminals_by names bytes tokens) i ≡ Some x → is_word a.class ≡ true → x.name ≡ position_or_len (bytes_eq (text_of bytes a)) names
name_at names bytes [] i a x e f w = cc
name_at names bytes (t ∷ ts) zero a x e f w =
    let same : t ≡ a = cc in
    let name : number_among names bytes t ≡ x.name = cc in
    sym name ∙ ap (number_among names bytes) same ∙ ap (λ (b : Bool). if b then position_or_len (bytes_eq (text_of bytes a)) names else 0) w
name_at names bytes (t ∷ ts) (suc i) a x e f w = name_at names bytes ts i a x e f w

among_at : (names : List (List ℕ)) (bytes : List ℕ) (tokens : List Token) (i : ℕ) (a : Token) → slice_get tokens i ≡ Some a → is_word a.class ≡ true →
    list_any (bytes_eq (text_of bytes a)) (names_after names bytes tokens) ≡ true
among_at names bytes [] i a e w = cc
among_at names bytes (t ∷ ts) zero a e w =
    let same : t ≡ a = cc in
    let this : list_any (bytes_eq (text_of bytes a)) (with_token names bytes a) ≡ true =
    ap (λ (b : Bool). list_any (bytes_eq (text_of bytes a)) (if b then with_name names (text_of bytes a) else names)) w ∙ is_among names (text_of bytes a) in
    among_after (bytes_eq (text_of bytes a)) (with_token names bytes t) bytes ts (subst (λ (t : Token). list_any (bytes_eq (text_of bytes a)) (with_token names bytes t) ≡ true) (sym same) this)
among_at names bytes (t ∷ ts) (suc i) a e w = among_at (with_token names bytes t) bytes ts i a e w

stands : (p : List ℕ → Bool) (names : List (List ℕ)) → list_any p names ≡ true → (y : List ℕ) × (slice_get names (position_or_len p names) ≡ Some y) × (p y ≡ true)
stands p [] found = absurd (let wrong : false ≡ true = found in cc)
stands p (name ∷ names) found = cases (p name) refl (stands p names)
  where
    cases : (b : Bool) → p name ≡ b → (list_any p names ≡ true → (y : List ℕ) × (slice_get names (position_or_len p names) ≡ Some y) × (p y ≡ true)) →
        (y : List ℕ) × (slice_get (name ∷ names) (position_or_len p (name ∷ names)) ≡ Some y) × (p y ≡ true)
    cases true is later = (name, ap (slice_get (name ∷ names)) (at_front p [] names name is), is)
    cases false is later =
        let behind : list_any p names ≡ true = sym (ap (λ (b : Bool). b || list_any p names) is) ∙ found in
        let it = later behind in
        let next : 1 + position_or_len p names ≡ suc (position_or_len p names) = omega arith in
        (it.0, ap (λ (b : Bool). slice_get (name ∷ names) (cond (not b) (1 + position_or_len p names) 0)) is ∙ ap (slice_get (name ∷ names)) next ∙ it.1, it.2)

same_text : (a b : List ℕ) (names : List (List ℕ)) → list_any (bytes_eq a) names ≡ true → list_any (bytes_eq b) names ≡ true →
    position_or_len (bytes_eq a) names ≡ position_or_len (bytes_eq b) names → a ≡ b
same_text a b names with_a with_b e =
    let first = stands (bytes_eq a) names with_a in
    let second = stands (bytes_eq b) names with_b in
    let found : Some first.0 ≡ Some second.0 = sym first.1 ∙ ap (slice_get names) e ∙ second.1 in
    let same : first.0 ≡ second.0 = cc in
    (bytes_eq-Decides a first.0).0 first.2 ∙ same ∙ sym ((bytes_eq-Decides b second.0).0 second.2)

pub numbered : (bytes : List ℕ) (tokens : List Token) → AreNumbered bytes tokens
numbered bytes tokens = λ i j a b x y ea eb ex ey wa wb. cases i j a b x y ea eb wa wb (name_at names bytes tokens i a x ea ex wa) (name_at names bytes tokens j b y eb ey wb)
  where
    names : List (List ℕ)
    names = names_after [] bytes tokens

    cases : (i j : ℕ) (a b : Token) (x y : Terminal Class) → slice_get tokens i ≡ Some a → slice_get tokens j ≡ Some b → is_word a.class ≡ true → is_word b.class ≡ true →
        x.name ≡ position_or_len (bytes_eq (text_of bytes a)) (names_after [] bytes tokens) → y.name ≡ position_or_len (bytes_eq (text_of bytes b)) (names_after [] bytes tokens) →
        (x.name ≡ y.name → text_of bytes a ≡ text_of bytes b) × (text_of bytes a ≡ text_of bytes b → x.name ≡ y.name)
    cases i j a b x y ea eb wa wb ex ey = (
      λ e. same_text (text_of bytes a) (text_of bytes b) (names_after [] bytes tokens) (among_at [] bytes tokens i a ea wa) (among_at [] bytes tokens j b eb wb) (sym ex ∙ e ∙ ey),
      λ e. ex ∙ ap (λ (text : List ℕ). position_or_len (bytes_eq text) (names_after [] bytes tokens)) e ∙ sym ey,
    )
