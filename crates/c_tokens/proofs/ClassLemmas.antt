-- The class of a text, by its first byte.
use Rattle.std.proofs.Common.{◌≡◌, ℕ, Bool, true, false, not, ◌&&◌, ◌||◌, cond, eqb, leb, List, [], ◌∷◌, Option, Some, None, refl, sym, ap, ◌∙◌, subst, arith}
use Rattle.std.specs.List.{list_all}
use Rattle.std.specs.Option.{option_map, option_or}
use Rattle.std.proofs.lemmas.Bool.{and_parts, and_left, and_from, or_left, or_right, both_ways, eqb-true, false_from_ne_true}
use Rattle.std.proofs.lemmas.Bool.Decides.{nat_tests}
use Rattle.c_tokens.specs.declared.tokens.Punctuator.{Punctuator}
use Rattle.c_tokens.specs.declared.tokens.TokenClass.{TokenClass}
use Rattle.c_tokens.specs.declared.tokens.TokenClass.TheVariants as class
use Rattle.c_tokens.specs.Bytes.{is_text_byte, is_letter, is_digit, is_name_byte, is_space, is_line_end, is_in_line}
use Rattle.c_tokens.specs.Tables.{keyword_of, punctuator_of}
use Rattle.c_tokens.specs.Classes.{is_name, name_class, token_class}
use Rattle.c_tokens.specs.Constants.{constant_of}
use Rattle.c_tokens.specs.Quotes.{is_literal, character_of, closes, char_number, one_character}
use Rattle.c_tokens.proofs.ConstantLemmas.{constant_bytes, constant_first, no_constant_in_nothing}
use Rattle.c_tokens.proofs.QuoteLemmas.{closes_is, closed_in_line}
use Rattle.rvt_num.specs.Number.{Number}
use Rattle.c_tokens.proofs.Runs.{all-weaker}
use Rattle.c_tokens.proofs.TableLemmas.{is_other, is_quote, no_punctuator, no_empty_punctuator, punctuator_in_line}

-- ---- bytes

pub letter_no_digit : (byte : ℕ) → is_letter byte ≡ true → is_digit byte ≡ false
letter_no_digit byte h = grind (arith, nat_tests)

pub digit_no_letter : (byte : ℕ) → is_digit byte ≡ true → is_letter byte ≡ false
digit_no_letter byte h = false_from_ne_true _ (λ letter. both_ways _ (letter_no_digit byte letter) h)

pub space_no_digit : (byte : ℕ) → is_space byte ≡ true → is_digit byte ≡ false
space_no_digit byte h = grind (arith, nat_tests)

pub space_no_letter : (byte : ℕ) → is_space byte ≡ true → is_letter byte ≡ false
space_no_letter byte h = grind (arith, nat_tests)

pub letter_in_name : (byte : ℕ) → is_letter byte ≡ true → is_name_byte byte ≡ true
letter_in_name byte h = or_left (is_letter byte) (is_digit byte) h

pub digit_in_name : (byte : ℕ) → is_digit byte ≡ true → is_name_byte byte ≡ true
digit_in_name byte h = or_right (is_letter byte) (is_digit byte) h

name_byte_is_other : (byte : ℕ) → is_name_byte byte ≡ true → is_other byte ≡ true
name_byte_is_other byte h = or_left (is_name_byte byte || is_space byte) (is_quote byte) (or_left (is_name_byte byte) (is_space byte) h)

space_is_other : (byte : ℕ) → is_space byte ≡ true → is_other byte ≡ true
space_is_other byte h = or_left (is_name_byte byte || is_space byte) (is_quote byte) (or_right (is_name_byte byte) (is_space byte) h)

quote_is_other : (byte : ℕ) → is_quote byte ≡ true → is_other byte ≡ true
quote_is_other byte h = or_right (is_name_byte byte || is_space byte) (is_quote byte) h

letter_no_quote : (byte : ℕ) → is_letter byte ≡ true → (eqb byte 39 ≡ false) × (eqb byte 34 ≡ false)
letter_no_quote byte h = (grind (arith, nat_tests), grind (arith, nat_tests))

digit_no_quote : (byte : ℕ) → is_digit byte ≡ true → (eqb byte 39 ≡ false) × (eqb byte 34 ≡ false)
digit_no_quote byte h = (grind (arith, nat_tests), grind (arith, nat_tests))

space_no_quote : (byte : ℕ) → is_space byte ≡ true → (eqb byte 39 ≡ false) × (eqb byte 34 ≡ false)
space_no_quote byte h = (grind (arith, nat_tests), grind (arith, nat_tests))

-- ---- names and constants

pub name_all : (text : List ℕ) → is_name text ≡ true → list_all is_name_byte text ≡ true
name_all [] h = refl
name_all (byte ∷ bytes) h =
    let parts = and_parts (is_letter byte) (list_all is_name_byte bytes) h in
    and_from (is_name_byte byte) (list_all is_name_byte bytes) (letter_in_name byte parts.0) parts.1

pub no_name : (byte : ℕ) (bytes : List ℕ) → is_letter byte ≡ false → is_name (byte ∷ bytes) ≡ false
no_name byte bytes h = and_left (is_letter byte) (list_all is_name_byte bytes) h

-- ---- constants, characters and literals

no_constant_by : (byte : ℕ) (bytes : List ℕ) (o : Option Number) → constant_of (byte ∷ bytes) ≡ o → is_digit byte ≡ false → o ≡ None
no_constant_by byte bytes None is h = refl
no_constant_by byte bytes (Some n) is h = absurd (both_ways _ h (constant_first byte bytes n is))

pub no_constant : (byte : ℕ) (bytes : List ℕ) → is_digit byte ≡ false → constant_of (byte ∷ bytes) ≡ None
no_constant byte bytes h = no_constant_by byte bytes (constant_of (byte ∷ bytes)) refl h

or_nothing : {X : Type 0} (o : Option X) → option_or o None ≡ o
or_nothing None = refl
or_nothing (Some x) = refl

cond_some : {X : Type 0} (b : Bool) (o : Option X) (x : X) → cond b o None ≡ Some x → b ≡ true
cond_some true o x h = refl
cond_some false o x h = absurd cc

unless : {X : Type 0} (b : Bool) (o : Option X) → b ≡ false → cond b o None ≡ None
unless b o h = rw h refl

pub no_character : (byte : ℕ) (bytes : List ℕ) → eqb byte 39 ≡ false → character_of (byte ∷ bytes) ≡ None
unfolding character_of
no_character byte bytes h = unless (eqb byte 39 && closes 39 bytes) _ (and_left (eqb byte 39) (closes 39 bytes) h)

pub no_literal : (byte : ℕ) (bytes : List ℕ) → eqb byte 34 ≡ false → is_literal (byte ∷ bytes) ≡ false
unfolding is_literal
no_literal byte bytes h = and_left (eqb byte 34 && closes 34 bytes) (list_all is_text_byte bytes) (and_left (eqb byte 34) (closes 34 bytes) h)

pub no_character_in_nothing : character_of [] ≡ None
unfolding character_of
no_character_in_nothing = refl

pub no_literal_in_nothing : is_literal [] ≡ false
unfolding is_literal
no_literal_in_nothing = refl

-- ---- classes

abbrev class_by : Bool → TokenClass → Option Number → Option Number → Bool → Option Punctuator → Option TokenClass
class_by name named constant character literal punctuator =
    option_or (cond name (Some named) None) (option_or (option_map class.Constant constant) (option_or (option_map class.Character character)
    (option_or (cond literal (Some class.Literal) None) (option_map class.Punct punctuator))))

class_is : (text : List ℕ) (name : Bool) (constant character : Option Number) (literal : Bool) (punctuator : Option Punctuator) → is_name text ≡ name → constant_of text ≡ constant
    → character_of text ≡ character → is_literal text ≡ literal → punctuator_of text ≡ punctuator
    → token_class text ≡ class_by name (name_class (keyword_of text)) constant character literal punctuator
class_is text name constant character literal punctuator n c h l p =
    let named = name_class (keyword_of text) in
    ap (λ b. class_by b named (constant_of text) (character_of text) (is_literal text) (punctuator_of text)) n
    ∙ ap (λ o. class_by name named o (character_of text) (is_literal text) (punctuator_of text)) c
    ∙ ap (λ o. class_by name named constant o (is_literal text) (punctuator_of text)) h
    ∙ ap (λ b. class_by name named constant character b (punctuator_of text)) l
    ∙ ap (λ o. class_by name named constant character literal o) p

pub class_of_name : (text : List ℕ) → is_name text ≡ true → token_class text ≡ Some (name_class (keyword_of text))
class_of_name text h = class_is text true (constant_of text) (character_of text) (is_literal text) (punctuator_of text) h refl refl refl refl

no_class : (text : List ℕ) → is_name text ≡ false → constant_of text ≡ None → character_of text ≡ None → is_literal text ≡ false → punctuator_of text ≡ None → token_class text ≡ None
no_class text n c h l p = class_is text false None None false None n c h l p

pub empty_class : token_class [] ≡ None
empty_class = no_class [] refl no_constant_in_nothing no_character_in_nothing no_literal_in_nothing no_empty_punctuator

pub letter_class : (byte : ℕ) (bytes : List ℕ) → is_letter byte ≡ true → is_name (byte ∷ bytes) ≡ false → token_class (byte ∷ bytes) ≡ None
letter_class byte bytes letter name =
    let quotes = letter_no_quote byte letter in
    no_class (byte ∷ bytes) name (no_constant byte bytes (letter_no_digit byte letter)) (no_character byte bytes quotes.0) (no_literal byte bytes quotes.1)
    (no_punctuator byte bytes (name_byte_is_other byte (letter_in_name byte letter)))

-- by a digit, what begins is a constant or nothing
pub digit_class : (byte : ℕ) (bytes : List ℕ) → is_digit byte ≡ true → token_class (byte ∷ bytes) ≡ option_map class.Constant (constant_of (byte ∷ bytes))
digit_class byte bytes digit =
    let quotes = digit_no_quote byte digit in
    class_is (byte ∷ bytes) false (constant_of (byte ∷ bytes)) None false None (no_name byte bytes (digit_no_letter byte digit)) refl (no_character byte bytes quotes.0) (no_literal byte bytes quotes.1)
    (no_punctuator byte bytes (name_byte_is_other byte (digit_in_name byte digit)))
    ∙ or_nothing (option_map class.Constant (constant_of (byte ∷ bytes)))

-- by a quote, a character constant or nothing
pub quote_class : (bytes : List ℕ) → token_class (39 ∷ bytes) ≡ option_map class.Character (character_of (39 ∷ bytes))
quote_class bytes =
    class_is (39 ∷ bytes) false None (character_of (39 ∷ bytes)) false None refl (no_constant 39 bytes refl) refl (no_literal 39 bytes refl) (no_punctuator 39 bytes refl)
    ∙ or_nothing (option_map class.Character (character_of (39 ∷ bytes)))

-- by a double quote, a literal or nothing
pub double_quote_class : (bytes : List ℕ) → token_class (34 ∷ bytes) ≡ cond (is_literal (34 ∷ bytes)) (Some class.Literal) None
double_quote_class bytes =
    class_is (34 ∷ bytes) false None None (is_literal (34 ∷ bytes)) None refl (no_constant 34 bytes refl) (no_character 34 bytes refl) refl (no_punctuator 34 bytes refl)
    ∙ or_nothing (cond (is_literal (34 ∷ bytes)) (Some class.Literal) None)

pub space_class : (byte : ℕ) (bytes : List ℕ) → is_space byte ≡ true → token_class (byte ∷ bytes) ≡ None
space_class byte bytes space =
    let quotes = space_no_quote byte space in
    no_class (byte ∷ bytes) (no_name byte bytes (space_no_letter byte space)) (no_constant byte bytes (space_no_digit byte space)) (no_character byte bytes quotes.0) (no_literal byte bytes quotes.1)
    (no_punctuator byte bytes (space_is_other byte space))

pub other_class : (byte : ℕ) (bytes : List ℕ) → is_letter byte ≡ false → is_digit byte ≡ false → eqb byte 39 ≡ false → eqb byte 34 ≡ false
    → token_class (byte ∷ bytes) ≡ option_map class.Punct (punctuator_of (byte ∷ bytes))
other_class byte bytes letter digit quote double_quote =
    class_is (byte ∷ bytes) false None None false (punctuator_of (byte ∷ bytes)) (no_name byte bytes letter) (no_constant byte bytes digit) (no_character byte bytes quote) (no_literal byte bytes double_quote) refl

-- ---- no line ends within a token

pub name_byte_in_line : (byte : ℕ) → is_name_byte byte ≡ true → not (is_line_end byte) ≡ true
name_byte_in_line byte h = grind (arith, nat_tests)

names_in_line : (text : List ℕ) → list_all is_name_byte text ≡ true → is_in_line text ≡ true
names_in_line text h = all-weaker is_name_byte (λ byte. not (is_line_end byte)) name_byte_in_line text h

quoted_in_line : (quote byte : ℕ) (bytes : List ℕ) → not (is_line_end quote) ≡ true → eqb byte quote ≡ true → closes quote bytes ≡ true → is_in_line (byte ∷ bytes) ≡ true
quoted_in_line quote byte bytes apart same closed =
    and_from (not (is_line_end byte)) (is_in_line bytes) (subst (λ b. not (is_line_end b) ≡ true) (sym (eqb-true byte quote same)) apart) (closed_in_line quote false bytes (closes_is quote bytes closed))

character_in_line : (text : List ℕ) (n : Number) → character_of text ≡ Some n → is_in_line text ≡ true
unfolding character_of
character_in_line [] n h = refl
character_in_line (byte ∷ bytes) n h =
    let parts = and_parts (eqb byte 39) (closes 39 bytes) (cond_some (eqb byte 39 && closes 39 bytes) _ n h) in
    quoted_in_line 39 byte bytes refl parts.0 parts.1

literal_in_line : (text : List ℕ) → is_literal text ≡ true → is_in_line text ≡ true
unfolding is_literal
literal_in_line [] h = refl
literal_in_line (byte ∷ bytes) h =
    let parts = and_parts (eqb byte 34) (closes 34 bytes) (and_parts (eqb byte 34 && closes 34 bytes) (list_all is_text_byte bytes) h).0 in
    quoted_in_line 34 byte bytes refl parts.0 parts.1

in_line_by : (text : List ℕ) (c : TokenClass) (name : Bool) (constant character : Option Number) (literal : Bool) (punctuator : Option Punctuator) → is_name text ≡ name → constant_of text ≡ constant
    → character_of text ≡ character → is_literal text ≡ literal → punctuator_of text ≡ punctuator → class_by name (name_class (keyword_of text)) constant character literal punctuator ≡ Some c → is_in_line text ≡ true
in_line_by text c true constant character literal punctuator n k h l p e = names_in_line text (name_all text n)
in_line_by text c false (Some number) character literal punctuator n k h l p e = names_in_line text (constant_bytes text number k)
in_line_by text c false None (Some number) literal punctuator n k h l p e = character_in_line text number h
in_line_by text c false None None true punctuator n k h l p e = literal_in_line text l
in_line_by text c false None None false (Some one) n k h l p e = punctuator_in_line text one p
in_line_by text c false None None false None n k h l p e = absurd cc

pub token_in_line : (text : List ℕ) (c : TokenClass) → token_class text ≡ Some c → is_in_line text ≡ true
token_in_line text c is = in_line_by text c (is_name text) (constant_of text) (character_of text) (is_literal text) (punctuator_of text) refl refl refl refl refl is
