-- Names and numbers.
use Rattle.std.proofs.Common.{◌≡◌, ℕ, ◌+◌, ◌-◌, ◌*◌, ◌<◌, Bool, true, false, ◌&&◌, List, [], ◌∷◌, ◌++◌, length, take, map, Option, Some, None, refl, sym, ◌∙◌, ap, arith}
use Rattle.std.specs.Prelude.{nat_le, if◌then◌else◌}
use Rattle.std.proofs.lemmas.List.{append-nil, length-append, length-take-le, take-append-drop, take_all}
use Rattle.c_tokens.specs.declared.front.Front.{Front}
use Rattle.c_tokens.specs.declared.tokens.TokenClass.{TokenClass}
use Rattle.c_tokens.specs.Bytes.{is_digit}
use Rattle.c_tokens.specs.Classes.{token_class, BeginsNoToken}
use Rattle.c_tokens.specs.Fronts.{IsFront}
use Rattle.version_map.specs.declared.words.TheConstants.{KINDS}
use Rattle.version_map.specs.Words.{is_word, is_name, kinds, count_from}

pub kinds_are : map (λ entry. (entry.0.now, entry.1)) KINDS ≡ kinds
kinds_are = refl

pub no_empty_name : (text : List ℕ) → length text ≡ 0 → is_name text ≡ false
unfolding is_name
no_empty_name [] empty = refl
no_empty_name (byte ∷ bytes) empty = absurd (let no : ⊥ = omega (arith, empty) in no)

name_by_class : (text : List ℕ) → 0 < length text → is_name text ≡ is_word (token_class text)
unfolding is_name
name_by_class [] some = absurd (let no : ⊥ = omega (arith, some) in no)
name_by_class (byte ∷ bytes) some = refl

-- a text that is a token is a name where the token is
pub whole : (text : List ℕ) (front : Front) → 0 < length text → front.length ≡ length text → IsFront text front → is_name text ≡ is_word (Some front.class)
whole text front some long is =
    let all : take front.length text ≡ text = take_all front.length text (omega (arith, long)) in
    name_by_class text some ∙ ap is_word (sym (ap token_class all) ∙ is.token.is_token)

-- a text that begins with a shorter token is none
pub short : (text : List ℕ) (front : Front) → 0 < length text → (front.length ≡ length text → ⊥) → IsFront text front → is_name text ≡ false
short text front some apart is =
    let within = is.within in
    let less : front.length < length text = grind arith in
    let taken : length (take front.length text) ≡ front.length = length-take-le front.length text within in
    let none : token_class text ≡ None =
    is.token.longest text [] (take-append-drop front.length text ∙ sym (append-nil text)) (omega (arith, taken, less)) in
    name_by_class text some ∙ ap is_word none

-- a text that begins with no token is no name
pub no_token : (text : List ℕ) → 0 < length text → BeginsNoToken text → is_name text ≡ false
no_token text some none = name_by_class text some ∙ cases (token_class text) refl
  where
    cases : (o : Option TokenClass) → token_class text ≡ o → is_word (token_class text) ≡ false
    cases None is = ap is_word is
    cases (Some class) is = absurd (none text [] class (sym (append-nil text)) (record {
      is_token = is;
      longest = λ longer after e less.
          let long : length (text ++ []) ≡ length longer + length after = ap length e ∙ length-append longer after in
          let same : length (text ++ []) ≡ length text = ap length (append-nil text) in
          absurd (let no : ⊥ = omega (arith, long, same, less) in no);
      apart = λ _. refl;
    }))

above : (value : ℕ) → 4096 < value → (nat_le 1 value && nat_le value 4096) ≡ false
above value large = grind arith

-- more digits make no smaller number
pub too_large : (value : ℕ) (bytes : List ℕ) → 4096 < value → count_from value bytes ≡ None
too_large value [] large = ap (λ (b : Bool). if b then Some value else None) (above value large)
too_large value (byte ∷ bytes) large = cases (is_digit byte) (too_large (10 * value + (byte - 48)) bytes (omega (arith, large)))
  where
    cases : (b : Bool) → count_from (10 * value + (byte - 48)) bytes ≡ None → (if b then count_from (10 * value + (byte - 48)) bytes else None) ≡ None
    cases true rest = rest
    cases false rest = refl
