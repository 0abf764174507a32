-- The numbers of names.
use Rattle.std.proofs.Common.{◌≡◌, ℕ, ◌+◌, Bool, true, false, cond, List, [], ◌∷◌, ◌++◌, map, refl, sym, ◌∙◌, ap, subst}
use Rattle.std.specs.Prelude.{not, if◌then◌else◌, ◌||◌}
use Rattle.std.specs.Borrow.{Bor}
use Rattle.std.specs.List.{list_any, position_or_len, prefix_len}
use Rattle.std.specs.Str.{bytes_eq}
use Rattle.std.proofs.lemmas.List.{map-append}
use Rattle.std.proofs.lemmas.Slice.Eq.{bytes_eq-Decides}
use Rattle.indexmap.specs.IndexSet.{insert_key}
use Rattle.c_lexer.specs.declared.tokens.Token.{Token}
use Rattle.c_lexer.specs.Texts.{text_of}
use Rattle.c_grammar.specs.Terminals.{is_word, with_name, with_token, names_after, number_among}

-- ---- names as keys of a set

abbrev pub names_of : List (Bor (List ℕ)) → List (List ℕ)
names_of = map (λ key. key.now)

-- a test finds its first name at the same place
pub front_shown : (p : List ℕ → Bool) (keys : List (Bor (List ℕ))) → prefix_len p (names_of keys) ≡ prefix_len (λ (key : Bor (List ℕ)). p key.now) keys
front_shown p [] = refl
front_shown p (key ∷ keys) = ap (λ (n : ℕ). cond (p key.now) (1 + n) 0) (front_shown p keys)

pub place_shown : (p : List ℕ → Bool) (keys : List (Bor (List ℕ))) → position_or_len p (names_of keys) ≡ position_or_len (λ (key : Bor (List ℕ)). p key.now) keys
place_shown p keys = front_shown (λ (x : List ℕ). not (p x)) keys

any_shown : (p : List ℕ → Bool) (keys : List (Bor (List ℕ))) → list_any (λ (key : Bor (List ℕ)). p key.now) keys ≡ list_any p (names_of keys)
any_shown p [] = refl
any_shown p (key ∷ keys) = ap (λ (b : Bool). p key.now || b) (any_shown p keys)

-- a key goes last where it is new
pub added_shown : (name : Bor (List ℕ)) (keys : List (Bor (List ℕ))) → names_of (insert_key (λ (a b : Bor (List ℕ)). bytes_eq a.now b.now) keys name) ≡ with_name (names_of keys) name.now
added_shown name keys = cases (list_any (λ (key : Bor (List ℕ)). bytes_eq name.now key.now) keys) refl
  where
    cases : (b : Bool) → list_any (λ (key : Bor (List ℕ)). bytes_eq name.now key.now) keys ≡ b → names_of (insert_key (λ (a b : Bor (List ℕ)). bytes_eq a.now b.now) keys name) ≡ with_name (names_of keys) name.now
    cases true is =
        ap (λ (b : Bool). names_of (if b then keys else keys ++ name ∷ [])) is
        ∙ sym (ap (λ (b : Bool). if b then names_of keys else names_of keys ++ name.now ∷ []) (sym (any_shown (bytes_eq name.now) keys) ∙ is))
    cases false is =
        ap (λ (b : Bool). names_of (if b then keys else keys ++ name ∷ [])) is
        ∙ map-append (λ (key : Bor (List ℕ)). key.now) keys (name ∷ [])
        ∙ sym (ap (λ (b : Bool). if b then names_of keys else names_of keys ++ name.now ∷ []) (sym (any_shown (bytes_eq name.now) keys) ∙ is))

-- ---- a name's place stays when others come behind it

true_text : (text : List ℕ) → bytes_eq text text ≡ true
true_text text = (bytes_eq-Decides text text).1 refl

-- the first name that passes stands no later than a name that passes
pub at_front : (p : List ℕ → Bool) (names rest : List (List ℕ)) (name : List ℕ) → p name ≡ true → position_or_len p (names ++ name ∷ rest) ≡ position_or_len p names
at_front p [] rest name is = ap (λ (b : Bool). cond (not b) (1 + prefix_len (λ (x : List ℕ). not (p x)) rest) 0) is
at_front p (other ∷ names) rest name is = ap (λ (n : ℕ). cond (not (p other)) (1 + n) 0) (at_front p names rest name is)

found_in : (p : List ℕ → Bool) (names rest : List (List ℕ)) → list_any p names ≡ true → position_or_len p (names ++ rest) ≡ position_or_len p names
found_in p [] rest found = cc
found_in p (name ∷ names) rest found = cases (p name) refl (found_in p names rest)
  where
    cases : (b : Bool) → p name ≡ b → (list_any p names ≡ true → position_or_len p (names ++ rest) ≡ position_or_len p names) → position_or_len p (name ∷ names ++ rest) ≡ position_or_len p (name ∷ names)
    cases true is later = at_front p [] (names ++ rest) name is ∙ sym (at_front p [] names name is)
    cases false is later =
        let behind : list_any p names ≡ true = sym (ap (λ (b : Bool). b || list_any p names) is) ∙ found in
        ap (λ (n : ℕ). cond (not (p name)) (1 + n) 0) (later behind)

any_more : (p : List ℕ → Bool) (names rest : List (List ℕ)) → list_any p names ≡ true → list_any p (names ++ rest) ≡ true
any_more p [] rest found = cc
any_more p (name ∷ names) rest found = cases (p name) refl (any_more p names rest)
  where
    cases : (b : Bool) → p name ≡ b → (list_any p names ≡ true → list_any p (names ++ rest) ≡ true) → list_any p (name ∷ names ++ rest) ≡ true
    cases true is later = ap (λ (b : Bool). b || list_any p (names ++ rest)) is
    cases false is later =
        let behind : list_any p names ≡ true = sym (ap (λ (b : Bool). b || list_any p names) is) ∙ found in
        ap (λ (b : Bool). b || list_any p (names ++ rest)) is ∙ later behind

any_last : (p : List ℕ → Bool) (names : List (List ℕ)) (name : List ℕ) → p name ≡ true → list_any p (names ++ name ∷ []) ≡ true
any_last p [] name is = ap (λ (b : Bool). b || false) is
any_last p (other ∷ names) name is = cases (p other) refl (any_last p names name is)
  where
    cases : (b : Bool) → p other ≡ b → list_any p (names ++ name ∷ []) ≡ true → (p other || list_any p (names ++ name ∷ [])) ≡ true
    cases true found later = ap (λ (b : Bool). b || list_any p (names ++ name ∷ [])) found
    cases false found later = ap (λ (b : Bool). b || list_any p (names ++ name ∷ [])) found ∙ later

-- what holds of the names, and of those with one more at the end, holds with a name
by_name : (P : List (List ℕ) → Type 0) (names : List (List ℕ)) (name : List ℕ) → (list_any (bytes_eq name) names ≡ true → P names) → P (names ++ name ∷ []) → P (with_name names name)
by_name P names name old new = cases (list_any (bytes_eq name) names) refl
  where
    cases : (b : Bool) → list_any (bytes_eq name) names ≡ b → P (with_name names name)
    cases true is = subst P (sym (ap (λ (b : Bool). if b then names else names ++ name ∷ []) is)) (old is)
    cases false is = subst P (sym (ap (λ (b : Bool). if b then names else names ++ name ∷ []) is)) new

pub is_among : (names : List (List ℕ)) (name : List ℕ) → list_any (bytes_eq name) (with_name names name) ≡ true
is_among names name = by_name (λ (ns : List (List ℕ)). list_any (bytes_eq name) ns ≡ true) names name (λ found. found) (any_last (bytes_eq name) names name (true_text name))

same_place : (names : List (List ℕ)) (name : List ℕ) → position_or_len (bytes_eq name) (with_name names name) ≡ position_or_len (bytes_eq name) names
same_place names name =
    by_name (λ (ns : List (List ℕ)). position_or_len (bytes_eq name) ns ≡ position_or_len (bytes_eq name) names) names name (λ found. refl) (at_front (bytes_eq name) names [] name (true_text name))

still_among : (p : List ℕ → Bool) (names : List (List ℕ)) (name : List ℕ) → list_any p names ≡ true → list_any p (with_name names name) ≡ true
still_among p names name found = by_name (λ (ns : List (List ℕ)). list_any p ns ≡ true) names name (λ _. found) (any_more p names (name ∷ []) found)

still_there : (p : List ℕ → Bool) (names : List (List ℕ)) (name : List ℕ) → list_any p names ≡ true → position_or_len p (with_name names name) ≡ position_or_len p names
still_there p names name found = by_name (λ (ns : List (List ℕ)). position_or_len p ns ≡ position_or_len p names) names name (λ _. refl) (found_in p names (name ∷ []) found)

-- ---- the same for tokens

-- what holds of the names, and of those with the token's text, holds with the token
by_token : (P : List (List ℕ) → Type 0) (names : List (List ℕ)) (bytes : List ℕ) (t : Token) → P names → P (with_name names (text_of bytes t)) → P (with_token names bytes t)
by_token P names bytes t old new = cases (is_word t.class) refl
  where
    cases : (b : Bool) → is_word t.class ≡ b → P (with_token names bytes t)
    cases true is = subst P (sym (ap (λ (b : Bool). if b then with_name names (text_of bytes t) else names) is)) new
    cases false is = subst P (sym (ap (λ (b : Bool). if b then with_name names (text_of bytes t) else names) is)) old

pub among_after : (p : List ℕ → Bool) (names : List (List ℕ)) (bytes : List ℕ) (ts : List Token) → list_any p names ≡ true → list_any p (names_after names bytes ts) ≡ true
among_after p names bytes [] found = found
among_after p names bytes (t ∷ ts) found =
    among_after p (with_token names bytes t) bytes ts
    (by_token (λ (ns : List (List ℕ)). list_any p ns ≡ true) names bytes t found (still_among p names (text_of bytes t) found))

there_after : (p : List ℕ → Bool) (names : List (List ℕ)) (bytes : List ℕ) (ts : List Token) → list_any p names ≡ true → position_or_len p (names_after names bytes ts) ≡ position_or_len p names
there_after p names bytes [] found = refl
there_after p names bytes (t ∷ ts) found =
    there_after p (with_token names bytes t) bytes ts
    (by_token (λ (ns : List (List ℕ)). list_any p ns ≡ true) names bytes t found (still_among p names (text_of bytes t) found))
    ∙ by_token (λ (ns : List (List ℕ)). position_or_len p ns ≡ position_or_len p names) names bytes t refl (still_there p names (text_of bytes t) found)

-- A token's number among the names so far is its number among all names of the file.
pub settled : (names : List (List ℕ)) (bytes : List ℕ) (t : Token) (ts : List Token) → number_among (names_after (with_token names bytes t) bytes ts) bytes t ≡ number_among names bytes t
settled names bytes t ts = cases (is_word t.class) refl
  where
    text : List ℕ
    text = text_of bytes t

    cases : (b : Bool) → is_word t.class ≡ b → number_among (names_after (with_token names bytes t) bytes ts) bytes t ≡ number_among names bytes t
    cases false is =
        ap (λ (b : Bool). if b then position_or_len (bytes_eq text) (names_after (with_token names bytes t) bytes ts) else 0) is
        ∙ sym (ap (λ (b : Bool). if b then position_or_len (bytes_eq text) names else 0) is)
    cases true is =
        ap (λ (b : Bool). if b then position_or_len (bytes_eq text) (names_after (with_token names bytes t) bytes ts) else 0) is
        ∙ ap (λ (b : Bool). position_or_len (bytes_eq text) (names_after (if b then with_name names text else names) bytes ts)) is
        ∙ there_after (bytes_eq text) (with_name names text) bytes ts (is_among names text)
        ∙ same_place names text
        ∙ sym (ap (λ (b : Bool). if b then position_or_len (bytes_eq text) names else 0) is)
