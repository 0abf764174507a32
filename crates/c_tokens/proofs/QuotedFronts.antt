-- Character constants and string literals at the front of a text.
use Rattle.std.proofs.Common.{◌≡◌, ℕ, zero, suc, ◌+◌, ◌-◌, ◌<◌, ◌≤◌, Bool, true, false, ◌&&◌, cond, eqb, List, [], ◌∷◌, ◌++◌, length, get_or, take, drop, Option, Some, None, refl, sym, ap, ◌∙◌, subst, arith}
use Rattle.std.specs.List.{list_all, prefix_len}
use Rattle.std.specs.Option.{option_map, is_some}
use Rattle.std.proofs.lemmas.Bool.{and_parts, and_from, and_right}
use Rattle.std.proofs.lemmas.List.{length-take-le, take_at, take-append-drop, take-append-le}
use Rattle.rvt_num.specs.Number.{Number}
use Rattle.c_tokens.specs.declared.front.Front.{Front}
use Rattle.c_tokens.specs.declared.front.NoToken.TheVariants.{BadByte}
use Rattle.c_tokens.specs.declared.tokens.TokenClass.{TokenClass}
use Rattle.c_tokens.specs.declared.tokens.TokenClass.TheVariants as class
use Rattle.c_tokens.specs.Bytes.{is_text_byte}
use Rattle.c_tokens.specs.Classes.{token_class, IsTokenBefore, BeginsNoToken}
use Rattle.c_tokens.specs.Constants.{constant_of}
use Rattle.c_tokens.specs.Fronts.{IsFront, why_none}
use Rattle.c_tokens.specs.Quotes.{to_quote, closes, is_literal, character_of, char_number, one_character}
use Rattle.c_tokens.proofs.ClassLemmas.{no_constant, empty_class, quote_class, double_quote_class}
use Rattle.c_tokens.proofs.FrontLemmas.{not_none, same_first, no_some}
use Rattle.c_tokens.proofs.QuoteLemmas.{some_is, all_of_run, run_of_all, closed_before, closed_front, closed_alike, closes_is, is_closes}

same_rest : (x y : ℕ) (xs ys : List ℕ) → x ∷ xs ≡ y ∷ ys → xs ≡ ys
same_rest x y xs ys e = ap (drop 1) e

cond_some : {X : Type 0} (b : Bool) (o : Option X) (x : X) → cond b o None ≡ Some x → (b ≡ true) × (o ≡ Some x)
cond_some true o x h = (refl, h)
cond_some false o x h = absurd cc

-- ---- a closed front

closed_take : (quote : ℕ) (bytes : List ℕ) (n : ℕ) → n ≤ length bytes → to_quote quote false bytes ≡ Some n → closes quote (take n bytes) ≡ true
closed_take quote bytes n within h = is_closes quote (take n bytes) (closed_front quote false bytes n h ∙ ap Some (sym (length-take-le n bytes within)))

-- a front that its last byte closes ends where the text is closed
closed_at : (quote : ℕ) (bytes front after : List ℕ) → bytes ≡ front ++ after → closes quote front ≡ true → to_quote quote false bytes ≡ Some (length front)
closed_at quote bytes front after e closed = ap (to_quote quote false) e ∙ closed_before quote false front after (length front) (closes_is quote front closed)

-- so it is as long as the one that was found
found_length : (quote : ℕ) (bytes front after : List ℕ) (n : ℕ) → bytes ≡ front ++ after → closes quote front ≡ true → to_quote quote false bytes ≡ Some n → length front ≡ n
found_length quote bytes front after n e closed found = some_is (sym (closed_at quote bytes front after e closed) ∙ found)

inner_same : (n : ℕ) (bytes : List ℕ) → n ≤ length bytes → take (n - 1) (take n bytes) ≡ take (n - 1) bytes
inner_same n bytes within =
    let long = length-take-le n bytes within in
    sym (take-append-le (n - 1) (take n bytes) (drop n bytes) (omega (arith, long))) ∙ ap (take (n - 1)) (take-append-drop n bytes)

-- ---- character constants

character_value : (bytes : List ℕ) → closes 39 bytes ≡ true → character_of (39 ∷ bytes) ≡ option_map char_number (one_character (take (length bytes - 1) bytes))
unfolding character_of
character_value bytes h =
    let value = option_map char_number (one_character (take (length bytes - 1) bytes)) in
    subst (λ b. cond b value None ≡ value) (sym h) refl

character_closed : (bytes : List ℕ) (n : Number) → character_of (39 ∷ bytes) ≡ Some n → closes 39 bytes ≡ true
unfolding character_of
character_closed bytes n h = (cond_some (closes 39 bytes) _ n h).0

no_longer_character : (front after others more : List ℕ) → closes 39 front ≡ true → front ++ after ≡ others ++ more → length front < length others
    → (o : Option Number) → character_of (39 ∷ others) ≡ o → option_map class.Character o ≡ None
no_longer_character front after others more closed e less None is = refl
no_longer_character front after others more closed e less (Some n) is =
    let same = closed_alike 39 front after others more closed (character_closed others n is) e in absurd (omega (arith, same, less))

longer_character : (front after longer more : List ℕ) → closes 39 front ≡ true → (39 ∷ front) ++ after ≡ longer ++ more → length (39 ∷ front) < length longer → token_class longer ≡ None
longer_character front after [] more closed e less = empty_class
longer_character front after (x ∷ xs) more closed e less =
    subst (λ b. token_class (b ∷ xs) ≡ None) (same_first 39 x (front ++ after) (xs ++ more) e)
    (quote_class xs ∙ no_longer_character front after xs more closed (same_rest 39 x (front ++ after) (xs ++ more) e) (omega (arith, less)) (character_of (39 ∷ xs)) refl)

character_token : (front after : List ℕ) (value : ℕ) → closes 39 front ≡ true → one_character (take (length front - 1) front) ≡ Some value
    → IsTokenBefore after (39 ∷ front) (class.Character (char_number value))
character_token front after value closed is = record {
  is_token = quote_class front ∙ ap (option_map class.Character) (character_value front closed ∙ ap (option_map char_number) is);
  longest = λ longer more e less. longer_character front after longer more closed e less;
  apart = λ one. absurd (no_some _ (no_constant 39 front refl) one);
}

front_of : (quote : ℕ) (bytes : List ℕ) (n : ℕ) (c : TokenClass) → n ≤ length bytes → IsTokenBefore (drop n bytes) (quote ∷ take n bytes) c → IsFront (quote ∷ bytes) (record { class = c; length = n + 1 })
front_of quote bytes n c within is =
    let next : suc n ≡ n + 1 = omega arith in
    subst (λ k. IsFront (quote ∷ bytes) (record { class = c; length = k })) next
    (record { some = omega arith; within = omega (arith, within); token = is })

whole_text : (quote : ℕ) (text : List ℕ) → 0 < length text → get_or text 0 0 ≡ quote → quote ∷ drop 1 text ≡ text
whole_text quote [] some h = absurd (omega (arith, some))
whole_text quote (byte ∷ bytes) some h = ap (λ b. b ∷ bytes) (sym h)

pub character_found : (text : List ℕ) (n value : ℕ) → 0 < length text → get_or text 0 0 ≡ 39 → to_quote 39 false (drop 1 text) ≡ Some n → n ≤ length (drop 1 text)
    → one_character (take (n - 1) (drop 1 text)) ≡ Some value → IsFront text (record { class = class.Character (char_number value); length = n + 1 })
character_found text n value some quote found within is =
    let bytes = drop 1 text in
    let long = length-take-le n bytes within in
    subst (λ t. IsFront t (record { class = class.Character (char_number value); length = n + 1 })) (whole_text 39 text some quote)
    (front_of 39 bytes n (class.Character (char_number value)) within
    (character_token (take n bytes) (drop n bytes) value (closed_take 39 bytes n within found) (ap (λ k. one_character (take (k - 1) (take n bytes))) long ∙ ap one_character (inner_same n bytes within) ∙ is)))

character_there : (o : Option Number) (c : TokenClass) → option_map class.Character o ≡ Some c → (n : Number) × (o ≡ Some n)
character_there None c h = absurd cc
character_there (Some n) c h = (n, refl)

-- what a token that begins with a quote is
record IsQuoted (bytes front : List ℕ) : Type 0 where
  inner : List ℕ
  after : List ℕ
  whole : bytes ≡ inner ++ after
  number : Number
  is : character_of (39 ∷ inner) ≡ Some number

quoted : (bytes front after : List ℕ) (c : TokenClass) → 39 ∷ bytes ≡ front ++ after → IsTokenBefore after front c → IsQuoted bytes front
quoted bytes [] after c e is = absurd (not_none c (sym is.is_token ∙ empty_class))
quoted bytes (x ∷ xs) after c e is =
    let first = same_first 39 x bytes (xs ++ after) e in
    let there = character_there (character_of (39 ∷ xs)) c (sym (quote_class xs) ∙ ap (λ b. token_class (b ∷ xs)) first ∙ is.is_token) in
    record { inner = xs; after = after; whole = same_rest 39 x bytes (xs ++ after) e; number = there.0; is = there.1 }

open_by : (bytes : List ℕ) → to_quote 39 false bytes ≡ None → BeginsNoToken (39 ∷ bytes)
open_by bytes none front after c e is =
    let q = quoted bytes front after c e is in
    not_none (length q.inner) (sym (closed_at 39 bytes q.inner q.after q.whole (character_closed q.inner q.number q.is)) ∙ none)

pub no_closing_quote : (text : List ℕ) → 0 < length text → get_or text 0 0 ≡ 39 → to_quote 39 false (drop 1 text) ≡ None → BeginsNoToken text
no_closing_quote text some quote none = subst BeginsNoToken (whole_text 39 text some quote) (open_by (drop 1 text) none)

no_value : (o : Option ℕ) (n : Number) → o ≡ None → option_map char_number o ≡ Some n → ⊥
no_value None n h is = cc
no_value (Some v) n h is = cc

other_by : (bytes : List ℕ) (n : ℕ) → to_quote 39 false bytes ≡ Some n → n ≤ length bytes → one_character (take (n - 1) bytes) ≡ None → BeginsNoToken (39 ∷ bytes)
other_by bytes n found within none front after c e is =
    let q = quoted bytes front after c e is in
    let closed = character_closed q.inner q.number q.is in
    let long = found_length 39 bytes q.inner q.after n q.whole closed found in
    let inner : take (length q.inner - 1) q.inner ≡ take (n - 1) bytes =
    sym (take-append-le (length q.inner - 1) q.inner q.after (omega arith)) ∙ ap (take (length q.inner - 1)) (sym q.whole) ∙ ap (λ k. take (k - 1) bytes) long in
    no_value (one_character (take (length q.inner - 1) q.inner)) q.number (ap one_character inner ∙ none) (sym (character_value q.inner closed) ∙ q.is)

pub no_character_there : (text : List ℕ) (n : ℕ) → 0 < length text → get_or text 0 0 ≡ 39 → to_quote 39 false (drop 1 text) ≡ Some n → n ≤ length (drop 1 text)
    → one_character (take (n - 1) (drop 1 text)) ≡ None → BeginsNoToken text
no_character_there text n some quote found within none = subst BeginsNoToken (whole_text 39 text some quote) (other_by (drop 1 text) n found within none)

-- ---- string literals

literal_parts : (bytes : List ℕ) → is_literal (34 ∷ bytes) ≡ true → (closes 34 bytes ≡ true) × (list_all is_text_byte bytes ≡ true)
unfolding is_literal
literal_parts bytes h = and_parts (closes 34 bytes) (list_all is_text_byte bytes) h

literal_from : (bytes : List ℕ) → closes 34 bytes ≡ true → list_all is_text_byte bytes ≡ true → is_literal (34 ∷ bytes) ≡ true
unfolding is_literal
literal_from bytes closed all = and_from (closes 34 bytes) (list_all is_text_byte bytes) closed all

no_longer_literal : (front after others more : List ℕ) → closes 34 front ≡ true → front ++ after ≡ others ++ more → length front < length others
    → (b : Bool) → is_literal (34 ∷ others) ≡ b → ◌≡◌ {A = Option TokenClass} (cond b (Some class.Literal) None) None
no_longer_literal front after others more closed e less false is = refl
no_longer_literal front after others more closed e less true is =
    let same = closed_alike 34 front after others more closed (literal_parts others is).0 e in absurd (omega (arith, same, less))

longer_literal : (front after longer more : List ℕ) → closes 34 front ≡ true → (34 ∷ front) ++ after ≡ longer ++ more → length (34 ∷ front) < length longer → token_class longer ≡ None
longer_literal front after [] more closed e less = empty_class
longer_literal front after (x ∷ xs) more closed e less =
    subst (λ b. token_class (b ∷ xs) ≡ None) (same_first 34 x (front ++ after) (xs ++ more) e)
    (double_quote_class xs ∙ no_longer_literal front after xs more closed (same_rest 34 x (front ++ after) (xs ++ more) e) (omega (arith, less)) (is_literal (34 ∷ xs)) refl)

literal_token : (front after : List ℕ) → closes 34 front ≡ true → list_all is_text_byte front ≡ true → IsTokenBefore after (34 ∷ front) class.Literal
literal_token front after closed all = record {
  is_token = double_quote_class front ∙ ap (λ b. cond b (Some class.Literal) None) (literal_from front closed all);
  longest = λ longer more e less. longer_literal front after longer more closed e less;
  apart = λ one. absurd (no_some _ (no_constant 34 front refl) one);
}

pub literal_found : (text : List ℕ) (n good : ℕ) → 0 < length text → get_or text 0 0 ≡ 34 → to_quote 34 false (drop 1 text) ≡ Some n → n ≤ length (drop 1 text)
    → good ≡ prefix_len is_text_byte (take n (drop 1 text)) → n ≤ good → IsFront text (record { class = class.Literal; length = n + 1 })
literal_found text n good some quote found within is enough =
    let bytes = drop 1 text in
    let long = length-take-le n bytes within in
    subst (λ t. IsFront t (record { class = class.Literal; length = n + 1 })) (whole_text 34 text some quote)
    (front_of 34 bytes n class.Literal within
    (literal_token (take n bytes) (drop n bytes) (closed_take 34 bytes n within found) (all_of_run is_text_byte (take n bytes) (omega (arith, long, is, enough)))))

literal_there : (b : Bool) (c : TokenClass) → ◌≡◌ {A = Option TokenClass} (cond b (Some class.Literal) None) (Some c) → b ≡ true
literal_there true c h = refl
literal_there false c h = absurd cc

record IsLiterally (bytes front : List ℕ) : Type 0 where
  inner : List ℕ
  after : List ℕ
  whole : bytes ≡ inner ++ after
  is : is_literal (34 ∷ inner) ≡ true

literally : (bytes front after : List ℕ) (c : TokenClass) → 34 ∷ bytes ≡ front ++ after → IsTokenBefore after front c → IsLiterally bytes front
literally bytes [] after c e is = absurd (not_none c (sym is.is_token ∙ empty_class))
literally bytes (x ∷ xs) after c e is =
    let first = same_first 34 x bytes (xs ++ after) e in
    let there = literal_there (is_literal (34 ∷ xs)) c (sym (double_quote_class xs) ∙ ap (λ b. token_class (b ∷ xs)) first ∙ is.is_token) in
    record { inner = xs; after = after; whole = same_rest 34 x bytes (xs ++ after) e; is = there }

open_literal : (bytes : List ℕ) → to_quote 34 false bytes ≡ None → BeginsNoToken (34 ∷ bytes)
open_literal bytes none front after c e is =
    let q = literally bytes front after c e is in
    not_none (length q.inner) (sym (closed_at 34 bytes q.inner q.after q.whole (literal_parts q.inner q.is).0) ∙ none)

pub no_closing_double_quote : (text : List ℕ) → 0 < length text → get_or text 0 0 ≡ 34 → to_quote 34 false (drop 1 text) ≡ None → BeginsNoToken text
no_closing_double_quote text some quote none = subst BeginsNoToken (whole_text 34 text some quote) (open_literal (drop 1 text) none)

bad_by : (bytes : List ℕ) (n good : ℕ) → to_quote 34 false bytes ≡ Some n → n ≤ length bytes → good ≡ prefix_len is_text_byte (take n bytes) → good < n → BeginsNoToken (34 ∷ bytes)
bad_by bytes n good found within is less front after c e one =
    let q = literally bytes front after c e one in
    let parts = literal_parts q.inner q.is in
    let long = found_length 34 bytes q.inner q.after n q.whole parts.0 found in
    let inner : q.inner ≡ take n bytes = sym (take_at q.inner q.after n long) ∙ ap (take n) (sym q.whole) in
    let run = run_of_all is_text_byte q.inner parts.1 in
    let same = ap (prefix_len is_text_byte) inner in
    let no : ⊥ = omega (arith, long, run, same, is, less) in no

pub bad_literal : (text : List ℕ) (n good : ℕ) → 0 < length text → get_or text 0 0 ≡ 34 → to_quote 34 false (drop 1 text) ≡ Some n → n ≤ length (drop 1 text)
    → good ≡ prefix_len is_text_byte (take n (drop 1 text)) → good < n → BeginsNoToken text
bad_literal text n good some quote found within is less = subst BeginsNoToken (whole_text 34 text some quote) (bad_by (drop 1 text) n good found within is less)

-- ---- why there is none

pub why_open : (text : List ℕ) → 0 < length text → get_or text 0 0 ≡ 34 → to_quote 34 false (drop 1 text) ≡ None → why_none text ≡ BadByte 0
why_open text some quote none = subst (λ t. why_none t ≡ BadByte 0) (whole_text 34 text some quote) (rw none refl)

pub why_bad : (text : List ℕ) (n good : ℕ) → 0 < length text → get_or text 0 0 ≡ 34 → to_quote 34 false (drop 1 text) ≡ Some n
    → good ≡ prefix_len is_text_byte (take n (drop 1 text)) → why_none text ≡ BadByte (good + 1)
why_bad text n good some quote found is = subst (λ t. why_none t ≡ BadByte (good + 1)) (whole_text 34 text some quote) (rw found (ap (λ k. BadByte (k + 1)) (sym is)))
