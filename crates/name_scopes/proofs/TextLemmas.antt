-- Texts as keys of a set, and as a list.
use Rattle.std.proofs.Common.{◌≡◌, ℕ, ◌+◌, ◌<◌, ◌≤◌, zero, suc, Bool, true, false, cond, List, [], ◌∷◌, ◌++◌, length, get_or, map, Some, None, refl, sym, ◌∙◌, ap, subst, arith, true≢false}
use Rattle.std.specs.Prelude.{nat_lt, nat_eq, not, if◌then◌else◌, ◌||◌, Vec, slice_get, position}
use Rattle.std.specs.Global.{Global}
use Rattle.std.specs.List.{list_any, position_or_len, prefix_len, IsDistinct, AllByRecursion}
use Rattle.std.specs.Option.{option_map}
use Rattle.std.specs.Str.{bytes_eq}
use Rattle.std.proofs.lemmas.List.{length-map, map-append, length-append, get_or_append_left}
use Rattle.std.proofs.lemmas.List.Quantifiers.{position-Some}
use Rattle.std.proofs.lemmas.Map.Keys.{IsDistinct-head, IsDistinct-tail}
use Rattle.std.proofs.lemmas.Option.{slice_get-map, get_or_from_slice_get}
use Rattle.std.proofs.lemmas.Slice.Eq.{bytes_eq-Decides}
use Rattle.indexmap.specs.IndexSet.{insert_key}
use Rattle.name_scopes.specs.Texts.{with_text, StandsAt, AreDifferent}

abbrev pub Key : Type 0
Key = Vec ℕ Global

abbrev pub shown : List Key → List (List ℕ)
shown = map (λ (key : Key). key.items)

front_shown : (p : List ℕ → Bool) (keys : List Key) → prefix_len p (shown keys) ≡ prefix_len (λ (key : Key). p key.items) keys
front_shown p [] = refl
front_shown p (key ∷ keys) = ap (λ (n : ℕ). cond (p key.items) (1 + n) 0) (front_shown p keys)

place_shown : (p : List ℕ → Bool) (keys : List Key) → position_or_len p (shown keys) ≡ position_or_len (λ (key : Key). p key.items) keys
place_shown p keys = front_shown (λ (x : List ℕ). not (p x)) keys

-- a test finds its first text under the same number
pub number_shown : (p : List ℕ → Bool) (keys : List Key) → position (λ (key : Key). p key.items) keys ≡ position p (shown keys)
number_shown p keys =
    sym (ap (λ (n : ℕ). cond (nat_lt n (length (shown keys))) (Some n) None) (place_shown p keys)
    ∙ ap (λ (l : ℕ). cond (nat_lt (position_or_len (λ (key : Key). p key.items) keys) l) (Some (position_or_len (λ (key : Key). p key.items) keys)) None) (length-map keys (λ (key : Key). key.items)))

pub any_shown : (p : List ℕ → Bool) (keys : List Key) → list_any (λ (key : Key). p key.items) keys ≡ list_any p (shown keys)
any_shown p [] = refl
any_shown p (key ∷ keys) = ap (λ (b : Bool). p key.items || b) (any_shown p keys)

pub added_shown : (key : Key) (keys : List Key) → shown (insert_key (λ (a b : Key). bytes_eq a.items b.items) keys key) ≡ with_text (shown keys) key.items
added_shown key keys = cases (list_any (λ (other : Key). bytes_eq key.items other.items) keys) refl
  where
    cases : (b : Bool) → list_any (λ (other : Key). bytes_eq key.items other.items) keys ≡ b → shown (insert_key (λ (a b : Key). bytes_eq a.items b.items) keys key) ≡ with_text (shown keys) key.items
    cases true is =
        ap (λ (b : Bool). shown (if b then keys else keys ++ key ∷ [])) is
        ∙ sym (ap (λ (b : Bool). if b then shown keys else shown keys ++ key.items ∷ []) (sym (any_shown (bytes_eq key.items) keys) ∙ is))
    cases false is =
        ap (λ (b : Bool). shown (if b then keys else keys ++ key ∷ [])) is
        ∙ map-append (λ (other : Key). other.items) keys (key ∷ [])
        ∙ sym (ap (λ (b : Bool). if b then shown keys else shown keys ++ key.items ∷ []) (sym (any_shown (bytes_eq key.items) keys) ∙ is))

none_shown : (text : List ℕ) (keys : List Key) → AllByRecursion (λ (other : Key). bytes_eq text other.items ≡ false) keys → list_any (bytes_eq text) (shown keys) ≡ false
none_shown text [] all = refl
none_shown text (key ∷ keys) all = ap (λ (b : Bool). b || list_any (bytes_eq text) (shown keys)) all.0 ∙ none_shown text keys all.1

pub different_shown : (keys : List Key) → IsDistinct (λ (a b : Key). bytes_eq a.items b.items) keys → AreDifferent (shown keys)
different_shown [] distinct = tt
different_shown (key ∷ keys) distinct = (
  none_shown key.items keys (IsDistinct-head (λ (a b : Key). bytes_eq a.items b.items) key keys distinct),
  different_shown keys (IsDistinct-tail (λ (a b : Key). bytes_eq a.items b.items) key keys distinct),
)

-- ---- texts as a list

pub same_text : (a b : List ℕ) → bytes_eq a b ≡ true → a ≡ b
same_text a b = (bytes_eq-Decides a b).0

pub equal_texts : (a b : List ℕ) → a ≡ b → bytes_eq a b ≡ true
equal_texts a b = (bytes_eq-Decides a b).1

pub found_at : (text : List ℕ) (texts : List (List ℕ)) (number : ℕ) → Some number ≡ position (bytes_eq text) texts → StandsAt texts number text
found_at text texts number is =
    let here = position-Some (bytes_eq text) texts number [] (sym is) in
    (here.0, sym (same_text text (get_or texts number []) here.1))

pub stored_at : (text : List ℕ) (keys : List Key) (number : ℕ) (key : Key) → number < length keys → slice_get keys number ≡ Some key → bytes_eq text key.items ≡ true → StandsAt (shown keys) number text
stored_at text keys number key within is same =
    let read : slice_get (shown keys) number ≡ Some key.items = slice_get-map (λ (key : Key). key.items) keys number ∙ ap (option_map (λ (key : Key). key.items)) is in
    let long : length (shown keys) ≡ length keys = length-map keys (λ (key : Key). key.items) in
    (omega (arith, within, long), get_or_from_slice_get (shown keys) number key.items [] read ∙ sym (same_text text key.items same))

pub nothing_more : (text : List ℕ) (texts : List (List ℕ)) → true ≡ list_any (bytes_eq text) texts → texts ≡ with_text texts text
nothing_more text texts found = ap (λ (b : Bool). if b then texts else texts ++ text ∷ []) found

any_at : (p : List ℕ → Bool) (texts : List (List ℕ)) (number : ℕ) → number < length texts → p (get_or texts number []) ≡ true → list_any p texts ≡ true
any_at p [] number within is = absurd (let no : ⊥ = omega (arith, within) in no)
any_at p (text ∷ texts) zero within is = ap (λ (b : Bool). b || list_any p texts) is
any_at p (text ∷ texts) (suc number) within is = last (p text) (any_at p texts number (omega (arith, within)) is)
  where
    last : (b : Bool) → list_any p texts ≡ true → (b || list_any p texts) ≡ true
    last true any = refl
    last false any = any

pub stands_among : (text : List ℕ) (texts : List (List ℕ)) (number : ℕ) → StandsAt texts number text → true ≡ list_any (bytes_eq text) texts
stands_among text texts number stands = sym (any_at (bytes_eq text) texts number stands.0 (equal_texts text (get_or texts number []) (sym stands.1)))

pub none_at : (p : List ℕ → Bool) (texts : List (List ℕ)) (number : ℕ) → list_any p texts ≡ false → number < length texts → p (get_or texts number []) ≡ false
none_at p texts number none within = cases (p (get_or texts number [])) refl
  where
    cases : (b : Bool) → p (get_or texts number []) ≡ b → p (get_or texts number []) ≡ false
    cases true is = absurd (true≢false (sym (any_at p texts number within is) ∙ none))
    cases false is = is

apart : (text : List ℕ) (texts : List (List ℕ)) (number : ℕ) → list_any (bytes_eq text) texts ≡ false → number < length texts → text ≡ get_or texts number [] → ⊥
apart text texts number none within same = true≢false (sym (any_at (bytes_eq text) texts number within (equal_texts text (get_or texts number []) same)) ∙ none)

-- different numbers have different texts
different_at : (texts : List (List ℕ)) (i j : ℕ) → AreDifferent texts → i < length texts → j < length texts → get_or texts i [] ≡ get_or texts j [] → i ≡ j
different_at [] i j different first second same = absurd (let no : ⊥ = omega (arith, first) in no)
different_at (text ∷ texts) zero zero different first second same = refl
different_at (text ∷ texts) zero (suc j) different first second same = absurd (apart text texts j different.0 (omega (arith, second)) same)
different_at (text ∷ texts) (suc i) zero different first second same = absurd (apart text texts i different.0 (omega (arith, first)) (sym same))
different_at (text ∷ texts) (suc i) (suc j) different first second same = ap suc (different_at texts i j different.1 (omega (arith, first)) (omega (arith, second)) same)

-- A text is that under its number alone.
pub tells : (texts : List (List ℕ)) (text : List ℕ) (number k : ℕ) → AreDifferent texts → StandsAt texts number text → k < length texts → bytes_eq text (get_or texts k []) ≡ nat_eq number k
tells texts text number k different stands within = cases (bytes_eq text (get_or texts k [])) refl
  where
    cases : (b : Bool) → bytes_eq text (get_or texts k []) ≡ b → bytes_eq text (get_or texts k []) ≡ nat_eq number k
    cases true is =
        let same : number ≡ k = different_at texts number k different stands.0 within (stands.1 ∙ same_text text (get_or texts k []) is) in
        is ∙ sym (numbers_same number k same)
      where
        numbers_same : (a b : ℕ) → a ≡ b → nat_eq a b ≡ true
        numbers_same a b e = grind arith
    cases false is = is ∙ sym (numbers_apart number k (λ e. true≢false (sym (equal_texts text (get_or texts k []) (sym stands.1 ∙ ap (λ n. get_or texts n []) e)) ∙ is)))
      where
        numbers_apart : (a b : ℕ) → (a ≡ b → ⊥) → nat_eq a b ≡ false
        numbers_apart a b differ = grind arith

-- ---- one more text

by_more : (P : List (List ℕ) → Type 0) (texts : List (List ℕ)) (text : List ℕ) → P texts → P (texts ++ text ∷ []) → P (with_text texts text)
by_more P texts text old new = cases (list_any (bytes_eq text) texts) refl
  where
    cases : (b : Bool) → list_any (bytes_eq text) texts ≡ b → P (with_text texts text)
    cases true is = subst P (sym (ap (λ (b : Bool). if b then texts else texts ++ text ∷ []) is)) old
    cases false is = subst P (sym (ap (λ (b : Bool). if b then texts else texts ++ text ∷ []) is)) new

pub at_most_one : (texts : List (List ℕ)) (text : List ℕ) → length (with_text texts text) ≤ length texts + 1
at_most_one texts text =
    let longer : length (texts ++ text ∷ []) ≡ length texts + 1 = length-append texts (text ∷ []) in
    by_more (λ ts. length ts ≤ length texts + 1) texts text (omega arith) (omega (arith, longer))

pub no_fewer : (texts : List (List ℕ)) (text : List ℕ) → length texts ≤ length (with_text texts text)
no_fewer texts text =
    let longer : length (texts ++ text ∷ []) ≡ length texts + 1 = length-append texts (text ∷ []) in
    by_more (λ ts. length texts ≤ length ts) texts text (omega arith) (omega (arith, longer))

pub stays_at : (texts : List (List ℕ)) (text : List ℕ) (number : ℕ) → number < length texts → get_or (with_text texts text) number [] ≡ get_or texts number []
stays_at texts text number within = by_more (λ ts. get_or ts number [] ≡ get_or texts number []) texts text refl (get_or_append_left texts (text ∷ []) [] number within)
