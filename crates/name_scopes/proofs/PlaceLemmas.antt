-- The places of bindings.
use Rattle.std.proofs.Common.{◌≡◌, ℕ, ◌+◌, ◌<◌, ◌≤◌, suc, Bool, true, false, List, [], ◌∷◌, ◌++◌, length, get_or, refl, sym, ◌∙◌, ap, subst, arith}
use Rattle.std.specs.Prelude.{nat_eq, if◌then◌else◌, slice_set, reverse}
use Rattle.std.specs.Prelude.{Result, Ok, Err, OnErr}
use Rattle.std.specs.List.{list_any}
use Rattle.std.specs.Str.{bytes_eq}
use Rattle.std.proofs.lemmas.List.{length-map, length-set, get_or-set_same, get_or-set_other, reverse-append, length-reverse}
use Rattle.name_scopes.specs.declared.places.Binding.{Binding}
use Rattle.name_scopes.specs.Texts.{with_text, StandsAt, AreDifferent}
use Rattle.name_scopes.specs.Places.{place_of, place_of_number, names_of}
use Rattle.name_scopes.specs.Links.{AreChained, AreLinked}
use Rattle.name_scopes.proofs.TextLemmas.{tells, none_at, stays_at, no_fewer, at_most_one}

long_names : (texts : List (List ℕ)) (bindings : List Binding) → length (names_of texts bindings) ≡ length bindings
long_names texts bindings = length-map bindings (λ (binding : Binding). get_or texts binding.number [])

-- A name's place is that of its number.
pub place_found : (texts : List (List ℕ)) (name : List ℕ) (number : ℕ) (bindings : List Binding) → AreDifferent texts → StandsAt texts number name → AreChained (length texts) bindings
    → place_of (names_of texts bindings) name ≡ place_of_number bindings number
place_found texts name number [] different stands chained = refl
place_found texts name number (binding ∷ bindings) different stands chained =
    ap (λ (b : Bool). if b then length (names_of texts (binding ∷ bindings)) else place_of (names_of texts bindings) name) (tells texts name number binding.number different stands chained.0)
    ∙ ap (λ (n : ℕ). if nat_eq number binding.number then suc n else place_of (names_of texts bindings) name) (long_names texts bindings)
    ∙ ap (λ (n : ℕ). if nat_eq number binding.number then length (binding ∷ bindings) else n) (place_found texts name number bindings different stands chained.2)

-- A name without a number has no binding.
pub place_missing : (texts : List (List ℕ)) (name : List ℕ) (bindings : List Binding) → list_any (bytes_eq name) texts ≡ false → AreChained (length texts) bindings → 0 ≡ place_of (names_of texts bindings) name
place_missing texts name [] none chained = refl
place_missing texts name (binding ∷ bindings) none chained =
    place_missing texts name bindings none chained.2
    ∙ sym (ap (λ (b : Bool). if b then length (names_of texts (binding ∷ bindings)) else place_of (names_of texts bindings) name) (none_at (bytes_eq name) texts binding.number none chained.0))

-- ---- one more text

pub names_stay : (texts : List (List ℕ)) (name : List ℕ) (bindings : List Binding) → AreChained (length texts) bindings → names_of (with_text texts name) bindings ≡ names_of texts bindings
names_stay texts name [] chained = refl
names_stay texts name (binding ∷ bindings) chained =
    ap (λ (n : List ℕ). n ∷ names_of (with_text texts name) bindings) (stays_at texts name binding.number chained.0)
    ∙ ap (λ (ns : List (List ℕ)). get_or texts binding.number [] ∷ ns) (names_stay texts name bindings chained.2)

chained_more : (count more : ℕ) (bindings : List Binding) → count ≤ more → AreChained count bindings → AreChained more bindings
chained_more count more [] le chained = tt
chained_more count more (binding ∷ bindings) le chained =
    let first = chained.0 in
    (omega (arith, le, first), chained.1, chained_more count more bindings le chained.2)

pub linked_more : (texts : List (List ℕ)) (name : List ℕ) (last longer : List ℕ) (bindings : List Binding) → AreLinked texts last bindings → length texts < length longer
    → ((number : ℕ) → get_or longer number 0 ≡ get_or last number 0) → AreLinked (with_text texts name) longer bindings
linked_more texts name last longer bindings linked room same =
    let most = at_most_one texts name in
    record {
      room = omega (arith, most, room);
      places = λ number. same number ∙ linked.places number;
      chained = chained_more (length texts) (length (with_text texts name)) bindings (no_fewer texts name) linked.chained;
    }

-- ---- one more binding

same_numbers : (a b : ℕ) → nat_eq a b ≡ true → a ≡ b
same_numbers a b is = grind arith

not_same : (a b : ℕ) → nat_eq a b ≡ false → a ≡ b → ⊥
not_same a b is same = grind arith

pub linked_on : (texts : List (List ℕ)) (last : List ℕ) (bindings : List Binding) (number hidden : ℕ) → AreLinked texts last bindings → number < length texts → hidden ≡ get_or last number 0
    → AreLinked texts (slice_set last number (suc (length bindings))) (record { number = number; hidden = hidden } ∷ bindings)
linked_on texts last bindings number hidden linked within is =
    let long : length (slice_set last number (suc (length bindings))) ≡ length last = length-set last number (suc (length bindings)) in
    let room = linked.room in
    record { room = omega (arith, long, room); places = λ k. cases k (nat_eq k number) refl; chained = (within, is ∙ linked.places number, linked.chained) }
  where
    cases : (k : ℕ) (b : Bool) → nat_eq k number ≡ b → get_or (slice_set last number (suc (length bindings))) k 0 ≡ (if nat_eq k number then suc (length bindings) else place_of_number bindings k)
    cases k true same =
        let here : k ≡ number = same_numbers k number same in
        let room = linked.room in
        ap (λ n. get_or (slice_set last number (suc (length bindings))) n 0) here
        ∙ get_or-set_same last number (suc (length bindings)) 0 (omega (arith, within, room))
        ∙ sym (ap (λ (b : Bool). if b then suc (length bindings) else place_of_number bindings k) same)
    cases k false differs =
        get_or-set_other last number k (suc (length bindings)) 0 (not_same k number differs)
        ∙ linked.places k
        ∙ sym (ap (λ (b : Bool). if b then suc (length bindings) else place_of_number bindings k) differs)

pub pushed : (binding : Binding) (items all : List Binding) → all ≡ items ++ binding ∷ [] → reverse all ≡ binding ∷ reverse items
pushed binding items all is = ap reverse is ∙ reverse-append items (binding ∷ [])

pub declared : (texts more : List (List ℕ)) (name : List ℕ) (number hidden : ℕ) (items all : List Binding) → more ≡ with_text texts name → StandsAt more number name
    → AreChained (length texts) (reverse items) → all ≡ items ++ record { number = number; hidden = hidden } ∷ [] → names_of more (reverse all) ≡ name ∷ names_of texts (reverse items)
declared texts more name number hidden items all is stands chained pushes =
    ap (names_of more) (pushed (record { number = number; hidden = hidden }) items all pushes)
    ∙ ap (λ (n : List ℕ). n ∷ names_of more (reverse items)) stands.1
    ∙ ap (λ (ts : List (List ℕ)). name ∷ names_of ts (reverse items)) is
    ∙ ap (λ (ns : List (List ℕ)). name ∷ ns) (names_stay texts name (reverse items) chained)

pub linked_again : (texts more : List (List ℕ)) (name : List ℕ) (last longer : List ℕ) (items same : List Binding) (count : ℕ) → more ≡ with_text texts name → AreLinked texts last (reverse items)
    → count ≡ length texts → count < length longer → ((number : ℕ) → get_or longer number 0 ≡ get_or last number 0) → same ≡ items → AreLinked more longer (reverse same)
linked_again texts more name last longer items same count is linked counted room kept unchanged =
    subst (λ ts. AreLinked ts longer (reverse same)) (sym is)
    (subst (λ bs. AreLinked (with_text texts name) longer (reverse bs)) (sym unchanged) (linked_more texts name last longer (reverse items) linked (omega (arith, counted, room)) kept))

pub names_again : (texts more : List (List ℕ)) (name : List ℕ) (items same : List Binding) → more ≡ with_text texts name → AreChained (length texts) (reverse items) → same ≡ items → names_of more (reverse same) ≡ names_of texts (reverse items)
names_again texts more name items same is chained unchanged =
    ap (λ bs. names_of more (reverse bs)) unchanged ∙ ap (λ ts. names_of ts (reverse items)) is ∙ names_stay texts name (reverse items) chained

pub linked_pushed : (texts : List (List ℕ)) (last : List ℕ) (items all : List Binding) (number hidden place : ℕ) → AreLinked texts last (reverse items) → number < length texts → hidden ≡ get_or last number 0
    → place ≡ length items + 1 → all ≡ items ++ record { number = number; hidden = hidden } ∷ [] → AreLinked texts (slice_set last number place) (reverse all)
linked_pushed texts last items all number hidden place linked within is placed pushes =
    let here : suc (length (reverse items)) ≡ place = omega (arith, placed, length-reverse items) in
    subst (λ bs. AreLinked texts (slice_set last number place) bs) (sym (pushed (record { number = number; hidden = hidden }) items all pushes))
    (subst (λ n. AreLinked texts (slice_set last number n) (record { number = number; hidden = hidden } ∷ reverse items)) here (linked_on texts last (reverse items) number hidden linked within is))

-- what holds anyway
pub on_err : {T E P : Type 0} (r : Result T E) → P → OnErr r P
on_err (Ok x) p = tt
on_err (Err e) p = p
