-- The parts of `&NAME[K]`.
use Rattle.std.proofs.Common.{◌≡◌, ◌≢◌, ℕ, zero, suc, ◌<◌, List, [], ◌∷◌, ◌++◌, length, get_or, Option, Some, None, lit<, refl, sym, ◌∙◌, ap, subst, arith, append_assoc}
use Rattle.std.specs.Prelude.{codes, IfSome, IfNone}
use Rattle.std.specs.Borrow.{Bor}
use Rattle.std.proofs.lemmas.Str.Pattern.{IsSplitOnceResult, split_parts}
use Rattle.std.proofs.lemmas.List.{append_cancel_right}
use Rattle.call_arguments.specs.Texts.{IsAddress}

-- a text without `[`
abbrev pub Lacks : List ℕ → Type 0
Lacks text = (i : ℕ) → i < length text → get_or text i 0 ≢ 91

rest_lacks : (b : ℕ) (text : List ℕ) → Lacks (b ∷ text) → Lacks text
rest_lacks b text lacks i low = lacks (suc i) (omega (arith, low))

-- two texts cut at their first `[`
pub one_cut : (a b x y : List ℕ) → Lacks a → Lacks b → a ++ 91 ∷ x ≡ b ++ 91 ∷ y → (a ≡ b) × (x ≡ y)
one_cut [] [] x y la lb same = (refl, cc)
one_cut [] (c ∷ b) x y la lb same = let first : 91 ≡ c = cc in absurd (lb 0 (omega arith) (sym first))
one_cut (c ∷ a) [] x y la lb same = let first : c ≡ 91 = cc in absurd (la 0 (omega arith) first)
one_cut (c ∷ a) (d ∷ b) x y la lb same =
    let first : c ≡ d = cc in
    let rest : a ++ 91 ∷ x ≡ b ++ 91 ∷ y = cc in
    let more = one_cut a b x y (rest_lacks c a la) (rest_lacks d b lb) rest in
    (ap (λ (n : ℕ). n ∷ a) first ∙ ap (λ (l : List ℕ). d ∷ l) more.0, more.1)

-- a text with a `[` in it doesn't lack it
pub has_one : (a x : List ℕ) → Lacks (a ++ 91 ∷ x) → ⊥
has_one [] x lacks = lacks 0 (omega arith) refl
has_one (b ∷ a) x lacks = has_one a x (rest_lacks b (a ++ 91 ∷ x) lacks)

-- `&`, what stands inside, and `]`
pub inside : (word name digits : List ℕ) → IsAddress word name digits → word ≡ 38 ∷ ((name ++ 91 ∷ digits) ++ 93 ∷ [])
inside word name digits is = is.written ∙ ap (λ (l : List ℕ). 38 ∷ l) (sym (append_assoc name (91 ∷ digits) (93 ∷ [])))

pub one_address : (word name digits name' digits' : List ℕ) → IsAddress word name digits → IsAddress word name' digits' → (name ≡ name') × (digits ≡ digits')
one_address word name digits name' digits' is is' =
    let same : 38 ∷ ((name ++ 91 ∷ digits) ++ 93 ∷ []) ≡ 38 ∷ ((name' ++ 91 ∷ digits') ++ 93 ∷ []) = sym (inside word name digits is) ∙ inside word name' digits' is' in
    let both : (name ++ 91 ∷ digits) ++ 93 ∷ [] ≡ (name' ++ 91 ∷ digits') ++ 93 ∷ [] = cc in
    one_cut name name' digits digits' is.plain is'.plain (append_cancel_right (name ++ 91 ∷ digits) (name' ++ 91 ∷ digits') (93 ∷ []) both)

module _ (word text between : List ℕ) (first : word ≡ 38 ∷ text) where
  -- the text behind `&`
  behind : (name digits : List ℕ) → IsAddress word name digits → text ≡ (name ++ 91 ∷ digits) ++ 93 ∷ []
  behind name digits is = let same : 38 ∷ text ≡ 38 ∷ ((name ++ 91 ∷ digits) ++ 93 ∷ []) = sym first ∙ inside word name digits is in cc

  pub no_end : ((front : List ℕ) → text ≢ front ++ 93 ∷ []) → (name digits : List ℕ) → IsAddress word name digits → ⊥
  no_end none name digits is = none (name ++ 91 ∷ digits) (behind name digits is)

  pub no_bracket : text ≡ between ++ 93 ∷ [] → Lacks between → (name digits : List ℕ) → IsAddress word name digits → ⊥
  no_bracket last lacks name digits is =
      let same : between ≡ name ++ 91 ∷ digits = append_cancel_right between (name ++ 91 ∷ digits) (93 ∷ []) (sym last ∙ behind name digits is) in
      has_one name digits (subst Lacks same lacks)

  pub is_address : (name digits : List ℕ) → text ≡ between ++ 93 ∷ [] → between ≡ name ++ 91 ∷ digits → Lacks name → IsAddress word name digits
  is_address name digits last parts lacks = record {
    written = first ∙ ap (λ (l : List ℕ). 38 ∷ l) (last ∙ ap (λ (l : List ℕ). l ++ 93 ∷ []) parts ∙ append_assoc name (91 ∷ digits) (93 ∷ []));
    plain = lacks;
  }

-- what `split_once` gives of the text inside
pub split_some : (word text between : List ℕ) (r : Option (Bor (List ℕ) × Bor (List ℕ))) → word ≡ 38 ∷ text → text ≡ between ++ 93 ∷ [] → IsSplitOnceResult 91 between r → IfSome r (λ parts. IsAddress word parts.0.now parts.1.now)
split_some word text between None first last split = tt
split_some word text between (Some parts) first last split =
    let cut = split_parts 91 between (Some parts) split (lit< tt) in
    is_address word text between first parts.0.now parts.1.now last cut.0 cut.1

pub split_none : (word text between : List ℕ) (r : Option (Bor (List ℕ) × Bor (List ℕ))) → word ≡ 38 ∷ text → text ≡ between ++ 93 ∷ [] → IsSplitOnceResult 91 between r → IfNone r ((name digits : List ℕ) → IsAddress word name digits → ⊥)
split_none word text between None first last split = no_bracket word text between first last (split_parts 91 between None split (lit< tt))
split_none word text between (Some parts) first last split = tt
