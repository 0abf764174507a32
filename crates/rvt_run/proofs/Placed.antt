-- A line with a place isn't that of a full pair: it has two colons, and that has one.
use Rattle.std.proofs.Common.{◌≡◌, ℕ, Bool, true, false, List, [], ◌∷◌, ◌++◌, Option, Some, None, refl, sym, ◌∙◌, ap, inl, inr, arith, append_assoc}
use Rattle.std.specs.Prelude.{◌==◌, if◌then◌else◌, codes}
use Rattle.std.specs.Fmt.{decimal}
use Rattle.c_source.specs.declared.refused.Refusal.{Refusal}
use Rattle.c_programs.specs.Texts.{refusal_text}
use Rattle.rvt_run.specs.Answer.{refusal_said}
use Rattle.rvt_run.specs.Lines.{line, line_said}
use Rattle.rvt_run.specs.Report.{IsNameByte, IsName, unit_text, full_line}
use Rattle.function_pairs.specs.Units.{pair_name}
use Rattle.rvt_run.proofs.Digits.{AreDigits, decimal_are}
use Rattle.rvt_run.proofs.Units.{by_names}

-- no byte is a colon, by computing
abbrev pub without_colon : List ℕ → Bool
without_colon [] = true
without_colon (b ∷ bytes) = if b == 58 then false else without_colon bytes

pub no_colon_in : (text before behind : List ℕ) → without_colon text ≡ true → before ++ 58 ∷ behind ≡ text → ⊥
no_colon_in [] [] behind is e = cc
no_colon_in [] (a ∷ before) behind is e = cc
no_colon_in (b ∷ text) [] behind is e =
    let first : 58 ≡ b = cc in
    let no : false ≡ true = ap (λ (x : ℕ). if x == 58 then false else without_colon text) first ∙ is in
    cc
no_colon_in (b ∷ text) (a ∷ before) behind is e = let rest : before ++ 58 ∷ behind ≡ text = cc in cases (b == 58) refl (λ plain. no_colon_in text before behind plain rest)
  where
    cases : (c : Bool) → (b == 58) ≡ c → (without_colon text ≡ true → ⊥) → ⊥
    cases true found later = let no : false ≡ true = sym (ap (λ (c : Bool). if c then false else without_colon text) found) ∙ is in cc
    cases false found later = later (sym (ap (λ (c : Bool). if c then false else without_colon text) found) ∙ is)

pub no_name_colon : (b : ℕ) → b ≡ 58 → IsNameByte b → ⊥
no_name_colon b is (inl digit) = omega (arith, is, digit.0, digit.1)
no_name_colon b is (inr (inl upper)) = omega (arith, is, upper.0, upper.1)
no_name_colon b is (inr (inr (inl under))) = omega (arith, is, under)
no_name_colon b is (inr (inr (inr lower))) = omega (arith, is, lower.0, lower.1)

-- no byte is a colon
abbrev pub HasNoColon : List ℕ → Type 0
HasNoColon [] = Unit {0}
HasNoColon (b ∷ bytes) = (b ≡ 58 → ⊥) × HasNoColon bytes

joined : (a b : List ℕ) → HasNoColon a → HasNoColon b → HasNoColon (a ++ b)
joined [] b none none' = none'
joined (x ∷ a) b none none' = (none.0, joined a b none.1 none')

name_none : (name : List ℕ) → IsName name → HasNoColon name
name_none [] is = tt
name_none (b ∷ name) is = (λ colon. no_name_colon b colon is.0, name_none name is.1)

digits_none : (bytes : List ℕ) → AreDigits bytes → HasNoColon bytes
digits_none [] are = tt
digits_none (b ∷ bytes) are = (λ colon. omega (arith, colon, are.0.1), digits_none bytes are.1)

literal : (text : List ℕ) → without_colon text ≡ true → HasNoColon text
literal [] is = tt
literal (b ∷ text) is = cases (b == 58) refl (literal text)
  where
    opened : (c : Bool) → (b == 58) ≡ c → (if c then false else without_colon text) ≡ true
    opened c found = sym (ap (λ (c : Bool). if c then false else without_colon text) found) ∙ is

    cases : (c : Bool) → (b == 58) ≡ c → (without_colon text ≡ true → HasNoColon text) → HasNoColon (b ∷ text)
    cases true found later = let no : false ≡ true = opened true found in cc
    cases false found later = (λ colon. apart colon found, later (opened false found))
      where
        apart : b ≡ 58 → (b == 58) ≡ false → ⊥
        apart colon other = let no : true ≡ false = sym (ap (λ (x : ℕ). x == 58) colon) ∙ other in cc

pub unit_none : (name : List ℕ) (number : Option ℕ) → HasNoColon name → HasNoColon (unit_text name number)
unit_none name None none = none
unit_none name (Some n) none = joined name (codes " loop " ++ decimal n) none (joined (codes " loop ") (decimal n) (literal (codes " loop ") refl) (digits_none (decimal n) (decimal_are n)))

-- the printed name of two functions
pub pair_none : (a b : List ℕ) → IsName a → IsName b → HasNoColon (pair_name a b)
pair_none a b is is' = by_names a b HasNoColon (λ same. name_none a is) (joined (a ++ codes " -> ") b (joined a (codes " -> ") (name_none a is) (literal (codes " -> ") refl)) (name_none b is'))

-- behind a text without a colon there is one colon alone
one_colon : (before between behind name rest : List ℕ) → HasNoColon name → without_colon rest ≡ true → before ++ 58 ∷ (between ++ 58 ∷ behind) ≡ name ++ 58 ∷ rest → ⊥
one_colon [] between behind [] rest none plain e = let h : between ++ 58 ∷ behind ≡ rest = cc in no_colon_in rest between behind plain h
one_colon [] between behind (b ∷ name) rest none plain e = let h : 58 ≡ b = cc in none.0 (sym h)
one_colon (a ∷ before) between behind [] rest none plain e =
    let h : before ++ 58 ∷ (between ++ 58 ∷ behind) ≡ rest = cc in
    no_colon_in rest before (between ++ 58 ∷ behind) plain h
one_colon (a ∷ before) between behind (b ∷ name) rest none plain e =
    let h : before ++ 58 ∷ (between ++ 58 ∷ behind) ≡ name ++ 58 ∷ rest = cc in
    one_colon before between behind name rest none.1 plain h

pub placed_no_full : (file : List ℕ) (refusal : Refusal) (name : List ℕ) (number : Option ℕ) → HasNoColon name → line file (refusal_said refusal) ≡ full_line name number → ⊥
placed_no_full file refusal name number none e =
    let first : List ℕ = decimal refusal.place.line in
    let second : List ℕ = decimal refusal.place.column ++ codes ": " in
    let text : List ℕ = refusal_text refusal.cause refusal.word in
    let inner : ((first ++ 58 ∷ second) ++ text) ++ 10 ∷ [] ≡ first ++ 58 ∷ ((second ++ text) ++ 10 ∷ []) =
    ap (λ (l : List ℕ). l ++ 10 ∷ []) (append_assoc first (58 ∷ second) text) ∙ append_assoc first (58 ∷ (second ++ text)) (10 ∷ []) in
    let spread : line file (refusal_said refusal) ≡ file ++ 58 ∷ (first ++ 58 ∷ ((second ++ text) ++ 10 ∷ [])) =
    append_assoc file (refusal_said refusal) (10 ∷ []) ∙ ap (λ (l : List ℕ). file ++ 58 ∷ l) inner in
    one_colon file first ((second ++ text) ++ 10 ∷ []) (unit_text name number) (codes " fully equivalent, twin" ++ 10 ∷ []) (unit_none name number none) refl
    (sym spread ∙ e ∙ append_assoc (unit_text name number) (codes ": fully equivalent, twin") (10 ∷ []))

-- a line of the map that is refused
pub mapped_no_full : (file : List ℕ) (at : ℕ) (text name : List ℕ) (number : Option ℕ) → HasNoColon name → line file (line_said at text) ≡ full_line name number → ⊥
mapped_no_full file at text name number none e =
    let first : List ℕ = decimal at in
    let inner : ((first ++ codes ": ") ++ text) ++ 10 ∷ [] ≡ first ++ 58 ∷ ((32 ∷ text) ++ 10 ∷ []) =
    ap (λ (l : List ℕ). l ++ 10 ∷ []) (append_assoc first (codes ": ") text) ∙ append_assoc first (codes ": " ++ text) (10 ∷ []) in
    let spread : line file (line_said at text) ≡ file ++ 58 ∷ (first ++ 58 ∷ ((32 ∷ text) ++ 10 ∷ [])) =
    append_assoc file (line_said at text) (10 ∷ []) ∙ ap (λ (l : List ℕ). file ++ 58 ∷ l) inner in
    one_colon file first ((32 ∷ text) ++ 10 ∷ []) (unit_text name number) (codes " fully equivalent, twin" ++ 10 ∷ []) (unit_none name number none) refl
    (sym spread ∙ e ∙ append_assoc (unit_text name number) (codes ": fully equivalent, twin") (10 ∷ []))
