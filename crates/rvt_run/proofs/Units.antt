-- The names of units.
use Rattle.std.proofs.Common.{◌≡◌, ℕ, suc, Bool, true, false, if◌then◌else◌, List, [], ◌∷◌, ◌++◌, Option, Some, None, refl, sym, ◌∙◌, ap, subst, inl, inr, arith, append_assoc}
use Rattle.std.specs.Prelude.{codes, All}
use Rattle.std.specs.Fmt.{decimal}
use Rattle.std.specs.Str.{bytes_eq}
use Rattle.std.proofs.lemmas.Slice.Eq.{bytes_eq-Decides}
use Rattle.rvt_tree.specs.declared.programs.Function.{Function}
use Rattle.function_pairs.specs.Units.{pair_name}
use Rattle.rvt_run.specs.Report.{IsNameByte, IsName, IsNumbered, unit_text, full_line}
use Rattle.rvt_run.proofs.Digits.{decimal_same}

pub no_space : (b : ℕ) → b ≡ 32 → IsNameByte b → ⊥
no_space b is (inl digit) = omega (arith, is, digit.0, digit.1)
no_space b is (inr (inl upper)) = omega (arith, is, upper.0, upper.1)
no_space b is (inr (inr (inl under))) = omega (arith, is, under)
no_space b is (inr (inr (inr lower))) = omega (arith, is, lower.0, lower.1)

-- bytes of a name are a name
pub name_of_bytes : (bytes : List ℕ) → All IsNameByte bytes → IsName bytes
name_of_bytes [] all = tt
name_of_bytes (b ∷ bytes) all = (all 0 b (omega arith), name_of_bytes bytes (λ k d low. all (suc k) d (omega (arith, low))))

-- each function has a name as C writes it
abbrev pub AreNamed : List Function → Type 0
AreNamed = All (λ f. All IsNameByte f.name)

-- no name has a space
pub spaced_no_name : (p rest : List ℕ) → IsName (p ++ 32 ∷ rest) → ⊥
spaced_no_name [] rest is = no_space 32 refl is.0
spaced_no_name (a ∷ p) rest is = spaced_no_name p rest is.1

-- behind two names, the first space is at one place
pub space_behind : (p q rest rest' : List ℕ) → IsName p → IsName q → p ++ 32 ∷ rest ≡ q ++ 32 ∷ rest' → (p ≡ q) × (rest ≡ rest')
space_behind [] [] rest rest' ps qs e = let h : rest ≡ rest' = cc in (refl, h)
space_behind [] (b ∷ q) rest rest' ps qs e = let h : 32 ≡ b = cc in absurd (no_space b (sym h) qs.0)
space_behind (a ∷ p) [] rest rest' ps qs e = let h : a ≡ 32 = cc in absurd (no_space a h ps.0)
space_behind (a ∷ p) (b ∷ q) rest rest' ps qs e =
    let first : a ≡ b = cc in
    let more : p ++ 32 ∷ rest ≡ q ++ 32 ∷ rest' = cc in
    let found = space_behind p q rest rest' ps.1 qs.1 more in
    (ap (λ (n : ℕ). n ∷ p) first ∙ ap (λ (l : List ℕ). b ∷ l) found.0, found.1)

-- two units of one text are one
pub units_same : (p name : List ℕ) (m n : Option ℕ) → IsName p → IsName name → IsNumbered m → IsNumbered n → unit_text p m ≡ unit_text name n → (p ≡ name) × (m ≡ n)
units_same p name None None ps ns low low' e = (e, refl)
units_same p name None (Some n) ps ns low low' e = absurd (spaced_no_name name (codes "loop " ++ decimal n) (subst IsName e ps))
units_same p name (Some m) None ps ns low low' e = absurd (spaced_no_name p (codes "loop " ++ decimal m) (subst IsName (sym e) ns))
units_same p name (Some m) (Some n) ps ns low low' e =
    let found = space_behind p name (codes "loop " ++ decimal m) (codes "loop " ++ decimal n) ps ns e in
    let rest : codes "loop " ++ decimal m ≡ codes "loop " ++ decimal n = found.1 in
    let written : decimal m ≡ decimal n = cc in
    (found.0, ap (λ (k : ℕ). Some k) (decimal_same m n (omega (arith, low)) (omega (arith, low')) written))

-- ---- printed names of two functions

-- the name of the one, or both
pub by_names : (a b : List ℕ) (P : List ℕ → Type 0) → (a ≡ b → P a) → P ((a ++ codes " -> ") ++ b) → P (pair_name a b)
by_names a b P same apart = cases (bytes_eq a b) refl
  where
    cases : (c : Bool) → bytes_eq a b ≡ c → P (if c then a else (a ++ codes " -> ") ++ b)
    cases true is = same ((bytes_eq-Decides a b).0 is)
    cases false is = apart

-- behind the first of two names stands an arrow
unit_arrow : (a b : List ℕ) (n : Option ℕ) → unit_text ((a ++ codes " -> ") ++ b) n ≡ a ++ 32 ∷ (45 ∷ (codes "> " ++ unit_text b n))
unit_arrow a b None = append_assoc a (codes " -> ") b
unit_arrow a b (Some n) = append_assoc (a ++ codes " -> ") b (codes " loop " ++ decimal n) ∙ append_assoc a (codes " -> ") (b ++ (codes " loop " ++ decimal n))

-- one name isn't two
plain_arrow : (p a b : List ℕ) (m n : Option ℕ) → IsName p → IsName a → unit_text p m ≡ unit_text ((a ++ codes " -> ") ++ b) n → ⊥
plain_arrow p a b None n ps as' e = spaced_no_name a (45 ∷ (codes "> " ++ unit_text b n)) (subst IsName (e ∙ unit_arrow a b n) ps)
plain_arrow p a b (Some m) n ps as' e =
    let found = space_behind p a (codes "loop " ++ decimal m) (45 ∷ (codes "> " ++ unit_text b n)) ps as' (e ∙ unit_arrow a b n) in
    let rest : codes "loop " ++ decimal m ≡ 45 ∷ (codes "> " ++ unit_text b n) = found.1 in
    let letter : ◌≡◌ {A = ℕ} 108 45 = cc in
    omega (arith, letter)

-- two pairs of one text are one
pub printed_same : (p q a b : List ℕ) (m n : Option ℕ) → IsName p → IsName q → IsName a → IsName b → IsNumbered m → IsNumbered n → unit_text (pair_name p q) m ≡ unit_text (pair_name a b) n → (p ≡ a) × (q ≡ b) × (m ≡ n)
printed_same p q a b m n ps qs as' bs low low' =
    by_names p q (λ x. unit_text x m ≡ unit_text (pair_name a b) n → (p ≡ a) × (q ≡ b) × (m ≡ n))
    (λ one. by_names a b (λ y. unit_text p m ≡ unit_text y n → (p ≡ a) × (q ≡ b) × (m ≡ n)) (λ other e. plain one other (units_same p a m n ps as' low low' e)) (λ e. absurd (plain_arrow p a b m n ps as' e)))
    (by_names a b (λ y. unit_text ((p ++ codes " -> ") ++ q) m ≡ unit_text y n → (p ≡ a) × (q ≡ b) × (m ≡ n)) (λ other e. absurd (plain_arrow a p q n m as' ps (sym e))) both)
  where
    plain : p ≡ q → a ≡ b → (p ≡ a) × (m ≡ n) → (p ≡ a) × (q ≡ b) × (m ≡ n)
    plain one other found = (found.0, sym one ∙ found.0 ∙ other, found.1)

    both : unit_text ((p ++ codes " -> ") ++ q) m ≡ unit_text ((a ++ codes " -> ") ++ b) n → (p ≡ a) × (q ≡ b) × (m ≡ n)
    both e =
        let found = space_behind p a (45 ∷ (codes "> " ++ unit_text q m)) (45 ∷ (codes "> " ++ unit_text b n)) ps as' (sym (unit_arrow p q m) ∙ e ∙ unit_arrow a b n) in
        let behind : 45 ∷ (codes "> " ++ unit_text q m) ≡ 45 ∷ (codes "> " ++ unit_text b n) = found.1 in
        let rest : unit_text q m ≡ unit_text b n = cc in
        let second = units_same q b m n qs bs low low' rest in
        (found.0, second.0, second.1)

-- ---- the line of a full pair

abbrev pub full_tail : Option ℕ → List ℕ
full_tail None = codes ": fully equivalent, twin" ++ 10 ∷ []
full_tail (Some n) = ((codes " loop " ++ decimal n) ++ codes ": fully equivalent, twin") ++ 10 ∷ []

full_whole : (name : List ℕ) (number : Option ℕ) → full_line name number ≡ name ++ full_tail number
full_whole name None = append_assoc name (codes ": fully equivalent, twin") (10 ∷ [])
full_whole name (Some n) =
    ap (λ (l : List ℕ). l ++ 10 ∷ []) (append_assoc name (codes " loop " ++ decimal n) (codes ": fully equivalent, twin"))
    ∙ append_assoc name ((codes " loop " ++ decimal n) ++ codes ": fully equivalent, twin") (10 ∷ [])

-- the line of two names
pub arrow_line : (a b : List ℕ) (number : Option ℕ) → full_line ((a ++ codes " -> ") ++ b) number ≡ a ++ 32 ∷ (45 ∷ (codes "> " ++ (b ++ full_tail number)))
arrow_line a b number = full_whole ((a ++ codes " -> ") ++ b) number ∙ append_assoc (a ++ codes " -> ") b (full_tail number) ∙ append_assoc a (codes " -> ") (b ++ full_tail number)

-- behind the name of a function stands a colon
pub function_line : (name : List ℕ) → full_line name None ≡ name ++ 58 ∷ (codes " fully equivalent, twin" ++ 10 ∷ [])
function_line name = append_assoc name (codes ": fully equivalent, twin") (10 ∷ [])

abbrev pub loop_rest : ℕ → List ℕ
loop_rest n = ((codes "oop " ++ decimal n) ++ codes ": fully equivalent, twin") ++ 10 ∷ []

-- behind that of a loop a space and an l
pub loop_line : (name : List ℕ) (n : ℕ) → full_line name (Some n) ≡ name ++ 32 ∷ (108 ∷ loop_rest n)
loop_line name n =
    ap (λ (l : List ℕ). l ++ 10 ∷ []) (append_assoc name (codes " loop " ++ decimal n) (codes ": fully equivalent, twin"))
    ∙ append_assoc name ((codes " loop " ++ decimal n) ++ codes ": fully equivalent, twin") (10 ∷ [])
