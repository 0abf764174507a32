-- Answers of one line that say nothing of a pair.
use Rattle.std.proofs.Common.{◌≡◌, ℕ, zero, suc, ◌<◌, List, [], ◌∷◌, ◌++◌, get_or, Option, sym, ◌∙◌, ap, subst, arith, append_assoc}
use Rattle.std.specs.Prelude.{codes}
use Rattle.std.specs.List.{Contains}
use Rattle.std.proofs.lemmas.List.{append-nil}
use Rattle.c_source.specs.declared.refused.Refusal.{Refusal}
use Rattle.rvt_run.specs.Answer.{refused_at}
use Rattle.rvt_run.specs.Lines.{line, line_refused}
use Rattle.rvt_run.specs.Report.{unit_text, full_line}
use Rattle.rvt_run.proofs.Placed.{HasNoColon, placed_no_full, mapped_no_full}
use Rattle.rvt_run.proofs.Truth.{same_end}

pub apart : (n front : List ℕ) (x : ℕ) → (n ++ (front ++ x ∷ [])) ++ 10 ∷ [] ≡ (n ++ front) ++ x ∷ 10 ∷ []
apart n front x = ap (λ (l : List ℕ). l ++ 10 ∷ []) (sym (append_assoc n front (x ∷ []))) ∙ append_assoc (n ++ front) (x ∷ []) (10 ∷ [])

-- a line that ends otherwise isn't that of a full pair
pub other_end : (first front name : List ℕ) (number : Option ℕ) (byte : ℕ) → line first (front ++ byte ∷ []) ≡ full_line name number → byte ≡ 110
other_end first front name number byte e =
    same_end (first ++ front) (unit_text name number ++ codes ": fully equivalent, twi") byte 110 (sym (apart first front byte) ∙ e ∙ apart (unit_text name number) (codes ": fully equivalent, twi") 110)

-- one line whose text ends otherwise
pub lone : (first front : List ℕ) (byte : ℕ) (name : List ℕ) (number : Option ℕ) → (byte ≡ 110 → ⊥) → Contains (line first (front ++ byte ∷ []) ∷ []) (full_line name number) → ⊥
lone first front byte name number differs among = cases among.0 among.1 among.2
  where
    cases : (k : ℕ) → k < 1 → get_or (line first (front ++ byte ∷ []) ∷ []) k (full_line name number) ≡ full_line name number → ⊥
    cases zero low is = differs (other_end first front name number byte is)
    cases (suc k) low is = omega (arith, low)

-- one line that is a whole text
pub lone_text : (front : List ℕ) (byte : ℕ) (name : List ℕ) (number : Option ℕ) → (byte ≡ 110 → ⊥) → Contains (line (front ++ byte ∷ []) [] ∷ []) (full_line name number) → ⊥
lone_text front byte name number differs among =
    lone front [] byte name number differs (subst (λ (l : List ℕ). Contains ((l ++ 10 ∷ []) ∷ []) (full_line name number)) (append-nil (front ++ byte ∷ [])) among)

-- a refusal says nothing of a pair
pub no_refusal : (file : List ℕ) (refusal : Refusal) (name : List ℕ) (number : Option ℕ) → HasNoColon name → Contains (refused_at file refusal) (full_line name number) → ⊥
no_refusal file refusal name number none among = cases among.0 among.1 among.2
  where
    cases : (k : ℕ) → k < 1 → get_or (refused_at file refusal) k (full_line name number) ≡ full_line name number → ⊥
    cases zero low is = placed_no_full file refusal name number none is
    cases (suc k) low is = omega (arith, low)

-- nor does a line of the map that is refused
pub no_line_refusal : (file : List ℕ) (at : ℕ) (text name : List ℕ) (number : Option ℕ) → HasNoColon name → Contains (line_refused file at text) (full_line name number) → ⊥
no_line_refusal file at text name number none among = cases among.0 among.1 among.2
  where
    cases : (k : ℕ) → k < 1 → get_or (line_refused file at text) k (full_line name number) ≡ full_line name number → ⊥
    cases zero low is = mapped_no_full file at text name number none is
    cases (suc k) low is = omega (arith, low)
