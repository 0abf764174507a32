-- The answer to a run says nothing of a pair.
use Rattle.std.proofs.Common.{◌≡◌, ℕ, zero, suc, ◌+◌, ◌<◌, true, List, [], ◌∷◌, ◌++◌, length, get_or, Option, refl, sym, ◌∙◌, ap, arith, append_assoc}
use Rattle.std.specs.Prelude.{codes}
use Rattle.std.specs.Fmt.{decimal}
use Rattle.std.specs.List.{Contains}
use Rattle.std.proofs.lemmas.List.{append-nil}
use Rattle.rvt_edge.specs.declared.desk.Call.{Call}
use Rattle.rvt_edge.specs.Desk.{Files}
use Rattle.rvt_tree.specs.declared.programs.Program.{Program}
use Rattle.c_interp.specs.declared.machine.Stop.{Stop}
use Rattle.c_interp.specs.declared.machine.Stop.TheVariants.{Ended, Cut, Deep}
use Rattle.rvt_run.specs.Answer.{AnswersRun, file_fault, file_long, ran, Runs, file_refused, interpreted}
use Rattle.rvt_run.specs.Lines.{line}
use Rattle.rvt_run.specs.Report.{unit_text, full_line}
use Rattle.rvt_run.specs.Runs.{IsRunAnswer, no_function, other_number, bad_argument, stopped, end_text, stop_text}
use Rattle.rvt_run.proofs.Lone.{lone, no_refusal}
use Rattle.rvt_run.proofs.Placed.{HasNoColon, unit_none, without_colon, no_colon_in}
use Rattle.rvt_run.proofs.Truth.{same_end}

-- a text that ends otherwise than the line of a full pair
ends_otherwise : (text front name : List ℕ) (number : Option ℕ) (byte : ℕ) → text ≡ front ++ byte ∷ [] → (byte ≡ 110 → ⊥) → line text [] ≡ full_line name number → ⊥
ends_otherwise text front name number byte is differs e =
    differs (same_end front (unit_text name number ++ codes ": fully equivalent, twi") byte 110
    (sym (ap (λ (l : List ℕ). l ++ 10 ∷ []) (append-nil text ∙ is) ∙ append_assoc front (byte ∷ []) (10 ∷ [])) ∙ e ∙ spread))
  where
    spread : full_line name number ≡ (unit_text name number ++ codes ": fully equivalent, twi") ++ 110 ∷ 10 ∷ []
    spread = append_assoc (unit_text name number) (codes ": fully equivalent, twin") (10 ∷ []) ∙ sym (append_assoc (unit_text name number) (codes ": fully equivalent, twi") (110 ∷ 10 ∷ []))

two_parts : (a b c : List ℕ) (x : ℕ) → a ++ (b ++ (c ++ x ∷ [])) ≡ (a ++ (b ++ c)) ++ x ∷ []
two_parts a b c x = ap (λ (l : List ℕ). a ++ l) (sym (append_assoc b c (x ∷ []))) ∙ sym (append_assoc a (b ++ c) (x ∷ []))

-- what stands behind the colon that a text without one ends at
same_behind : (before behind name rest : List ℕ) → HasNoColon name → without_colon rest ≡ true → before ++ 58 ∷ behind ≡ name ++ 58 ∷ rest → behind ≡ rest
same_behind [] behind [] rest none plain e = cc
same_behind [] behind (b ∷ name) rest none plain e = let h : 58 ≡ b = cc in absurd (none.0 (sym h))
same_behind (a ∷ before) behind [] rest none plain e = let h : before ++ 58 ∷ behind ≡ rest = cc in absurd (no_colon_in rest before behind plain h)
same_behind (a ∷ before) behind (b ∷ name) rest none plain e = let h : before ++ 58 ∷ behind ≡ name ++ 58 ∷ rest = cc in same_behind before behind name rest none.1 plain h

no_function_no_full : (file function name : List ℕ) (number : Option ℕ) → HasNoColon name → line (file ++ (codes ": no function " ++ function)) [] ≡ full_line name number → ⊥
no_function_no_full file function name number none' e =
    let tail : List ℕ = codes " no function " ++ function in
    let spread : line (file ++ (58 ∷ tail)) [] ≡ file ++ 58 ∷ (tail ++ 10 ∷ []) = ap (λ (l : List ℕ). l ++ 10 ∷ []) (append-nil (file ++ 58 ∷ tail)) ∙ append_assoc file (58 ∷ tail) (10 ∷ []) in
    let same : tail ++ 10 ∷ [] ≡ codes " fully equivalent, twin" ++ 10 ∷ [] =
    same_behind file (tail ++ 10 ∷ []) (unit_text name number) (codes " fully equivalent, twin" ++ 10 ∷ []) (unit_none name number none') refl (sym spread ∙ e ∙ append_assoc (unit_text name number) (codes ": fully equivalent, twin") (10 ∷ [])) in
    let letter : ◌≡◌ {A = ℕ} 110 102 = ap (λ (l : List ℕ). get_or l 1 0) same in
    omega (arith, letter)

stop_no_full : (bound : ℕ) (stop : Stop) (name : List ℕ) (unit : Option ℕ) → line (stop_text bound stop) [] ≡ full_line name unit → ⊥
stop_no_full bound (Ended end steps) name unit e =
    ends_otherwise _ (end_text end ++ (codes " after " ++ (decimal steps ++ codes " step"))) name unit 115
    (ap (λ (l : List ℕ). end_text end ++ l) (two_parts (codes " after ") (decimal steps) (codes " step") 115) ∙ sym (append_assoc (end_text end) (codes " after " ++ (decimal steps ++ codes " step")) (115 ∷ []))) (λ s. omega (arith, s)) e
stop_no_full bound Cut name unit e = ends_otherwise _ (codes "cut at " ++ (decimal bound ++ codes " step")) name unit 115 (two_parts (codes "cut at ") (decimal bound) (codes " step") 115) (λ s. omega (arith, s)) e
stop_no_full bound Deep name unit e = ends_otherwise _ (codes "deep at 10000 call") name unit 115 refl (λ s. omega (arith, s)) e

answer_no_full : (program : Program) (file function : List ℕ) (words : List (List ℕ)) (bound status : ℕ) (text name : List ℕ) (unit : Option ℕ) → IsRunAnswer program file function words bound status text → HasNoColon name → line text [] ≡ full_line name unit → ⊥
answer_no_full program file function words bound status text name unit (no_function none) none' e = no_function_no_full file function name unit none' e
answer_no_full program file function words bound status text name unit (other_number number f is differs) none' e =
    ends_otherwise _ (codes "wanted " ++ (decimal (length f.params) ++ codes " argument")) name unit 115 (two_parts (codes "wanted ") (decimal (length f.params)) (codes " argument") 115) (λ s. omega (arith, s)) e
answer_no_full program file function words bound status text name unit (bad_argument number f before is same bad) none' e =
    ends_otherwise _ (codes "argument " ++ (decimal (before + 1) ++ codes ": not a value of its typ")) name unit 101 (two_parts (codes "argument ") (decimal (before + 1)) (codes ": not a value of its typ") 101) (λ s. omega (arith, s)) e
answer_no_full program file function words bound status text name unit (stopped number f values stop is are so) none' e = stop_no_full bound stop name unit e

-- a list of one line
only_line : (l name : List ℕ) (unit : Option ℕ) → (l ≡ full_line name unit → ⊥) → Contains (l ∷ []) (full_line name unit) → ⊥
only_line l name unit differs among = cases among.0 among.1 among.2
  where
    cases : (k : ℕ) → k < 1 → get_or (l ∷ []) k (full_line name unit) ≡ full_line name unit → ⊥
    cases zero low is = differs is
    cases (suc k) low is = omega (arith, low)

runs_no_full : (file bytes function : List ℕ) (arguments : List (List ℕ)) (steps status : ℕ) (lines : List (List ℕ)) (name : List ℕ) (unit : Option ℕ) → Runs file bytes function arguments steps status lines → HasNoColon name → Contains lines (full_line name unit) → ⊥
runs_no_full file bytes function arguments steps status lines name unit (file_refused refusal is none) none' among = no_refusal file refusal name unit none' among
runs_no_full file bytes function arguments steps status lines name unit (interpreted {text = text} program read answer) none' among =
    only_line (line text []) name unit (answer_no_full program file function arguments steps status text name unit answer none') among

pub answers_run_no_full : (files : Option Files) (file function : List ℕ) (arguments : List (List ℕ)) (steps : ℕ) (calls : List Call) (status : ℕ) (lines : List (List ℕ)) (name : List ℕ) (unit : Option ℕ) → AnswersRun files file function arguments steps calls status lines → HasNoColon name →
    Contains lines (full_line name unit) → ⊥
answers_run_no_full files file function arguments steps calls status lines name unit file_fault none' among = lone file (codes ": cannot rea") 100 name unit (λ e. omega (arith, e)) among
answers_run_no_full files file function arguments steps calls status lines name unit (file_long long) none' among = lone file (codes ": too lon") 103 name unit (λ e. omega (arith, e)) among
answers_run_no_full files file function arguments steps calls status lines name unit (ran bytes whole runs) none' among = runs_no_full file bytes function arguments steps status lines name unit runs none' among
