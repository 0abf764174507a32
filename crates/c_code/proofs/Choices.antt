-- Two blocks of which one is passed over.
use Rattle.std.proofs.Common.{◌≡◌, ℕ, suc, ◌+◌, List, [], ◌∷◌, ◌++◌, length, sym, ap, ◌∙◌, ◌-◌, Result, Ok, Err, OnOk, arith, append_assoc, length-append}
use Rattle.std.specs.Prelude.{slice_set}
use Rattle.std.proofs.Math.Seq.{set-append_seam}
use Rattle.c_code.specs.Expressions.{choosing}
use Rattle.c_code.specs.declared.instructions.When.{When}
use Rattle.c_code.specs.declared.instructions.When.TheVariants as W
use Rattle.c_code.specs.declared.instructions.Instruction.{Instruction}
use Rattle.c_code.specs.declared.instructions.Instruction.TheVariants as I

-- what `jump_over` and `begin_second` say
abbrev pub JumpsOver : When → ℕ → List Instruction → List Instruction → Type 0
JumpsOver when at old new =
    (before block : List Instruction) (room : Instruction) → old ≡ before ++ room ∷ block → at ≡ length before → new ≡ before ++ I.Jump when (suc (length block)) ∷ block

abbrev pub Begins : ℕ → ℕ → List Instruction → List Instruction → Type 0
Begins slot at old new =
    (before first : List Instruction) (room : Instruction) → old ≡ before ++ room ∷ first → at ≡ length before →
    new ≡ before ++ I.Jump (W.Unless slot) (suc (length (first ++ I.Finish ∷ []))) ∷ (first ++ I.Finish ∷ [])

pub behind : (c1 c2 c3 block : List Instruction) (room : Instruction) → c2 ≡ c1 ++ room ∷ [] → c3 ≡ c2 ++ block → c3 ≡ c1 ++ room ∷ block
behind c1 c2 c3 block room e2 e3 = e3 ∙ ap (λ l. l ++ block) e2 ∙ append_assoc c1 (room ∷ []) block

pub shorter : (c1 c2 c3 block : List Instruction) (room : Instruction) → c2 ≡ c1 ++ room ∷ [] → c3 ≡ c2 ++ block → length c3 ≡ length c1 + suc (length block)
shorter c1 c2 c3 block room e2 e3 = ap length (behind c1 c2 c3 block room e2 e3) ∙ length-append c1 (room ∷ block)

pub chosen : (slot p1 p2 : ℕ) (c1 c2 c3 c4 c5 c6 first second : List Instruction) → p1 ≡ length c1 → c2 ≡ c1 ++ I.Finish ∷ [] → c3 ≡ c2 ++ first → Begins slot p1 c3 c4 → p2 ≡ length c3 → c5 ≡ c4 ++ second → JumpsOver W.Always p2 c5 c6 → c6 ≡ c1 ++ choosing slot first second
chosen slot p1 p2 c1 c2 c3 c4 c5 c6 first second at1 e2 e3 begins at2 e5 jumps =
    let jump = I.Jump (W.Unless slot) (suc (length (first ++ I.Finish ∷ []))) in
    let e4 : c4 ≡ c1 ++ jump ∷ (first ++ I.Finish ∷ []) = begins c1 first I.Finish (behind c1 c2 c3 first I.Finish e2 e3) at1 in
    let flat : c5 ≡ (c1 ++ jump ∷ first) ++ I.Finish ∷ second =
    e5 ∙ ap (λ l. l ++ second) e4 ∙ append_assoc c1 (jump ∷ (first ++ I.Finish ∷ [])) second ∙ ap (λ l. c1 ++ jump ∷ l) (append_assoc first (I.Finish ∷ []) second)
    ∙ sym (append_assoc c1 (jump ∷ first) (I.Finish ∷ second)) in
    let at : p2 ≡ length (c1 ++ jump ∷ first) = at2 ∙ shorter c1 c2 c3 first I.Finish e2 e3 ∙ sym (length-append c1 (jump ∷ first)) in
    jumps (c1 ++ jump ∷ first) second I.Finish flat at ∙ append_assoc c1 (jump ∷ first) _

-- room for a jump is filled where the jump stands
pub filled : (old before block : List Instruction) (room : Instruction) (make : ℕ → Instruction) (at len : ℕ) → old ≡ before ++ room ∷ block → at ≡ length before → len ≡ length old → slice_set old at (make (len - at)) ≡ before ++ make (suc (length block)) ∷ block
filled old before block room make at len e here long =
    let far : len - at ≡ suc (length block) = omega (arith, long, ap length e, length-append before (room ∷ block), here) in
    ap (λ l. slice_set l at (make (len - at))) e ∙ ap (λ n. slice_set (before ++ room ∷ block) n (make (len - at))) here
    ∙ set-append_seam before room block (make (len - at)) ∙ ap (λ n. before ++ make n ∷ block) far

pub on_ok : {A E P Q : Type 0} (r : Result A E) → (P → Q) → OnOk r P → OnOk r Q
on_ok (Ok a) f h = f h
on_ok (Err e) f h = h
