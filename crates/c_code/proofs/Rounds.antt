-- Loops and groups, whose jumps are made when their bodies stand.
use Rattle.std.proofs.Common.{◌≡◌, ℕ, suc, ◌-◌, List, [], ◌∷◌, ◌++◌, length, sym, ap, ◌∙◌, arith, append_assoc, length-append}
use Rattle.c_code.specs.Expressions.{passing}
use Rattle.c_code.specs.Statements.{looping}
use Rattle.c_code.specs.declared.instructions.Manner.TheVariants as M
use Rattle.c_code.specs.declared.instructions.When.{When}
use Rattle.c_code.specs.declared.instructions.When.TheVariants as W
use Rattle.c_code.specs.declared.instructions.Instruction.{Instruction}
use Rattle.c_code.specs.declared.instructions.Instruction.TheVariants as I
use Rattle.c_code.proofs.Choices.{JumpsOver, behind}

-- what `close_loop` and `rounds` say
abbrev pub Closes : ℕ → ℕ → List Instruction → List Instruction → Type 0
Closes head exit old new =
    (before test round : List Instruction) (room : Instruction) → old ≡ before ++ (test ++ room ∷ round) → head ≡ length before → exit ≡ length (before ++ test) → new ≡ before ++ looping test round

abbrev pub Rounds : List Instruction → ℕ → ℕ → List Instruction → List Instruction → Type 0
Rounds round head exit old new =
    (before test : List Instruction) (room : Instruction) → old ≡ before ++ (test ++ room ∷ []) → head ≡ length before → exit ≡ length (before ++ test) → new ≡ before ++ looping test round

seam : (before test rest : List Instruction) → before ++ (test ++ rest) ≡ (before ++ test) ++ rest
seam before test rest = sym (append_assoc before test rest)

pub closed : (head exit back : ℕ) (old c1 c2 c3 : List Instruction) → back ≡ length old - head → c1 ≡ old ++ I.Again back ∷ [] → JumpsOver (W.Unless 0) exit c1 c2 → c3 ≡ c2 ++ I.End M.Normally ∷ [] → Closes head exit old c3
closed head exit back old c1 c2 c3 how e1 jumps e3 before test round room e at_head at_exit =
    let far : back ≡ length (test ++ I.Finish ∷ round) =
    omega (arith, how, at_head, ap length e, length-append before (test ++ room ∷ round), length-append test (room ∷ round), length-append test (I.Finish ∷ round)) in
    let wide : length (round ++ I.Again back ∷ []) ≡ length (round ++ I.Finish ∷ []) = omega (arith, length-append round (I.Again back ∷ []), length-append round (I.Finish ∷ [])) in
    let whole : c1 ≡ (before ++ test) ++ room ∷ (round ++ I.Again back ∷ []) =
    e1 ∙ ap (λ l. l ++ I.Again back ∷ []) (e ∙ seam before test (room ∷ round)) ∙ append_assoc (before ++ test) (room ∷ round) (I.Again back ∷ []) in
    let jumped : c2 ≡ (before ++ test) ++ I.Jump (W.Unless 0) (suc (length (round ++ I.Again back ∷ []))) ∷ (round ++ I.Again back ∷ []) = jumps (before ++ test) (round ++ I.Again back ∷ []) room whole at_exit in
    e3 ∙ ap (λ l. l ++ I.End M.Normally ∷ []) jumped
    ∙ append_assoc (before ++ test) (I.Jump (W.Unless 0) (suc (length (round ++ I.Again back ∷ []))) ∷ (round ++ I.Again back ∷ [])) (I.End M.Normally ∷ [])
    ∙ ap (λ l. (before ++ test) ++ I.Jump (W.Unless 0) (suc (length (round ++ I.Again back ∷ []))) ∷ l) (append_assoc round (I.Again back ∷ []) (I.End M.Normally ∷ []))
    ∙ append_assoc before test _
    ∙ ap (λ n. before ++ (test ++ I.Jump (W.Unless 0) (suc n) ∷ (round ++ I.Again back ∷ I.End M.Normally ∷ []))) wide
    ∙ ap (λ n. before ++ (test ++ I.Jump (W.Unless 0) (suc (length (round ++ I.Finish ∷ []))) ∷ (round ++ I.Again n ∷ I.End M.Normally ∷ []))) far

-- a loop is closed behind its round
pub rounded : (head exit : ℕ) (old c1 c2 round : List Instruction) → c1 ≡ old ++ round → Closes head exit c1 c2 → Rounds round head exit old c2
rounded head exit old c1 c2 round e1 closes before test room e at_head at_exit =
    closes before test round room
    (e1 ∙ ap (λ l. l ++ round) (e ∙ seam before test (room ∷ [])) ∙ append_assoc (before ++ test) (room ∷ []) round ∙ append_assoc before test (room ∷ round)) at_head at_exit

-- a block that is passed over behind others
pub passed : (when : When) (at : ℕ) (c0 c1 c2 c3 c4 first block : List Instruction) → c1 ≡ c0 ++ first → at ≡ length c1 → c2 ≡ c1 ++ I.Finish ∷ [] → c3 ≡ c2 ++ block → JumpsOver when at c3 c4 → c4 ≡ c0 ++ (first ++ passing when block)
passed when at c0 c1 c2 c3 c4 first block e1 here e2 e3 jumps =
    jumps c1 block I.Finish (behind c1 c2 c3 block I.Finish e2 e3) here ∙ ap (λ l. l ++ passing when block) e1 ∙ append_assoc c0 first (passing when block)

-- ---- the loops

pub while_is : (c0 c1 c2 c3 c4 test round : List Instruction) (head exit : ℕ) → c1 ≡ c0 ++ I.Spend ∷ [] → head ≡ length c1 → c2 ≡ c1 ++ test → exit ≡ length c2 → c3 ≡ c2 ++ I.Finish ∷ [] → Rounds round head exit c3 c4 → c4 ≡ c0 ++ I.Spend ∷ looping test round
while_is c0 c1 c2 c3 c4 test round head exit e1 at_head e2 at_exit e3 rounds =
    rounds c1 test I.Finish (e3 ∙ ap (λ l. l ++ I.Finish ∷ []) e2 ∙ append_assoc c1 test (I.Finish ∷ [])) at_head (at_exit ∙ ap length e2)
    ∙ ap (λ l. l ++ looping test round) e1 ∙ append_assoc c0 (I.Spend ∷ []) (looping test round)

pub do_is : (c0 c1 c2 c3 c4 c5 test round : List Instruction) (start head exit : ℕ) → c1 ≡ c0 ++ I.Finish ∷ [] → start ≡ length c0 → head ≡ length c1 → c2 ≡ c1 ++ test → exit ≡ length c2 → c3 ≡ c2 ++ I.Finish ∷ [] → JumpsOver W.Always start c3 c4 → Rounds round head exit c4 c5 →
    c5 ≡ c0 ++ I.Jump W.Always (suc (length (test ++ I.Finish ∷ []))) ∷ looping test round
do_is c0 c1 c2 c3 c4 c5 test round start head exit e1 at_start at_head e2 at_exit e3 jumps rounds =
    let jump = I.Jump W.Always (suc (length (test ++ I.Finish ∷ []))) in
    let flat : c3 ≡ c0 ++ I.Finish ∷ (test ++ I.Finish ∷ []) = behind c0 c1 c3 (test ++ I.Finish ∷ []) I.Finish e1 (e3 ∙ ap (λ l. l ++ I.Finish ∷ []) e2 ∙ append_assoc c1 test (I.Finish ∷ [])) in
    let jumped : c4 ≡ c0 ++ jump ∷ (test ++ I.Finish ∷ []) = jumps c0 (test ++ I.Finish ∷ []) I.Finish flat at_start in
    let here : head ≡ length (c0 ++ jump ∷ []) = at_head ∙ ap length e1 ∙ length-append c0 (I.Finish ∷ []) ∙ sym (length-append c0 (jump ∷ [])) in
    let out : exit ≡ length ((c0 ++ jump ∷ []) ++ test) =
    omega (arith, at_exit, ap length e2, length-append c1 test, at_head, here, length-append (c0 ++ jump ∷ []) test) in
    rounds (c0 ++ jump ∷ []) test I.Finish (jumped ∙ sym (append_assoc c0 (jump ∷ []) (test ++ I.Finish ∷ []))) here out
    ∙ append_assoc c0 (jump ∷ []) (looping test round)

pub for_is : (c0 c1 c2 c3 c4 c5 c6 first test round last : List Instruction) (head exit : ℕ) → c1 ≡ c0 ++ first → c2 ≡ c1 ++ I.Spend ∷ [] → head ≡ length c2 → c3 ≡ c2 ++ test → exit ≡ length c3 → c4 ≡ c3 ++ I.Finish ∷ [] → Rounds round head exit c4 c5 → c6 ≡ c5 ++ last →
    c6 ≡ c0 ++ (first ++ I.Spend ∷ (looping test round ++ last))
for_is c0 c1 c2 c3 c4 c5 c6 first test round last head exit e1 e2 at_head e3 at_exit e4 rounds e6 =
    e6 ∙ ap (λ l. l ++ last) (while_is c1 c2 c3 c4 c5 test round head exit e2 at_head e3 at_exit e4 rounds)
    ∙ append_assoc c1 (I.Spend ∷ looping test round) last ∙ ap (λ l. l ++ I.Spend ∷ (looping test round ++ last)) e1 ∙ append_assoc c0 first (I.Spend ∷ (looping test round ++ last))
