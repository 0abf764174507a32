-- A file becomes one program, or breaks one rule first.
use Rattle.std.proofs.Common.{◌≡◌, ◌≤◌, List, Option, Some, None, Result, Ok, Err, inl, inr, sym, ap, ap₂, ◌∙◌, subst, arith}
use Rattle.rvt_tree.specs.declared.places.Place.{Place}
use Rattle.c_syntax.specs.Syntax as s
use Rattle.expression_typing.specs.Outcomes.{Cause, address_on_a_call_cycle, no_body, Outcome, Made, Broken}
use Rattle.expression_typing.specs.Progress.{Call, Notes}
use Rattle.file_typing.specs.CallCycles.{first_without_body, IsNotBehind, IsFirstAddressOnCycle, HasNoAddressOnCycle}
use Rattle.file_typing.specs.Elaboration.{OneAnswer, Break, Elaborated, breaks_a_rule, calls_no_body, takes_address_on_cycle, is_program, program_of}
use Rattle.file_typing.specs.FileScope.{FileScope}
use Rattle.file_typing.specs.Programs.{ProgramView}

-- ---- outcomes

abbrev file_or : FileScope → Outcome FileScope → FileScope
file_or other (Made file notes) = file
file_or other (Broken cause place) = other

abbrev answer_of : Outcome FileScope → Result ProgramView Break
answer_of (Made file notes) = Ok (program_of file)
answer_of (Broken cause place) = Err (record { cause = cause; place = place })

made_once : {o : Outcome FileScope} {a b : FileScope} {m n : Notes} → o ≡ Made a m → o ≡ Made b n → a ≡ b
made_once {a = a} e f = ap (file_or a) (sym e ∙ f)

broken_once : {o : Outcome FileScope} {c d : Cause} {p q : Place} → o ≡ Broken c p → o ≡ Broken d q → answer_of (Broken c p) ≡ answer_of (Broken d q)
broken_once e f = ap answer_of (sym e ∙ f)

not_both : {o : Outcome FileScope} {a : FileScope} {m : Notes} {c : Cause} {p : Place} → o ≡ Made a m → o ≡ Broken c p → ⊥
not_both {a = a} {m = m} {c = c} {p = p} e f = absurd (let q : Made a m ≡ Broken c p = sym e ∙ f in cc)

-- ---- calls of functions without a body

abbrev call_or : Call → Option Call → Call
call_or other (Some call) = call
call_or other None = other

call_once : {o : Option Call} {c d : Call} → o ≡ Some c → o ≡ Some d → c ≡ d
call_once {c = c} e f = ap (call_or c) (sym e ∙ f)

call_or_none : {o : Option Call} {c : Call} → o ≡ Some c → o ≡ None → ⊥
call_or_none {c = c} e f = absurd (let q : Some c ≡ None = sym e ∙ f in cc)

abbrev first_call : FileScope → Option Call
first_call file = first_without_body file.functions

calls_once : {a b : FileScope} {c d : Call} → a ≡ b → first_call a ≡ Some c → first_call b ≡ Some d → c ≡ d
calls_once same e f = call_once e (ap first_call same ∙ f)

calls_or_none : {a b : FileScope} {c : Call} → a ≡ b → first_call a ≡ Some c → first_call b ≡ None → ⊥
calls_or_none same e f = call_or_none e (ap first_call same ∙ f)

-- ---- places

same_place : {a b : Place} → a.line ≡ b.line → a.column ≡ b.column → a ≡ b
same_place e f = ap₂ (λ line column. record { line = line; column = column }) e f

-- two places, neither of which is behind the other
not_behind_both : {a b : Place} → IsNotBehind a b → IsNotBehind b a → a ≡ b
not_behind_both {a} {b} (inl h) (inl k) = absurd (let no : ⊥ = omega (arith, h, k) in no)
not_behind_both {a} {b} (inl h) (inr k) = absurd (let e : b.line ≡ a.line = k.0 in let no : ⊥ = omega (arith, h, e) in no)
not_behind_both {a} {b} (inr h) (inl k) = absurd (let e : a.line ≡ b.line = h.0 in let no : ⊥ = omega (arith, k, e) in no)
not_behind_both {a} {b} (inr h) (inr k) =
    same_place h.0 (let l : a.column ≤ b.column = h.1 in let m : b.column ≤ a.column = k.1 in let e : a.column ≡ b.column = omega (arith, l, m) in e)

abbrev first_at : Place → FileScope → Type 0
first_at place file = IsFirstAddressOnCycle file.functions place

both_first : (file : FileScope) (p q : Place) → IsFirstAddressOnCycle file.functions p → IsFirstAddressOnCycle file.functions q → p ≡ q
both_first file p q h k = not_behind_both (h.first q k.there) (k.first p h.there)

address_once : {a b : FileScope} (p q : Place) → a ≡ b → first_at p a → first_at q b → p ≡ q
address_once {a = a} p q same h k = both_first a p q h (subst (first_at q) (sym same) k)

first_or_none : (file : FileScope) (p : Place) → IsFirstAddressOnCycle file.functions p → HasNoAddressOnCycle file.functions → ⊥
first_or_none file p h none = none p h.there

address_or_none : {a b : FileScope} (p : Place) → a ≡ b → first_at p a → HasNoAddressOnCycle b.functions → ⊥
address_or_none {b = b} p same h none = first_or_none b p (subst (first_at p) same h) none

-- ---- answers

abbrev answer_of_call : Call → Result ProgramView Break
answer_of_call call = Err (record { cause = no_body call.name; place = call.place })

abbrev answer_of_place : Place → Result ProgramView Break
answer_of_place place = Err (record { cause = address_on_a_call_cycle; place = place })

abbrev answer_of_file : FileScope → Result ProgramView Break
answer_of_file file = Ok (program_of file)

pub one_answer : (items : List s.ExternalItem) (a b : Result ProgramView Break) → Elaborated items a → Elaborated items b → a ≡ b
one_answer items _ _ (breaks_a_rule e) (breaks_a_rule f) = broken_once e f
one_answer items _ _ (breaks_a_rule e) (calls_no_body m c) = absurd (not_both m e)
one_answer items _ _ (breaks_a_rule e) (takes_address_on_cycle m c h) = absurd (not_both m e)
one_answer items _ _ (breaks_a_rule e) (is_program m c h) = absurd (not_both m e)
one_answer items _ _ (calls_no_body m c) (breaks_a_rule f) = absurd (not_both m f)
one_answer items _ _ (calls_no_body m c) (calls_no_body n d) = ap answer_of_call (calls_once (made_once m n) c d)
one_answer items _ _ (calls_no_body m c) (takes_address_on_cycle n d k) = absurd (calls_or_none (made_once m n) c d)
one_answer items _ _ (calls_no_body m c) (is_program n d k) = absurd (calls_or_none (made_once m n) c d)
one_answer items _ _ (takes_address_on_cycle m c h) (breaks_a_rule f) = absurd (not_both m f)
one_answer items _ _ (takes_address_on_cycle m c h) (calls_no_body n d) = absurd (calls_or_none (made_once n m) d c)
one_answer items _ _ (takes_address_on_cycle {at = p} m c h) (takes_address_on_cycle {at = q} n d k) = ap answer_of_place (address_once p q (made_once m n) h k)
one_answer items _ _ (takes_address_on_cycle {at = p} m c h) (is_program n d k) = absurd (address_or_none p (made_once m n) h k)
one_answer items _ _ (is_program m c h) (breaks_a_rule f) = absurd (not_both m f)
one_answer items _ _ (is_program m c h) (calls_no_body n d) = absurd (calls_or_none (made_once n m) d c)
one_answer items _ _ (is_program m c h) (takes_address_on_cycle {at = q} n d k) = absurd (address_or_none q (made_once n m) k h)
one_answer items _ _ (is_program m c h) (is_program n d k) = ap answer_of_file (made_once m n)

pub holds : OneAnswer
holds = one_answer
