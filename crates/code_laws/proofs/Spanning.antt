-- Code in parts.
use Rattle.std.proofs.Common.{◌≡◌, ℕ, suc, ◌+◌, List, [], ◌∷◌, ◌++◌, length, length-append, refl, sym, ◌∙◌, subst, arith}
use Rattle.rvt_tree.specs.declared.programs.Program.{Program}
use Rattle.c_meaning.specs.Outcomes.{State}
use Rattle.c_tasks.specs.Operands.{Operands}
use Rattle.c_tasks.specs.Tasks.{Rest}
use Rattle.c_code.specs.Expressions.{passing, choosing}
use Rattle.c_code.specs.declared.instructions.When.TheVariants as W
use Rattle.c_code.specs.Initializers.{Counts}
use Rattle.c_code.specs.declared.instructions.Instruction.{Instruction}
use Rattle.c_code.specs.declared.instructions.Instruction.TheVariants as I
use Rattle.code_laws.specs.Effects.{effect, Heights}
use Rattle.code_laws.specs.Stands.{Spans, Stands, goes, begins, jumps, skips, turns, selects, ends, ending_by, jumping}

pub split : (code : List Instruction) (from to : ℕ) (a b : List Instruction) → Spans code from to (a ++ b) → (middle : ℕ) × Spans code from middle a × Spans code middle to b
split code from to [] b h = (from, refl, h)
split code from to (i ∷ a) b h = let r = split code (suc from) to a b h.1 in (r.0, (h.0, r.1), r.2)

pub length_of_span : (code : List Instruction) (from to : ℕ) (a : List Instruction) → Spans code from to a → to ≡ from + length a
length_of_span code from to [] h = omega (arith, h)
length_of_span code from to (i ∷ a) h = omega (arith, length_of_span code (suc from) to a h.1)

ended : (i : Instruction) (k k' : Rest) → ((on : Operands) (s : State ℕ) → k' on s ≡ k on s) → ending_by i k → ending_by i k'
ended (I.Return slot) k k' e by = λ on s. e on s ∙ by on s
ended I.ReturnNothing k k' e by = λ on s. e on s ∙ by on s
ended I.Finish k k' e by = λ on s. e on s ∙ by on s
ended other k k' e by = absurd by

-- what is to come may be said in other words
module _ (program : Program) (d : ℕ) (counts : Counts) (code : List Instruction) where
  pub alike : (pc h p : ℕ) (k k' : Rest) → ((on : Operands) (s : State ℕ) → k' on s ≡ k on s) → Stands program d counts code pc h p k → Stands program d counts code pc h p k'
  alike pc h p k k' e (goes h' p' next i at heights is behind) = goes h' p' next i at heights (λ on s. e on s ∙ is on s) behind
  alike pc h p k k' e (begins next variable at is behind) = begins next variable at (λ on s fits. e on s ∙ is on s fits) behind
  alike pc h p k k' e (jumps h' next far when n at heights is behind further) = jumps h' next far when n at heights (λ on s. e on s ∙ is on s) behind further
  alike pc h p k k' e (skips next labels n at is further) = skips next labels n at (λ on s. e on s ∙ is on s) further
  alike pc h p k k' e (turns n head fin next st at back spans end is exit) = turns n head fin next st at back spans end (λ on s. e on s ∙ is on s) exit
  alike pc h p k k' e (selects fin next groups at spans last is further) = selects fin next groups at spans last (λ on s. e on s ∙ is on s) further
  alike pc h p k k' e (ends i at by) = ends i at (ended i k k' e by)

  -- one instruction
  pub one : {from to h p h' p' : ℕ} {k next : Rest} (i : Instruction) → Spans code from to (i ∷ []) → Heights i h p h' p' → ((on : Operands) (s : State ℕ) → k on s ≡ effect program d i next on s) →
      Stands program d counts code to h' p' next → Stands program d counts code from h p k
  one {h' = h'} {p' = p'} {next = next} i spans heights is behind = goes h' p' next i spans.0 heights is (subst (λ n. Stands program d counts code n h' p' next) (sym spans.1) behind)

  -- one of two blocks
  pub choice : (slot h p from to : ℕ) (first second : List Instruction) (near far next : Rest) → Spans code from to (choosing slot first second) →
      ((middle : ℕ) → Spans code (suc from) middle first → Stands program d counts code middle h p next → Stands program d counts code (suc from) slot p near) →
      ((middle : ℕ) → Spans code middle to second → Stands program d counts code middle slot p far) →
      Stands program d counts code to h p next → Stands program d counts code from (suc slot) p (jumping (W.Unless slot) near far)
  choice slot h p from to first second near far next spans on_first on_second after =
      let parts = split code (suc from) to first (passing W.Always second) spans.1 in
      let middle = parts.0 in
      let away : suc middle ≡ from + suc (length (first ++ I.Finish ∷ [])) = omega (arith, length_of_span code (suc from) middle first parts.1, length-append first (I.Finish ∷ [])) in
      let over : to ≡ middle + suc (length second) = omega (arith, length_of_span code (suc middle) to second parts.2.1) in
      let behind = jumps h next next W.Always (suc (length second)) parts.2.0 refl (λ on s. refl) (λ no. absurd (no refl)) (subst (λ n. Stands program d counts code n h p next) over after) in
      jumps slot near far (W.Unless slot) (suc (length (first ++ I.Finish ∷ []))) spans.0 (refl, refl) (λ on s. refl) (λ _. on_first middle parts.1 behind)
      (subst (λ n. Stands program d counts code n slot p far) away (on_second (suc middle) parts.2.1))
