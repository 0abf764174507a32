-- Literals as numbers.
use Rattle.std.specs.Prelude.{◌≡◌, ℕ, zero, suc, ◌+◌, ◌*◌, ◌/◌, ◌%◌, ◌<◌, ◌==◌, Bool, ◌&&◌, cond}
use Rattle.std.proofs.Common.{arith, refl}
use Rattle.aig_build.specs.declared.lits.Lit.{Lit}

-- twice the node, and one more where the literal is negated
abbrev pub code_of : Lit → ℕ
code_of lit = 2 * lit.node + cond lit.negated 1 0

-- the literal with this number
abbrev pub lit_of : ℕ → Lit
lit_of code = record { node = code / 2; negated = code % 2 == 1 }

one_of_two : (code bit : ℕ) → bit < 2 → code % 2 ≡ bit → 2 * (code / 2) + cond (bit == 1) 1 0 ≡ code
one_of_two code zero h e = omega arith
one_of_two code (suc zero) h e = omega arith
one_of_two code (suc (suc n)) h e = absurd (omega arith)

-- a number is that of its literal
pub code_of-lit_of : (code : ℕ) → code_of (lit_of code) ≡ code
code_of-lit_of code = one_of_two code (code % 2) (omega arith) refl

-- two gates are the same where the numbers of their operands are
abbrev pub same_packed : Lit × Lit → Lit × Lit → Bool
same_packed g h = code_of g.0 == code_of h.0 && code_of g.1 == code_of h.1
