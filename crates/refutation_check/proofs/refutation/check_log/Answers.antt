use Rattle.std.proofs.Common.{arith, ◌≡◌, ◌<◌, ◌+◌, ◌-◌, ◌++◌, ◌∷◌, [], ℕ, suc, ℤ, List, length, take, ap, sym, ◌∙◌, subst, inl, get_or, refl, eqb, true}
use Rattle.std.proofs.Math.Seq.{take-suc, take-length}
use Rattle.std.proofs.lemmas.List.{get_or_read}
use Rattle.std.proofs.lemmas.Bool.Decides.{nat_tests}
use Rattle.clause_db.specs.declared.clause.LogLine.{LogLine}
use Rattle.clause_db.specs.Log.{literal_lists, results}
use Rattle.refutation_check.specs.Faults.{IsVerdict, LineFault}
use Rattle.refutation_check.specs.declared.fault.LogFault.TheVariants.{Line}
use Rattle.refutation_check.proofs.Sound.{refutation_unsatisfiable}
use Rattle.refutation_check.proofs.Unique.{fault_refuses}
use Rattle.refutation_check.proofs.refutation.check_log.Goals as goal

pub returns-in-Ok-Some-clause-first_fault : goal.returns-in-Ok-Some-clause-first_fault
returns-in-Ok-Some-clause-first_fault c =
    let lines : List LogLine = c.args.log.now.lines.items in
    let list : List (List ℤ) = literal_lists c.args.clauses.now.list.items in
    let k : ℕ = c.loop-index.index in
    let line : LogLine = c.index.result.now in
    let within : k < length lines = omega (arith, c.loop-index-test.true, c.len-total.ensures, c.args.log.now.lines.ok.0) in
    let verdict = subst (λ (ls : List LogLine). IsVerdict (list ++ results (take k ls)) line c.in-Ok-Some.field-0) c.deref.ensures.value c.in-Ok-Some.ensures in
    let fault : LineFault (list ++ results (take k lines)) line c.in-Ok-Some.cause = subst (IsVerdict (list ++ results (take k lines)) line) c.in-Ok-Some.field-0-is verdict in
    inl (k, refl, within, c.loop-index.invariant, λ d. subst (λ (x : LogLine). LineFault (list ++ results (take k lines)) x c.in-Ok-Some.cause) (get_or_read lines k line within c.index.ensures d) fault)

empty_from_length : (xs : List ℤ) → length xs ≡ 0 → xs ≡ []
empty_from_length [] h = refl
empty_from_length (x ∷ xs) h = absurd (omega arith)

zero_from_test : (n : ℕ) → true ≡ eqb n 0 → n ≡ 0
zero_from_test n h = grind (arith, nat_tests)

pub returns-then-is_empty-clause-refutation : goal.returns-then-is_empty-clause-refutation
returns-then-is_empty-clause-refutation c =
    let lines : List LogLine = c.args.log.now.lines.items in
    let last : LogLine = c.index-then-total-gt0.result.now in
    let n : ℕ = c.len-total.result in
    let total : n ≡ length lines = omega (arith, c.len-total.ensures, c.args.log.now.lines.ok.0) in
    let some : 0 < n = c.if-total-gt0.true in
    let read : last ≡ get_or lines (n - 1) last = c.index-then-total-gt0.ensures in
    let whole : take (suc (n - 1)) lines ≡ lines = ap (λ k. take k lines) (let e : suc (n - 1) ≡ length lines = omega arith in e) ∙ take-length lines in
    let split : lines ≡ take (n - 1) lines ++ last ∷ [] = sym whole ∙ take-suc lines (n - 1) last (omega arith) ∙ ap (λ (x : LogLine). take (n - 1) lines ++ x ∷ []) (sym read) in
    let zero = zero_from_test _ c.if-is_empty.ensures in
    record {
      log = λ k d h. c.loop-index.invariant k d (omega (arith, h, total, c.loop-index-test.false));
      empty_at_end = (take (n - 1) lines, last, split, empty_from_length last.result.literals.items (omega (arith, zero, last.result.literals.ok.0)));
    }

pub returns-then-is_empty-clause-unsatisfiable : goal.returns-then-is_empty-clause-unsatisfiable
returns-then-is_empty-clause-unsatisfiable c =
    refutation_unsatisfiable c.args.clauses.now.list.items c.args.log.now.lines.items (returns-then-is_empty-clause-refutation c)

pub returns-in-Ok-Some-clause-refused : goal.returns-in-Ok-Some-clause-refused
returns-in-Ok-Some-clause-refused c = fault_refuses (literal_lists c.args.clauses.now.list.items) c.args.log.now.lines.items (Line (c.loop-index.index + 1) c.in-Ok-Some.cause) (returns-in-Ok-Some-clause-first_fault c)
