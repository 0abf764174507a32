use Rattle.std.proofs.Common.{arith, ◌≡◌, ◌≢◌, ◌++◌, ◌+◌, ◌<◌, ◌≤◌, ℕ, ℤ, List, length, inr, subst, sym, ap, refl, get_or, true, false}
use Rattle.std.specs.Bool.{OnTrue}
use Rattle.clause_db.specs.Log.{literal_lists, results, ResolvesTo}
use Rattle.clause_db.specs.Numbered.{IsNumbered}
use Rattle.clause_db.specs.Resolution.{ClashesOnlyAt, IsResolvent}
use Rattle.chain_resolution.specs.Marked.{marked}
use Rattle.chain_resolution.proofs.Tables.{marked_ordered}
use Rattle.refutation_check.specs.Faults.{ChainFault}
use Rattle.refutation_check.proofs.Chains.{no_clause, chain_without_clause, chain_without_clash, fault_behind, resolves_behind, nothing_left}
use Rattle.refutation_check.proofs.lines.fault_of_line.Goals as goal

pub returns-in_default-clause_at : goal.returns-in_default-clause_at
returns-in_default-clause_at c =
    let clauses : List (List ℤ) = literal_lists c.args.clauses.now.list.items ++ results c.args.before.now in
    let i = c.loop-pivot.invariant in
    let pivots = c.args.line.now.pivots.items in
    let none = subst (λ (ps : List (ℕ × ℕ)). (0 < (get_or ps c.loop-pivot.pivot-index (0, 0)).1) × ((get_or ps c.loop-pivot.pivot-index (0, 0)).1 ≤ length c.args.clauses.now.list.items + length c.args.before.now) → false ≡ true) c.deref-pivot-items.ensures.value c.in_default-clause_at.ensures.exists.1 in
    inr (i.0, i.1, i.3 51 (chain_without_clause clauses (marked c.loop-pivot.marks.table.items) pivots c.loop-pivot.pivot-index (let e = ap length c.deref-pivot-items.ensures.value in omega (arith, e, c.loop-pivot-test.true)) c.args.line.now.result.literals.items (no_clause c.args.clauses.now.list.items c.args.before.now _ none)))

pub returns-then-not-branch : goal.returns-then-not-branch
returns-then-not-branch c =
    let clauses : List (List ℤ) = literal_lists c.args.clauses.now.list.items ++ results c.args.before.now in
    let i = c.loop-pivot.invariant in
    let pivots = c.args.line.now.pivots.items in
    let current : List ℤ = marked c.loop-pivot.marks.table.items in
    let other : List ℤ = c.in-Some-clause_at.other.now.literals.items in
    let numbered = subst (λ (ps : List (ℕ × ℕ)). IsNumbered clauses (get_or ps c.loop-pivot.pivot-index (0, 0)).1 other) c.deref-pivot-items.ensures.value c.in-Some-clause_at.ensures.found in
    let no_clash = subst (λ (ps : List (ℕ × ℕ)). ClashesOnlyAt (get_or ps c.loop-pivot.pivot-index (0, 0)).0 current other → c.in_ok-resolve_with.field-0 ≡ true) c.deref-pivot-items.ensures.value c.in_ok-resolve_with.ensures.answer.1 in
    inr (i.0, i.1, i.3 52 (chain_without_clash clauses current pivots c.loop-pivot.pivot-index (let e = ap length c.deref-pivot-items.ensures.value in omega (arith, e, c.loop-pivot-test.true)) c.args.line.now.result.literals.items other numbered (λ clash. cc (no_clash clash, c.if-not-branch.true))))

pub loop-pivot-preserved : goal.loop-pivot-preserved
loop-pivot-preserved c =
    let clauses : List (List ℤ) = literal_lists c.args.clauses.now.list.items ++ results c.args.before.now in
    let i = c.loop-pivot.invariant in
    let pivots = c.args.line.now.pivots.items in
    let current : List ℤ = marked c.loop-pivot.marks.table.items in
    let new : List ℤ = marked c.resolve_with.new.self.table.items in
    let other : List ℤ = c.in-Some-clause_at.other.now.literals.items in
    let to : List ℤ = c.args.line.now.result.literals.items in
    let within : c.loop-pivot.pivot-index < length pivots = (let e = ap length c.deref-pivot-items.ensures.value in omega (arith, e, c.loop-pivot-test.true)) in
    let numbered = subst (λ (ps : List (ℕ × ℕ)). IsNumbered clauses (get_or ps c.loop-pivot.pivot-index (0, 0)).1 other) c.deref-pivot-items.ensures.value c.in-Some-clause_at.ensures.found in
    let clash = subst (λ (ps : List (ℕ × ℕ)). ClashesOnlyAt (get_or ps c.loop-pivot.pivot-index (0, 0)).0 current other) c.deref-pivot-items.ensures.value (c.in_ok-resolve_with.ensures.answer.0 c.if-not-branch.false) in
    let resolvent = subst (λ (ps : List (ℕ × ℕ)). IsResolvent (get_or ps c.loop-pivot.pivot-index (0, 0)).0 current other new) c.deref-pivot-items.ensures.value (subst (λ done. OnTrue done (IsResolvent (get_or c.deref-pivot-items.result.now c.loop-pivot.pivot-index (0, 0)).0 current other new)) c.if-not-branch.false c.in_ok-resolve_with.ensures.resolvent) in
    let ordered = marked_ordered c.resolve_with.new.self.table.items c.resolve_with.new.self.at_variables in
    (i.0, i.1, (λ chain. i.2 (resolves_behind clauses current pivots c.loop-pivot.pivot-index within to other numbered new clash resolvent ordered chain)), (λ cause fault. i.3 cause (fault_behind clauses current pivots c.loop-pivot.pivot-index within to other numbered new clash resolvent ordered cause fault)))

pub returns-then-is : goal.returns-then-is
returns-then-is c =
    let clauses : List (List ℤ) = literal_lists c.args.clauses.now.list.items ++ results c.args.before.now in
    let i = c.loop-pivot.invariant in
    let pivots = c.args.line.now.pivots.items in
    let current : List ℤ = marked c.loop-pivot.marks.table.items in
    let to : List ℤ = c.args.line.now.result.literals.items in
    let same : current ≡ to = c.is.ensures.0 c.if-is.true in
    let rest = nothing_left pivots c.loop-pivot.pivot-index (let e = ap length c.deref-pivot-items.ensures.value in omega (arith, e, c.loop-pivot-test.false)) in
    record { start = i.0; is_earlier = i.1; chain = i.2 (subst (λ (ps : List (ℕ × ℕ)). ResolvesTo clauses current ps to) (sym rest) same) }

pub returns-else-is : goal.returns-else-is
returns-else-is c =
    let clauses : List (List ℤ) = literal_lists c.args.clauses.now.list.items ++ results c.args.before.now in
    let i = c.loop-pivot.invariant in
    let pivots = c.args.line.now.pivots.items in
    let current : List ℤ = marked c.loop-pivot.marks.table.items in
    let to : List ℤ = c.args.line.now.result.literals.items in
    let differ : current ≢ to = λ e. cc (c.is.ensures.1 e, c.if-is.false) in
    let rest = nothing_left pivots c.loop-pivot.pivot-index (let e = ap length c.deref-pivot-items.ensures.value in omega (arith, e, c.loop-pivot-test.false)) in
    inr (i.0, i.1, i.3 53 (subst (λ (ps : List (ℕ × ℕ)). ChainFault clauses current ps to 53) (sym rest) (differ, refl)))
