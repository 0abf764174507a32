use Rattle.std.proofs.Common.{rules, ◌≡◌, ◌++◌, ◌∙◌, pos, ℤ, w64, List, subst}
use Rattle.std.specs.Prelude.{Contains}
use Rattle.std.proofs.lemmas.Int.{to_z-of_z}
use Rattle.std.proofs.lemmas.List.{get_or_read}
use mir.Val.{SFits, of_z, to_z}
use Rattle.clause_db.specs.Literal.{opposite}
use Rattle.clause_db.specs.Log.{literal_lists, results}
use Rattle.unit_propagation.specs.Places.{literal_at}
use Rattle.refutation_check.specs.Budget.{opposites_outside}
use Rattle.refutation_check.specs.Runs.{StaysDecided, RefutesWith}
use Rattle.refutation_check.proofs.RunSteps.{other_assumed, map_true, map_false}
use Rattle.refutation_check.proofs.tries.assume_at.Goals as goal

pub returns-clause-decided : goal.returns-clause-decided
returns-clause-decided c =
    let clauses : List (List ℤ) = literal_lists c.args.clauses.now.list.items ++ results c.args.before.now in
    let clause : List ℤ = c.args.order.now.literals.items in
    let old = c.args.trail.now in
    let new = c.assume_false.new.trail in
    let x : ℤ = c.index.result.now in
    let fits : SFits w64 x = search rules in
    let read : to_z w64 (of_z w64 x) ≡ literal_at clause c.args.place = to_z-of_z w64 x fits ∙ get_or_read clause c.args.place x c.requires.within c.index.ensures (pos 0) in
    let e = c.in_ok-fine.ensures in
    let other = other_assumed c.args.order.now.literals.items c.args.order.now.distinct c.args.order.now.in_range c.args.left_out.from c.args.left_out.to c.args.place c.requires.within c.requires.outside in
    map_true c.in_ok-fine.fine (λ (d : StaysDecided (to_z w64 (of_z w64 x)) old new). subst (λ l. StaysDecided l old new) read d (opposites_outside clause c.args.left_out.from c.args.left_out.to) other c.requires.decided) e.decided

pub returns-clause-false_there : goal.returns-clause-false_there
returns-clause-false_there c =
    let clauses : List (List ℤ) = literal_lists c.args.clauses.now.list.items ++ results c.args.before.now in
    let clause : List ℤ = c.args.order.now.literals.items in
    let old = c.args.trail.now in
    let new = c.assume_false.new.trail in
    let x : ℤ = c.index.result.now in
    let fits : SFits w64 x = search rules in
    let read : to_z w64 (of_z w64 x) ≡ literal_at clause c.args.place = to_z-of_z w64 x fits ∙ get_or_read clause c.args.place x c.requires.within c.index.ensures (pos 0) in
    let e = c.in_ok-fine.ensures in
    map_true c.in_ok-fine.fine (λ (w : Contains new.literals.items (opposite (to_z w64 (of_z w64 x)))). subst (λ l. Contains new.literals.items (opposite l)) read w) e.false_there

pub returns-clause-refuted : goal.returns-clause-refuted
returns-clause-refuted c =
    let clauses : List (List ℤ) = literal_lists c.args.clauses.now.list.items ++ results c.args.before.now in
    let clause : List ℤ = c.args.order.now.literals.items in
    let old = c.args.trail.now in
    let new = c.assume_false.new.trail in
    let x : ℤ = c.index.result.now in
    let fits : SFits w64 x = search rules in
    let read : to_z w64 (of_z w64 x) ≡ literal_at clause c.args.place = to_z-of_z w64 x fits ∙ get_or_read clause c.args.place x c.requires.within c.index.ensures (pos 0) in
    let e = c.in_ok-fine.ensures in
    let other = other_assumed c.args.order.now.literals.items c.args.order.now.distinct c.args.order.now.in_range c.args.left_out.from c.args.left_out.to c.args.place c.requires.within c.requires.outside in
    map_false c.in_ok-fine.fine (λ (r : RefutesWith clauses (to_z w64 (of_z w64 x)) old). subst (λ l. RefutesWith clauses l old) read r (opposites_outside clause c.args.left_out.from c.args.left_out.to) other c.requires.decided) e.refuted
