use Rattle.std.proofs.Common.{arith, ◌≡◌, ◌<◌, ◌+◌, ◌-◌, ◌*◌, ◌/◌, ◌++◌, ◌∙◌, ℕ, ℤ, List, sym, subst}
use Rattle.std.specs.Prelude.{All}
use Rattle.clause_db.specs.Literal.{variable_of}
use Rattle.clause_db.specs.Log.{literal_lists, results}
use Rattle.unit_propagation.specs.Places.{literal_at}
use Rattle.unit_propagation.proofs.Consistent.{consistent_from_places}
use Rattle.refutation_check.specs.Budget.{opposites_outside}
use Rattle.refutation_check.specs.Runs.{IsBack, AreDecidedFrom, AreFalseOutside}
use Rattle.refutation_check.proofs.Assumed.{none_new, opposites_narrow}
use Rattle.refutation_check.proofs.RunSteps.{from_true, from_false, others_of_both, outside_both, new_in_quiet, true_not_new}
use Rattle.refutation_check.proofs.GoingOn.{goes_on_more, goes_on_extends, goes_on_back, quiet_back, decided_back, false_back}
use Rattle.refutation_check.proofs.Middles.{above, below, new_at_one, new_in_second}
use Rattle.refutation_check.proofs.halves.+halves.Goals as goal

pub is_new_among-returns-then-places-eq1-clause-answer : goal.is_new_among-returns-then-places-eq1-clause-answer
is_new_among-returns-then-places-eq1-clause-answer n c =
    let clauses : List (List ℤ) = literal_lists c.args.clauses.now.list.items ++ results c.args.before.now in
    let clause : List ℤ = c.args.order.now.literals.items in
    let trail = c.args.trail.now in
    let from : ℕ = c.args.places.from in
    let to : ℕ = c.args.places.to in
    let one : to ≡ from + 1 = omega (arith, c.if-places-eq1.true) in
    let others : AreFalseOutside clause from (from + 1) trail.literals.items = subst (λ k. AreFalseOutside clause from k trail.literals.items) one c.requires.others in
    let decided : AreDecidedFrom (opposites_outside clause from (from + 1)) trail = subst (λ k. AreDecidedFrom (opposites_outside clause from k) trail) one c.requires.decided in
    let consistent = consistent_from_places trail.literals.items trail.places.items trail.places_right in
    new_at_one clauses clause trail.literals.items from to c.is_true_at.result one (new_in_quiet clauses clause from trail.literals.items others consistent c.requires.run.quiet) (true_not_new clauses clause from trail c.requires.run.run.has_reasons decided) c.is_true_at.ensures

pub is_new_among-is_new_without-requires : goal.is_new_among-is_new_without-requires
is_new_among-is_new_without-requires n c =
    let clause : List ℤ = c.args.order.now.literals.items in
    let trail = c.args.trail.now in
    let from : ℕ = c.args.places.from in
    let to : ℕ = c.args.places.to in
    let low : from < from + (to - from) / 2 = above from to c.requires.some c.if-places-eq1.false in
    let high : from + (to - from) / 2 < to = below from to c.requires.some c.if-places-eq1.false in (
      (let d : 2 * (to - from) ≡ n = c.decreases in omega (arith, d, low)),
      (
        c.requires.fits,
        (
          omega (arith, high, c.requires.within),
          (
            high,
            (
              c.requires.within,
              (
                (λ k a b over under. omega (arith, b, over)),
                (
                  c.requires.run,
                  (
                    (λ p h w. opposites_narrow clause from to (from + (to - from) / 2) to (omega (arith, low)) (omega arith) (literal_at trail.literals.items p) (c.requires.decided p h w)),
                    outside_both clause from (from + (to - from) / 2) to trail.literals.items c.requires.others,
                  ),
                ),
              ),
            ),
          ),
        ),
      ),
    )

pub is_new_among-is_new_without-requires-2 : goal.is_new_among-is_new_without-requires-2
is_new_among-is_new_without-requires-2 n c =
    let clauses : List (List ℤ) = literal_lists c.args.clauses.now.list.items ++ results c.args.before.now in
    let clause : List ℤ = c.args.order.now.literals.items in
    let trail = c.args.trail.now in
    let new = c.take_back.new.trail in
    let watches = c.take_back.new.watches in
    let from : ℕ = c.args.places.from in
    let to : ℕ = c.args.places.to in
    let low : from < from + (to - from) / 2 = above from to c.requires.some c.if-places-eq1.false in
    let high : from + (to - from) / 2 < to = below from to c.requires.some c.if-places-eq1.false in
    let e = c.in_ok-is_new_without.ensures in
    let back : IsBack trail new watches.head = c.take_back.ensures.back trail (omega (arith, c.len-level.ensures, trail.starts.ok.0)) e.goes_on in
    let decided = decided_back trail new watches back (opposites_outside clause from to) c.requires.decided in
    let others = false_back trail new watches back clause from to c.requires.others in (
      (let d : 2 * (to - from) ≡ n = c.decreases in omega (arith, d, high)),
      (
        subst (λ m. All (λ l. variable_of l < m) clause) (sym (c.take_back.ensures.variables ∙ e.variables)) c.requires.fits,
        (
          c.requires.within,
          (
            low,
            (
              omega (arith, high, c.requires.within),
              (
                (λ k over under a b. omega (arith, b, over)),
                (
                  quiet_back trail new watches back clauses c.args.watches.now c.requires.run (c.take_back.ensures.run clauses e.run),
                  (
                    (λ p h w. opposites_narrow clause from to from (from + (to - from) / 2) (omega arith) (omega (arith, high)) (literal_at new.literals.items p) (decided p h w)),
                    (λ k h first second. outside_both clause from (from + (to - from) / 2) to new.literals.items others k h second first),
                  ),
                ),
              ),
            ),
          ),
        ),
      ),
    )

pub is_new_among-returns-clause-answer : goal.is_new_among-returns-clause-answer
is_new_among-returns-clause-answer n c =
    let clauses : List (List ℤ) = literal_lists c.args.clauses.now.list.items ++ results c.args.before.now in
    let clause : List ℤ = c.args.order.now.literals.items in
    let from : ℕ = c.args.places.from in
    let to : ℕ = c.args.places.to in
    let high : from + (to - from) / 2 < to = below from to c.requires.some c.if-places-eq1.false in
    new_in_second clauses clause from (from + (to - from) / 2) to c.in_ok-is_new_without.field-0 c.in_ok-new.new high c.if-branch.false c.in_ok-is_new_without.ensures.answer c.in_ok-new.ensures.answer

pub is_new_among-returns-clause-goes_on : goal.is_new_among-returns-clause-goes_on
is_new_among-returns-clause-goes_on n c =
    let trail = c.args.trail.now in
    let new = c.take_back.new.trail in
    let watches = c.take_back.new.watches in
    let back : IsBack trail new watches.head = c.take_back.ensures.back trail (omega (arith, c.len-level.ensures, trail.starts.ok.0)) c.in_ok-is_new_without.ensures.goes_on in
    goes_on_more trail new c.is_new_without-2.new.trail watches.head c.is_new_without-2.new.watches.head (goes_on_back trail new watches back) c.in_ok-new.ensures.goes_on

pub is_new_without-returns-then-not-branch-clause-answer : goal.is_new_without-returns-then-not-branch-clause-answer
is_new_without-returns-then-not-branch-clause-answer n c =
    let clauses : List (List ℤ) = literal_lists c.args.clauses.now.list.items ++ results c.args.before.now in
    let refuted = from_false _ c.in_ok-assume_part.ensures.refuted c.if-not-branch.true in
    ((λ never. cc), λ some. absurd (none_new clauses c.args.order.now.literals.items c.args.left_out.from c.args.left_out.to refuted some))

pub is_new_without-is_new_among-requires : goal.is_new_without-is_new_among-requires
is_new_without-is_new_among-requires n c =
    let clause : List ℤ = c.args.order.now.literals.items in
    let e = c.in_ok-assume_part.ensures in
    let old = c.args.trail.now in
    let new = c.assume_part.new.trail in (
      (let d : 2 * (c.args.left_out.to - c.args.left_out.from) + 1 ≡ n = c.decreases in omega (arith, d)),
      (
        subst (λ m. All (λ l. variable_of l < m) clause) (sym c.assume_part.ensures.variables) c.requires.fits,
        (
          c.requires.some,
          (
            c.requires.within,
            (
              from_true _ e.quiet c.if-not-branch.false,
              (
                from_true _ e.decided c.if-not-branch.false,
                others_of_both clause c.args.part.from c.args.part.to c.args.left_out.from c.args.left_out.to old.literals.items new.literals.items (goes_on_extends old new c.assume_part.new.watches.head e.goes_on) (from_true _ e.false_there c.if-not-branch.false) c.requires.others,
              ),
            ),
          ),
        ),
      ),
    )

pub is_new_without-returns-clause-goes_on : goal.is_new_without-returns-clause-goes_on
is_new_without-returns-clause-goes_on n c =
    goes_on_more c.args.trail.now c.assume_part.new.trail c.is_new_among.new.trail c.assume_part.new.watches.head c.is_new_among.new.watches.head c.in_ok-assume_part.ensures.goes_on c.in_ok-new.ensures.goes_on
