use Rattle.std.proofs.Common.{rules, ◌++◌, ◌∷◌, [], ℕ, ℤ, List, length}
use Rattle.clause_db.specs.Log.{literal_lists, results}
use Rattle.sat_search.proofs.Deciding.{searching_decided}
use Rattle.unit_propagation.specs.Watching.{entries}
use Rattle.unit_propagation.proofs.SettleSteps.{watched-push}
use Rattle.unit_propagation.proofs.Watchings.{watched_open}
use Rattle.sat_search.proofs.solver.decide.Goals as goal

pub returns-in_ok-push-in-Some-clause-searching : goal.returns-in_ok-push-in-Some-clause-searching
returns-in_ok-push-in-Some-clause-searching g c =
    let trail = c.args.trail.now in
    let clauses : List (List ℤ) = literal_lists c.args.clauses.now.list.items ++ results c.args.lines.now in
    let e = c.in_ok-push-in-Some.ensures in
    let o = c.in_ok-open_level-in-Some.ensures in
    rw (e.literals, e.reasons, e.starts, o.literals, o.reasons, o.starts) (searching_decided clauses trail.literals.items trail.starts.items trail.reasons.items c.requires.searching c.requires.quiet trail.starts_right _ (search rules))

pub returns-in_ok-push-in-Some-clause-watched : goal.returns-in_ok-push-in-Some-clause-watched
returns-in_ok-push-in-Some-clause-watched g c =
    let trail = c.args.trail.now in
    let w = c.args.watches.now in
    let n : ℕ = length trail.places.items in
    let clauses : List (List ℤ) = literal_lists c.args.clauses.now.list.items ++ results c.args.lines.now in
    let e = c.in_ok-push-in-Some.ensures in
    let o = c.in_ok-open_level-in-Some.ensures in
    rw (c.push.ensures.variables, c.open_level.ensures.variables, e.literals, e.starts, o.literals, o.starts) (watched-push clauses trail.literals.items (trail.starts.items ++ length trail.literals.items ∷ []) n w.head w.pairs.items (entries w.lists.items) w.pending.items (watched_open trail.literals.items trail.starts.items clauses n w.head w.pairs.items (entries w.lists.items) w.pending.items c.requires.handled c.requires.watched) _)
