use Rattle.std.proofs.Common.{arith, ◌≡◌, ◌≤◌, ◌++◌, ◌+◌, ℕ, ℤ, List, [], length, subst, sym}
use Rattle.std.specs.Prelude.{All}
use Rattle.std.proofs.lemmas.List.{append-nil}
use Rattle.clause_db.specs.Literal.{variable_of}
use Rattle.clause_db.specs.Log.{literal_lists}
use Rattle.clause_db.specs.declared.clause.Clause.{Clause}
use Rattle.unit_propagation.specs.Status.{FitsVariables}
use Rattle.unit_propagation.specs.Watching.{entries, IsWatched}
use Rattle.unit_propagation.proofs.Fits.{fits_list}
use Rattle.unit_propagation.proofs.Tables.{literal_lists_length}
use Rattle.search_examples.proofs.propagation.propagated.Goals as goal

pub propagate-requires-clause-fits : goal.propagate-requires-clause-fits
propagate-requires-clause-fits c =
    let items : List Clause = c.args.clauses.now.list.items in
    let largest : ℕ = c.largest_variable-variables.result in
    let within = subst (λ cs. All (λ x. All (λ l. variable_of l ≤ largest) x) (literal_lists cs)) c.deref.ensures.value c.largest_variable-variables.ensures.within in
    subst (λ n. FitsVariables n (literal_lists items ++ [])) (sym c.in_ok-trail.ensures.variables) (subst (FitsVariables (largest + 1)) (sym (append-nil (literal_lists items))) (fits_list items largest within))

pub propagate-requires-clause-watched : goal.propagate-requires-clause-watched
propagate-requires-clause-watched c =
    let list : List (List ℤ) = literal_lists c.args.clauses.now.list.items in
    let w = c.in_ok-watches.watches in
    let t = c.in_ok-trail.ensures in
    rw (t.empty, t.no_decision, t.variables) (subst (λ cs. IsWatched cs [] [] (c.largest_variable-variables.result + 1) w.head w.pairs.items (entries w.lists.items) w.pending.items) (sym (append-nil list)) c.in_ok-watches.ensures.watched)

pub propagate-requires-clause-all_known : goal.propagate-requires-clause-all_known
propagate-requires-clause-all_known c =
    let list : List (List ℤ) = literal_lists c.args.clauses.now.list.items in
    let w = c.in_ok-watches.watches in
    subst (λ cs. length w.pairs.items ≡ length cs) (sym (append-nil list)) (let long = literal_lists_length c.args.clauses.now.list.items in omega (arith, long, c.in_ok-watches.ensures.known))
