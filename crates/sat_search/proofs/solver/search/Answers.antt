use Rattle.std.proofs.Common.{arith, ◌≤◌, ◌+◌, ℕ, ℤ, List, subst}
use Rattle.std.specs.Prelude.{All}
use Rattle.clause_db.specs.Literal.{variable_of}
use Rattle.clause_db.specs.Log.{literal_lists}
use Rattle.unit_propagation.proofs.Fits.{fits_list}
use Rattle.sat_search.proofs.Steps.{found_over_fewer, fits_larger}
use Rattle.sat_search.proofs.solver.search.Goals as goal

pub search_over-requires-clause-fits : goal.search_over-requires-clause-fits
search_over-requires-clause-fits c =
    let list : List (List ℤ) = literal_lists c.args.clauses.now.list.items in
    let largest : ℕ = c.largest_variable.result in
    let within = subst (λ cs. All (λ x. All (λ l. variable_of l ≤ largest) x) (literal_lists cs)) c.deref.ensures.value c.largest_variable.ensures.within in
    fits_larger (largest + 1) (c.larger-variables.result + 1) list (omega (arith, c.larger-variables.ensures.second)) (fits_list c.args.clauses.now.list.items largest within)

pub returns : goal.returns
returns c =
    found_over_fewer (literal_lists c.args.clauses.now.list.items) c.args.clauses.now.variables c.larger-variables.result c.args.limit c.in_ok-found.found c.larger-variables.ensures.first c.in_ok-found.ensures
