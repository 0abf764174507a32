use Rattle.chain_resolution.specs.Marked.{marked}
use Rattle.chain_resolution.proofs.Tables.{marked_ordered}
use Rattle.chain_resolution.proofs.Unions.{union_from_empty}
use Rattle.chain_resolution.proofs.marked.MarkedClause.start.Goals as goal

pub returns : goal.returns
returns c =
    let clause = c.args.clause.now in
    let new = c.put_all_but.new.self in
    union_from_empty (marked c.clear.new.self.table.items) clause.literals.items (marked new.table.items) c.clear.ensures clause.ordered clause.in_range (marked_ordered new.table.items new.at_variables) c.in_ok-put_all_but.ensures
