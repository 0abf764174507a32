use Rattle.chain_resolution.specs.Marked.{marked}
use Rattle.chain_resolution.proofs.Unions.{apart_without, resolvent_from_union}
use Rattle.chain_resolution.proofs.marked.MarkedClause.resolve_at.Goals as goal

pub put_all_but-requires : goal.put_all_but-requires
put_all_but-requires c = record { apart = apart_without c.args.pivot (marked c.args.self.now.table.items) (marked c.take_out.new.self.table.items) c.args.other.now.literals.items c.requires.clash c.take_out.ensures.without }

pub returns : goal.returns
returns c = resolvent_from_union c.args.pivot (marked c.args.self.now.table.items) (marked c.take_out.new.self.table.items) c.args.other.now.literals.items c.requires.clash c.take_out.ensures.without (marked c.put_all_but.new.self.table.items) c.in_ok-put_all_but.ensures
