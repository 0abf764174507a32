use Rattle.sym_exec.proofs.Exits.{exits_begin, exit_next, exits_next, exits_done}
use Rattle.sym_exec.proofs.ends.merge_exits.Goals as goal

pub exits-init : goal.exits-init
exits-init c = exits_begin c.args.circuit.now c.args.exits.now c.args.values

pub merge_exit-requires : goal.merge_exit-requires
merge_exit-requires c = record { kept = exit_next c.args.circuit.now c.exits.circuit c.args.exits.now c.args.values c.exits.values c.exits.done _ c.exits-test.true c.index-exits-left.is c.exits.invariant c.requires.kept }

pub exits-preserved : goal.exits-preserved
exits-preserved c =
    exits_next c.args.circuit.now c.exits.circuit c.args.exits.now c.args.values c.exits.values c.exits.done _ c.exits-test.true c.index-exits-left.is c.exits.invariant c.merge_exit.new.circuit c.merge_exit.new.values c.in_ok-merge_exit.ensures

pub returns : goal.returns
returns c = exits_done c.args.circuit.now c.exits.circuit c.args.exits.now c.args.values c.exits.values c.exits.done c.exits-test.false c.exits.invariant
