use Rattle.rvt_run.proofs.RunSaid.{machine_stops}
use Rattle.rvt_run.proofs.run.stop_of.Goals as goal

pub returns : goal.returns
returns c =
    machine_stops c.run.result c.args.program.now c.in_ok-machine.machine.program c.args.function c.args.input.now.args.items c.args.input.now.store.items c.run.new.self.store c.args.steps c.in_ok-machine.machine.calls
    c.in_ok-machine.ensures.program c.in_ok-machine.ensures.calls c.run.ensures.stop
