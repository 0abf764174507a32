use Rattle.std.proofs.Common.{refl}
use Rattle.sym_exec.specs.Steps.{calls}
use Rattle.core_ir.specs.Meaning.{request_of}
use Rattle.sym_paths.specs.Going.{world}
use Rattle.sym_paths.specs.Runs.{run_of}
use Rattle.uf_abstraction.specs.Names.{meant}
use Rattle.sym_exec.proofs.Walking.{call_ready, call_goes}
use Rattle.sym_exec.proofs.walks.call.Goals as goal

pub call-requires-clause-kept : goal.call-requires-clause-kept
call-requires-clause-kept g c = c.requires.under_way.state.store

pub call-requires-clause-world : goal.call-requires-clause-world
call-requires-clause-world g c = c.requires.under_way.world

pub end_at-requires-clause-live_there : goal.end_at-requires-clause-live_there
end_at-requires-clause-live_there g c =
    (call_ready (g.S.Steps.subject c.args.steps.now) (calls c.args.unit c.args.inputs.now c.args.outputs.now) (λ s. request_of s c.args.unit c.args.inputs.now)
    (world c.args.circuit.now c.args.applications.now) (world c.call.new.circuit c.call.new.applications) (run_of c.args.run.now) c.call.new.store c.in_ok-traps.field-0.traps.items
    (record { guard = c.args.run.now.live; name = meant c.in_ok-traps.field-0.entry; key = c.in_ok-traps.field-0.key.items }) (run_of c.push_call.new.run)
    c.requires.under_way.state c.in_ok-traps.ensures c.in_ok-push_call.ensures).live

pub end_at-requires-clause-traps_there : goal.end_at-requires-clause-traps_there
end_at-requires-clause-traps_there g c =
    rw c.deref.ensures.value
    (call_ready (g.S.Steps.subject c.args.steps.now) (calls c.args.unit c.args.inputs.now c.args.outputs.now) (λ s. request_of s c.args.unit c.args.inputs.now)
    (world c.args.circuit.now c.args.applications.now) (world c.call.new.circuit c.call.new.applications) (run_of c.args.run.now) c.call.new.store c.in_ok-traps.field-0.traps.items
    (record { guard = c.args.run.now.live; name = meant c.in_ok-traps.field-0.entry; key = c.in_ok-traps.field-0.key.items }) (run_of c.push_call.new.run)
    c.requires.under_way.state c.in_ok-traps.ensures c.in_ok-push_call.ensures).traps_there

pub returns : goal.returns
returns g c =
    call_goes (g.S.Steps.subject c.args.steps.now) (calls c.args.unit c.args.inputs.now c.args.outputs.now) (λ s. request_of s c.args.unit c.args.inputs.now)
    (world c.args.circuit.now c.args.applications.now) (world c.call.new.circuit c.call.new.applications) _ (run_of c.args.run.now) (run_of c.end_at.new.run) c.call.new.store c.in_ok-traps.field-0.traps.items
    (record { guard = c.args.run.now.live; name = meant c.in_ok-traps.field-0.entry; key = c.in_ok-traps.field-0.key.items }) (run_of c.push_call.new.run)
    c.requires.under_way.state refl c.in_ok-traps.ensures c.in_ok-push_call.ensures (rw (← c.deref.ensures.value) c.in_ok-end_at.ensures)
