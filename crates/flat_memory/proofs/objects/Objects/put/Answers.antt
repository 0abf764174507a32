use Rattle.flat_memory.proofs.ObjectSteps.{none_with, kept_now, put_now, put_still, put_ends}
use Rattle.flat_memory.proofs.objects.Objects.put.Goals as goal

pub put-requires : goal.put-requires
put-requires c = put_ends c.self.inside.program.now c.self.inside.extents.items c.self.inside.constants.items c.self.inside.store c.self.invariant c.args.self.now c.self.view_is c.args.number c.in-Some.extent c.in-Some.ensures c.if-not-extent.true c.args.cells.now c.requires

pub invariant_of-self : goal.invariant_of-self
invariant_of-self c = put_still c.self.inside.program.now c.self.inside.extents.items c.self.inside.constants.items c.self.inside.store c.self.invariant c.args.self.now c.self.view_is c.args.number c.in-Some.extent c.in-Some.ensures c.if-not-extent.true c.args.cells.now c.put.new.self c.requires c.put.ensures

pub returns-in-None : goal.returns-in-None
returns-in-None c = none_with c.self.inside.program.now c.self.inside.extents.items c.self.inside.constants.items c.self.inside.store c.self.invariant c.args.self.now c.self.view_is c.args.number c.in-None.ensures c.args.cells.now

pub returns-then-not-extent : goal.returns-then-not-extent
returns-then-not-extent c = put_now c.self.inside.program.now c.self.inside.extents.items c.self.inside.constants.items c.self.inside.store c.self.invariant c.args.self.now c.self.view_is c.args.number c.in-Some.extent c.in-Some.ensures c.if-not-extent.true c.args.cells.now c.put.new.self c.put.ensures

pub returns-else-not-extent : goal.returns-else-not-extent
returns-else-not-extent c = kept_now c.self.inside.program.now c.self.inside.extents.items c.self.inside.constants.items c.self.inside.store c.self.invariant c.args.self.now c.self.view_is c.args.number c.in-Some.extent c.in-Some.ensures c.if-not-extent.false c.args.cells.now
