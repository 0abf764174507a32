use Rattle.std.proofs.Common.{map}
use Rattle.c_meaning.specs.Stores.{cleared, object_cells}
use Rattle.flat_memory.proofs.ObjectSteps.{none_with, kept_now, clear_now, clear_still}
use Rattle.flat_memory.proofs.objects.Objects.clear.Goals as goal

pub invariant_of-self : goal.invariant_of-self
invariant_of-self c = clear_still c.self.inside.program.now c.self.inside.extents.items c.self.inside.constants.items c.self.inside.store c.self.invariant c.args.self.now c.self.view_is c.args.number c.in-Some.extent c.in-Some.ensures c.if-not-extent.true c.clear.new.cells c.clear.ensures

pub returns-in-None : goal.returns-in-None
returns-in-None c = none_with c.self.inside.program.now c.self.inside.extents.items c.self.inside.constants.items c.self.inside.store c.self.invariant c.args.self.now c.self.view_is c.args.number c.in-None.ensures (map cleared (object_cells c.args.self.now.program c.args.self.now.store c.args.number))

pub returns-then-not-extent : goal.returns-then-not-extent
returns-then-not-extent c = clear_now c.self.inside.program.now c.self.inside.extents.items c.self.inside.constants.items c.self.inside.store c.self.invariant c.args.self.now c.self.view_is c.args.number c.in-Some.extent c.in-Some.ensures c.if-not-extent.true c.clear.new.cells c.clear.ensures

pub returns-else-not-extent : goal.returns-else-not-extent
returns-else-not-extent c = kept_now c.self.inside.program.now c.self.inside.extents.items c.self.inside.constants.items c.self.inside.store c.self.invariant c.args.self.now c.self.view_is c.args.number c.in-Some.extent c.in-Some.ensures c.if-not-extent.false (map cleared (object_cells c.args.self.now.program c.args.self.now.store c.args.number))
