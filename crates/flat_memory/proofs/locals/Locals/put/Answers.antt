use Rattle.std.proofs.Common.{arith}
use Rattle.flat_memory.proofs.LocalSteps.{ends, put_now, put_room, none_set, put_ends}
use Rattle.flat_memory.proofs.locals.Locals.put.Goals as goal

pub overflow_add-self-inside : goal.overflow_add-self-inside
overflow_add-self-inside c = let inside = ends c.self.inside.entries.items c.self.inside.cells c.self.inside.base c.self.inside.function c.args.self.now c.self.view_is c.self.invariant c.as_slice.result.now c.as_slice.ensures.value c.args.number c.in-Some.spot c.in-Some.ensures in omega (arith, inside, c.self.invariant.short)

pub put-requires : goal.put-requires
put-requires c = put_ends c.self.inside.entries.items c.self.inside.cells c.self.inside.base c.self.inside.function c.args.self.now c.self.view_is c.self.invariant c.as_slice.result.now c.as_slice.ensures.value c.args.number c.in-Some.spot c.in-Some.ensures c.args.cells.now c.requires

pub invariant_of-self : goal.invariant_of-self
invariant_of-self c = put_room c.self.inside.entries.items c.self.inside.cells c.self.inside.base c.self.inside.function c.args.self.now c.self.view_is c.self.invariant c.as_slice.result.now c.as_slice.ensures.value c.args.number c.in-Some.spot c.in-Some.ensures c.args.cells.now c.put.new.self c.requires c.put.ensures

pub returns-in-Some : goal.returns-in-Some
returns-in-Some c = put_now c.self.inside.entries.items c.self.inside.cells c.self.inside.base c.self.inside.function c.args.self.now c.self.view_is c.self.invariant c.as_slice.result.now c.as_slice.ensures.value c.args.number c.in-Some.spot c.in-Some.ensures c.args.cells.now c.put.new.self c.requires c.put.ensures

pub returns-in-None : goal.returns-in-None
returns-in-None c = none_set c.self.inside.entries.items c.self.inside.cells c.self.inside.base c.self.inside.function c.args.self.now c.self.view_is c.self.invariant c.as_slice.result.now c.as_slice.ensures.value c.args.number c.in-None.ensures c.args.cells.now
