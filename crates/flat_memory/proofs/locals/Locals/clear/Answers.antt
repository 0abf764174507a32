use Rattle.std.proofs.Common.{arith, map, get_or, []}
use Rattle.c_meaning.specs.Stores.{cleared}
use Rattle.flat_memory.proofs.LocalSteps.{ends, clear_now, clear_room, none_set}
use Rattle.flat_memory.proofs.locals.Locals.clear.Goals as goal

pub overflow_add-self-inside : goal.overflow_add-self-inside
overflow_add-self-inside c = let inside = ends c.self.inside.entries.items c.self.inside.cells c.self.inside.base c.self.inside.function c.args.self.now c.self.view_is c.self.invariant c.as_slice.result.now c.as_slice.ensures.value c.args.number c.in-Some.spot c.in-Some.ensures in omega (arith, inside, c.self.invariant.short)

pub invariant_of-self : goal.invariant_of-self
invariant_of-self c = clear_room c.self.inside.entries.items c.self.inside.cells c.self.inside.base c.self.inside.function c.args.self.now c.self.view_is c.self.invariant c.as_slice.result.now c.as_slice.ensures.value c.args.number c.in-Some.spot c.in-Some.ensures c.clear.new.cells c.clear.ensures

pub returns-in-Some : goal.returns-in-Some
returns-in-Some c = clear_now c.self.inside.entries.items c.self.inside.cells c.self.inside.base c.self.inside.function c.args.self.now c.self.view_is c.self.invariant c.as_slice.result.now c.as_slice.ensures.value c.args.number c.in-Some.spot c.in-Some.ensures c.clear.new.cells c.clear.ensures

pub returns-in-None : goal.returns-in-None
returns-in-None c = none_set c.self.inside.entries.items c.self.inside.cells c.self.inside.base c.self.inside.function c.args.self.now c.self.view_is c.self.invariant c.as_slice.result.now c.as_slice.ensures.value c.args.number c.in-None.ensures (map cleared (get_or c.args.self.now.here c.args.number []))
