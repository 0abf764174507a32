use Rattle.c_meaning.specs.Stores.{objects_of}
use Rattle.flat_memory.proofs.ObjectCells.{length_is, none_length}
use Rattle.flat_memory.proofs.objects.Objects.length_of.Goals as goal

pub returns-in-Some : goal.returns-in-Some
returns-in-Some c = length_is (objects_of c.args.self.now.program) c.args.self.now.store c.args.number c.in-Some.extent c.in-Some.ensures

pub returns-in-None : goal.returns-in-None
returns-in-None c = none_length (objects_of c.args.self.now.program) c.args.self.now.store c.args.number c.in-None.ensures
