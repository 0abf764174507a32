use Rattle.std.proofs.Common.{◌≡◌, ◌∙◌, ap}
use Rattle.c_meaning.specs.Stores.{objects_of}
use Rattle.flat_memory.specs.Memories.{Contents}
use Rattle.flat_memory.specs.Extents.{store_length}
use Rattle.flat_memory.proofs.objects.Objects.stored.Goals as goal

pub returns-clause-all : goal.returns-clause-all
returns-clause-all c = c.length.ensures ∙ c.self.invariant.fill ∙ ap (λ (it : Contents). store_length (objects_of it.program)) c.self.view_is
