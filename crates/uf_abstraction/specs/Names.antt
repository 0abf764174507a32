-- What the applications keep, and what it means.
use Rattle.std.specs.Prelude.{◌≡◌}
use Rattle.core_ir.specs.Joint.{Old, New}
use Rattle.core_ir.specs.Tables.{EntryName as Name, Shared as shared, Own as own}
use Rattle.sym_values.specs.Values.{all_lits}
use Rattle.uf_abstraction.specs.Applications.{Application}
use Rattle.uf_abstraction.specs.declared.applications.Question.{Question}
use Rattle.uf_abstraction.specs.declared.applications.Reply.{Reply}
use Rattle.uf_abstraction.specs.declared.names.EntryName.{EntryName}
use Rattle.uf_abstraction.specs.declared.names.EntryName.TheVariants as name

abbrev pub meant : EntryName → Name
meant (name.Shared p) = shared p
meant (name.Old u) = own Old u
meant (name.New u) = own New u

abbrev pub application_of : Question × Reply → Application
application_of e = record { name = meant e.0.name; key = e.1.key.items; shape = e.1.shape; answer = e.1.answer }

-- the question has the literals of the key
abbrev pub IsAsked : Question × Reply → Type 0
IsAsked e = e.0.lits.items ≡ all_lits e.1.key.items
