use Rattle.std.proofs.Common.{refl}
use Rattle.std.specs.Prelude.{map}
use Rattle.uf_abstraction.proofs.Grouping.{got_mapped, grouped}
use Rattle.uf_abstraction.specs.Groups.{places_of}
use Rattle.uf_abstraction.specs.Names.{application_of}
use Rattle.uf_abstraction.proofs.congruence.note_entry.Goals as goal

pub returns : goal.returns
returns c =
    grouped (map application_of c.args.made.now.entries) c.args.place (places_of c.args.groups.now.entries) (places_of c.note.new.groups.entries) c.entry.result.0.now.name (application_of (c.entry.result.0.now, c.entry.result.1.now))
    c.requires.grouped (got_mapped c.args.made.now.entries c.args.place _ _ c.entry.ensures) refl c.in_ok-note.ensures
