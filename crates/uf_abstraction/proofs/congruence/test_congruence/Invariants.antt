use Rattle.std.proofs.Common.{◌≡◌, drop, take}
use Rattle.std.specs.Prelude.{fold, map}
use Rattle.uf_abstraction.proofs.Loops.{IsGrown}
use Rattle.uf_abstraction.specs.Groups.{AreGroups, places_of}
use Rattle.uf_abstraction.specs.Names.{application_of}
use Rattle.uf_abstraction.specs.Testing.{nothing_before, with_application}
use Rattle.uf_abstraction.proofs.congruence.test_congruence.Given as goal

abbrev pub invariant-made : goal.invariant-made
invariant-made l =
    (fold with_application (record { nodes = l.circuit; lit = l.lit; before = take l.place (map application_of l.made.entries) }) (drop l.place (map application_of l.made.entries))
    ≡ fold with_application (nothing_before l.initial.circuit) (map application_of l.made.entries))
    × IsGrown l.initial.circuit l.circuit l.lit × AreGroups (map application_of l.made.entries) l.place (places_of l.groups.entries)
