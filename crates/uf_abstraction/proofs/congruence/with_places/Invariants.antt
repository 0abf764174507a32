use Rattle.std.proofs.Common.{◌≡◌, drop}
use Rattle.std.specs.Prelude.{fold, map}
use Rattle.uf_abstraction.proofs.Loops.{IsGrown, made}
use Rattle.uf_abstraction.specs.Groups.{at_places}
use Rattle.uf_abstraction.specs.Names.{application_of}
use Rattle.uf_abstraction.specs.Testing.{with_pair}
use Rattle.uf_abstraction.proofs.congruence.with_places.Given as goal

abbrev pub invariant-places : goal.invariant-places
invariant-places l =
    (fold (with_pair (application_of (l.question, l.reply))) (made l.circuit l.lit) (at_places (map application_of l.made.entries) (drop l.at l.places))
    ≡ fold (with_pair (application_of (l.question, l.reply))) (made l.initial.circuit l.initial.lit) (at_places (map application_of l.made.entries) l.places))
    × IsGrown l.initial.circuit l.circuit l.lit
