use Rattle.chain_resolution.proofs.Listings.{ReadTo}
use Rattle.chain_resolution.proofs.listing.literals_at.Given as goal

abbrev pub invariant-loop-index : goal.invariant-loop-index
invariant-loop-index l = ReadTo l.table l.places l.index l.last l.literals.items
