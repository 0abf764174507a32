use Rattle.sat_search.specs.Latest.{IsLatest}
use Rattle.sat_search.proofs.learning.latest_of.Given as goal

abbrev pub invariant-loop-literal : goal.invariant-loop-literal
invariant-loop-literal l = IsLatest l.trail.places.items l.clause l.literal-index l.last l.second
