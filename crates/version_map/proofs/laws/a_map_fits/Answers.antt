use Rattle.version_map.proofs.FitLemmas.{maps_fit}
use Rattle.version_map.proofs.laws.a_map_fits.Goals as goal

pub returns : goal.returns
returns c = maps_fit
