use Rattle.sym_spots.proofs.SpotValues.{spot_is}
use Rattle.sym_spots.proofs.laws.spot.Goals as goal

pub returns : goal.returns
returns c = spot_is
