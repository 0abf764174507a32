use Rattle.c_meaning.specs.Stores.{objects_of}
use Rattle.c_places.proofs.PutBack.{put_back_is_closed}
use Rattle.c_places.proofs.laws.kept_is_closed.Goals as goal

pub returns : goal.returns
returns c number before store = put_back_is_closed number (objects_of c.args._program.now) before store
