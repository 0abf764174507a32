use Rattle.std.proofs.Common.{rules}
use Rattle.c_tokens.specs.Constants.{constant_of}
use Rattle.c_tokens.proofs.constants.constant.Goals as goal

pub returns : goal.returns
unfolding constant_of
returns c = search rules
