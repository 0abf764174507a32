use Rattle.std.proofs.Common.{◌+◌, refl}
use Rattle.std.specs.Prelude.{codes}
use Rattle.rvt_run.proofs.RunSaid.{between_none, none_of}
use Rattle.rvt_run.proofs.Shaped.{literal}
use Rattle.rvt_run.proofs.run.bad_argument.Goals as goal

pub returns-clause-one_line : goal.returns-clause-one_line
returns-clause-one_line c =
    none_of _ _ c.in_ok-text.ensures.ok (between_none (codes "argument ") (codes ": not a value of its type") (c.args.before + 1) (literal (codes "argument ") refl) (literal (codes ": not a value of its type") refl))

pub returns-clause-text : goal.returns-clause-text
returns-clause-text c = c.in_ok-text.ensures.ok
