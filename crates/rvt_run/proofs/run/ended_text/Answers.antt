use Rattle.std.proofs.Common.{◌++◌, refl}
use Rattle.std.specs.Prelude.{codes}
use Rattle.std.specs.Fmt.{decimal}
use Rattle.rvt_run.proofs.RunSaid.{between_none, none_of}
use Rattle.rvt_run.proofs.Shaped.{joined, literal}
use Rattle.rvt_run.proofs.run.ended_text.Goals as goal

pub returns-clause-one_line : goal.returns-clause-one_line
returns-clause-one_line c =
    none_of _ _ c.in_ok-text.ensures.ok
    (joined c.args.end.now (codes " after " ++ (decimal c.args.steps ++ codes " steps")) c.requires
    (between_none (codes " after ") (codes " steps") c.args.steps (literal (codes " after ") refl) (literal (codes " steps") refl)))
