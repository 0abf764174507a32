use Rattle.std.proofs.Common.{refl}
use Rattle.std.specs.Prelude.{codes}
use Rattle.rvt_run.proofs.RunSaid.{between_none, none_of}
use Rattle.rvt_run.proofs.Shaped.{literal}
use Rattle.rvt_run.proofs.run.cut_text.Goals as goal

pub returns-clause-one_line : goal.returns-clause-one_line
returns-clause-one_line c = none_of _ _ c.in_ok-text.ensures.ok (between_none (codes "cut at ") (codes " steps") c.args.bound (literal (codes "cut at ") refl) (literal (codes " steps") refl))
