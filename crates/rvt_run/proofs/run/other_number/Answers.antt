use Rattle.std.proofs.Common.{refl}
use Rattle.std.specs.Prelude.{codes}
use Rattle.rvt_run.proofs.RunSaid.{between_none, none_of}
use Rattle.rvt_run.proofs.Shaped.{literal}
use Rattle.rvt_run.proofs.run.other_number.Goals as goal

pub returns-clause-one_line : goal.returns-clause-one_line
returns-clause-one_line c = none_of _ _ c.in_ok-text.ensures.ok (between_none (codes "wanted ") (codes " arguments") c.args.wanted (literal (codes "wanted ") refl) (literal (codes " arguments") refl))
