use Rattle.std.proofs.Common.{◌++◌, refl}
use Rattle.std.specs.Prelude.{codes}
use Rattle.rvt_run.proofs.RunSaid.{none_of}
use Rattle.rvt_run.proofs.Shaped.{joined, literal}
use Rattle.rvt_run.proofs.run.no_function.Goals as goal

pub returns-clause-one_line : goal.returns-clause-one_line
returns-clause-one_line c =
    none_of _ _ c.in_ok-text.ensures.ok
    (joined c.args.file.now (codes ": no function " ++ c.args.name.now) c.requires.file_plain (joined (codes ": no function ") c.args.name.now (literal (codes ": no function ") refl) c.requires.name_plain))

pub returns-clause-text : goal.returns-clause-text
returns-clause-text c = c.in_ok-text.ensures.ok
