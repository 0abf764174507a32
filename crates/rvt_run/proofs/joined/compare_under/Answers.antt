use Rattle.std.proofs.Common.{◌∙◌, sym}
use Rattle.std.specs.Prelude.{codes}
use Rattle.version_map.specs.Maps.{said_in}
use Rattle.rvt_run.specs.Joined.{no_such_name, types_differ}
use Rattle.rvt_run.specs.Lines.{line_refused}
use Rattle.rvt_run.proofs.Joining.{none_of}
use Rattle.rvt_run.proofs.Results.{compared_at}
use Rattle.rvt_run.proofs.joined.compare_under.Goals as goal

pub returns-in-Some-clause-compared : goal.returns-in-Some-clause-compared
returns-in-Some-clause-compared c =
    compared_at c.refused_line.result c.args.map_name.now c.args.old c.args.new (said_in c.args.map.now) 3 (line_refused c.args.map_name.now c.in-Some.line (codes "no such name")) c.refused_line.ensures.status c.refused_line.ensures.lines
    (no_such_name c.in-Some.line (sym c.in_ok-line.ensures ∙ c.in-Some.is))

pub returns-in-Some-2-clause-compared : goal.returns-in-Some-2-clause-compared
returns-in-Some-2-clause-compared c =
    compared_at c.refused_line-in-Some-2.result c.args.map_name.now c.args.old c.args.new (said_in c.args.map.now) 3 (line_refused c.args.map_name.now c.in-Some-2.line (codes "types differ"))
    c.refused_line-in-Some-2.ensures.status c.refused_line-in-Some-2.ensures.lines
    (types_differ c.in-Some-2.line (sym c.in_ok-line.ensures ∙ none_of c.in_ok-line.field-0 c.in_default.not-Some) (sym c.in_ok-line-2.ensures ∙ c.in-Some-2.is))
