use Rattle.std.proofs.Common.{◌≡◌, ◌++◌, rules}
use Rattle.std.specs.Prelude.{codes}
use Rattle.std.specs.Fmt.{signed_decimal}
use Rattle.std.specs.String.{string_bytes}
use Rattle.rvt_run.proofs.RunSaid.{none_of, result_none}
use Rattle.rvt_run.proofs.run.returned_text.Goals as goal

pub returns-clause-one_line : goal.returns-clause-one_line
returns-clause-one_line c =
    let written : string_bytes c.in_ok-text.text ≡ codes "returns " ++ signed_decimal c.args.outcome.now.value = search rules in
    none_of _ _ written
    (result_none c.args.outcome.now.value)
