use Rattle.std.proofs.Common.{List, ℕ, [], ◌∷◌, subst, sym}
use Rattle.c_programs.specs.Readings.{IsFirstFault, NoReadingWhere}
use Rattle.command_words.specs.Commands.{texts}
use Rattle.rvt_run.specs.Answer.{Runs, file_refused, interpreted, refused_at}
use Rattle.rvt_run.specs.Lines.{line}
use Rattle.rvt_run.specs.Runs.{IsRunAnswer}
use Rattle.rvt_run.specs.Texts.{HasNoLineEnd}
use Rattle.rvt_run.proofs.Results.{shaped_at}
use Rattle.rvt_run.proofs.RunSaid.{answer_at}
use Rattle.rvt_run.proofs.Shaped.{line_of, only_this}
use Rattle.rvt_run.proofs.run.run.Goals as goal

pub returns-in-Err-Source-clause-runs : goal.returns-in-Err-Source-clause-runs
returns-in-Err-Source-clause-runs c =
    let command = c.args.command.now in
    let bytes = c.args.bytes.now in
    let refusal = c.in-Err-Source.refusal in
    answer_at c.refused.result (Runs command.file.now bytes command.function.now (texts command.arguments.items) command.steps) 3 (refused_at command.file.now refusal) c.refused.ensures.status c.refused.ensures.lines
    (file_refused refusal (subst (IsFirstFault bytes) c.in-Err-Source.field-0-is c.in-Err-Source.ensures.refused) (subst (NoReadingWhere bytes) c.in-Err-Source.field-0-is c.in-Err-Source.ensures.none))

pub returns-clause-runs : goal.returns-clause-runs
returns-clause-runs c =
    let command = c.args.command.now in
    let bytes = c.args.bytes.now in
    let text = c.as_bytes.result.now in
    answer_at c.one_line.result (Runs command.file.now bytes command.function.now (texts command.arguments.items) command.steps) c.in_ok-said.said.status (line text [] ∷ []) c.one_line.ensures.status c.one_line.ensures.lines
    (interpreted c.in-Ok.program c.in-Ok.ensures.program
    (subst (λ (t : List ℕ). IsRunAnswer c.in-Ok.program command.file.now command.function.now (texts command.arguments.items) command.steps c.in_ok-said.said.status t) (sym c.as_bytes.ensures.value) c.in_ok-said.ensures.said))

pub returns-clause-shaped : goal.returns-clause-shaped
returns-clause-shaped c =
    let text = c.as_bytes.result.now in
    shaped_at c.one_line.result (line text [] ∷ []) c.one_line.ensures.lines
    (only_this (line text []) (line_of text [] (subst HasNoLineEnd (sym c.as_bytes.ensures.value) c.in_ok-said.ensures.one_line) tt))
