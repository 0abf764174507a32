use Rattle.std.proofs.Common.{List, ℕ, sym, subst}
use Rattle.command_words.specs.Commands.{texts}
use Rattle.rvt_run.specs.Answer.{IsWhole}
use Rattle.rvt_run.proofs.Said.{asked_file, says_file, asked_read, says_read}
use Rattle.rvt_run.proofs.top.run_file.Goals as goal

pub returns-in-Err-clause-asked : goal.returns-in-Err-clause-asked
returns-in-Err-clause-asked g c =
    let command = c.args.command.now in
    asked_file (g.D.Desk.files c.args.desk.now) (g.D.Desk.calls c.args.desk.now) command.file.now command.function.now (texts command.arguments.items) command.steps (g.D.Desk.calls c.read_file.new.desk) c.in-Err.why c.in-Err.ensures.calls

pub returns-in-Err-clause-said : goal.returns-in-Err-clause-said
returns-in-Err-clause-said g c =
    let command = c.args.command.now in
    says_file (g.D.Desk.files c.args.desk.now) (g.D.Desk.calls c.args.desk.now) command.file.now command.function.now (texts command.arguments.items) command.steps c.say_unread.result (g.D.Desk.calls c.read_file.new.desk) c.in-Err.why c.in-Err.ensures.calls c.in-Err.ensures.read c.say_unread.ensures.said

pub returns-clause-asked : goal.returns-clause-asked
returns-clause-asked g c =
    let command = c.args.command.now in
    asked_read (g.D.Desk.files c.args.desk.now) (g.D.Desk.calls c.args.desk.now) command.file.now command.function.now (texts command.arguments.items) command.steps (g.D.Desk.calls c.read_file.new.desk) c.in-Ok.ensures.calls

pub returns-clause-said : goal.returns-clause-said
returns-clause-said g c =
    let command = c.args.command.now in
    says_read (g.D.Desk.files c.args.desk.now) (g.D.Desk.calls c.args.desk.now) command.file.now command.function.now (texts command.arguments.items) command.steps c.run.result (g.D.Desk.calls c.read_file.new.desk) c.deref.result.now
    (subst (λ (bytes : List ℕ). IsWhole (g.D.Desk.files c.args.desk.now) command.file.now bytes) (sym c.deref.ensures.value) c.in-Ok.ensures.read) c.in-Ok.ensures.calls c.run.ensures.runs
