use Rattle.std.proofs.Common.{Option, ◌∙◌, ap, sym, subst}
use Rattle.rvt_edge.specs.Desk.{Files}
use Rattle.command_words.specs.Spellings.{value_in}
use Rattle.rvt_run.specs.Answer.{IsWhole}
use Rattle.rvt_run.specs.Reads.{IsUnreadBy}
use Rattle.rvt_run.proofs.Said.{says_old, says_new, says_both, says_map, says_all}
use Rattle.rvt_run.proofs.top.compare_files.Goals as goal

pub returns-in-Err-clause-said : goal.returns-in-Err-clause-said
returns-in-Err-clause-said g c =
    let command = c.args.command.now in
    says_old (g.D.Desk.files c.args.desk.now) (g.D.Desk.calls c.args.desk.now) command.old_name.now command.new_name.now (value_in command.map) c.say_unread.result (g.D.Desk.calls c.read_file.new.desk)
    c.in-Err.why c.in-Err.ensures.calls c.in-Err.ensures.read c.say_unread.ensures.said

pub returns-in-Err-read_file-clause-said : goal.returns-in-Err-read_file-clause-said
returns-in-Err-read_file-clause-said g c =
    let command = c.args.command.now in
    says_new (g.D.Desk.files c.args.desk.now) (g.D.Desk.calls c.args.desk.now) command.old_name.now command.new_name.now (value_in command.map) (g.D.Desk.calls c.read_file.new.desk) c.in-Ok.ensures.calls
    c.say_unread-in-Err-read_file.result (g.D.Desk.calls c.read_file-2.new.desk) c.in-Ok.bytes.items c.in-Ok.ensures.read c.in-Err-read_file.why c.in-Err-read_file.ensures.calls
    (subst (λ (files : Option Files). IsUnreadBy files command.new_name.now c.in-Err-read_file.why) c.in-Ok.ensures.files c.in-Err-read_file.ensures.read) c.say_unread-in-Err-read_file.ensures.said

pub returns-in-None-clause-said : goal.returns-in-None-clause-said
returns-in-None-clause-said g c =
    let command = c.args.command.now in
    let told = g.D.Desk.files c.args.desk.now in
    says_both told (g.D.Desk.calls c.args.desk.now) command.old_name.now command.new_name.now (value_in command.map) (g.D.Desk.calls c.read_file.new.desk) c.in-Ok.ensures.calls
    c.compare.result (g.D.Desk.calls c.read_file-2.new.desk) c.deref.result.now c.deref-in-None.result.now
    (subst (IsWhole told command.old_name.now) (sym c.deref.ensures.value) c.in-Ok.ensures.read)
    (subst (IsWhole told command.new_name.now) (sym c.deref-in-None.ensures.value)
    (subst (λ (files : Option Files). IsWhole files command.new_name.now c.in-Ok-read_file.bytes.items) c.in-Ok.ensures.files c.in-Ok-read_file.ensures.read))
    c.in-Ok-read_file.ensures.calls (ap value_in c.in-None.is) c.compare.ensures.compares

pub returns-in-Err-read_file-2-clause-said : goal.returns-in-Err-read_file-2-clause-said
returns-in-Err-read_file-2-clause-said g c =
    let command = c.args.command.now in
    let told = g.D.Desk.files c.args.desk.now in
    let name = c.in-Some.name.now in
    says_map told (g.D.Desk.calls c.args.desk.now) command.old_name.now command.new_name.now (value_in command.map) (g.D.Desk.calls c.read_file.new.desk) c.in-Ok.ensures.calls
    name (ap value_in c.in-Some.is) (g.D.Desk.calls c.read_file-2.new.desk) c.in-Ok-read_file.ensures.calls
    c.say_unread-in-Err-read_file-2.result (g.D.Desk.calls c.read_file-3.new.desk) c.in-Ok.bytes.items c.in-Ok-read_file.bytes.items c.in-Ok.ensures.read
    (subst (λ (files : Option Files). IsWhole files command.new_name.now c.in-Ok-read_file.bytes.items) c.in-Ok.ensures.files c.in-Ok-read_file.ensures.read)
    c.in-Err-read_file-2.why c.in-Err-read_file-2.ensures.calls
    (subst (λ (files : Option Files). IsUnreadBy files name c.in-Err-read_file-2.why) (c.in-Ok-read_file.ensures.files ∙ c.in-Ok.ensures.files) c.in-Err-read_file-2.ensures.read)
    c.say_unread-in-Err-read_file-2.ensures.said

pub returns-clause-said : goal.returns-clause-said
returns-clause-said g c =
    let command = c.args.command.now in
    let told = g.D.Desk.files c.args.desk.now in
    let name = c.in-Some.name.now in
    says_all told (g.D.Desk.calls c.args.desk.now) command.old_name.now command.new_name.now (value_in command.map) (g.D.Desk.calls c.read_file.new.desk) c.in-Ok.ensures.calls
    name (ap value_in c.in-Some.is) (g.D.Desk.calls c.read_file-2.new.desk) c.in-Ok-read_file.ensures.calls
    c.compare-2.result (g.D.Desk.calls c.read_file-3.new.desk) c.deref-2.result.now c.deref-3.result.now c.deref-4.result.now
    (subst (IsWhole told command.old_name.now) (sym c.deref-2.ensures.value) c.in-Ok.ensures.read)
    (subst (IsWhole told command.new_name.now) (sym c.deref-3.ensures.value)
    (subst (λ (files : Option Files). IsWhole files command.new_name.now c.in-Ok-read_file.bytes.items) c.in-Ok.ensures.files c.in-Ok-read_file.ensures.read))
    (subst (IsWhole told name) (sym c.deref-4.ensures.value)
    (subst (λ (files : Option Files). IsWhole files name c.in-Ok-read_file-2.bytes.items) (c.in-Ok-read_file.ensures.files ∙ c.in-Ok.ensures.files) c.in-Ok-read_file-2.ensures.read))
    c.in-Ok-read_file-2.ensures.calls c.compare-2.ensures.compares
