use Rattle.std.proofs.Common.{sym, ◌∙◌}
use Rattle.std.specs.Prelude.{map}
use Rattle.command_words.specs.Commands.{values_of}
use Rattle.command_words.specs.Scan.{setting_of}
use Rattle.command_words.proofs.CommandLemmas.{twice}
use Rattle.command_words.proofs.commands.once.Goals as goal

pub returns-then-is_some-clause-none : goal.returns-then-is_some-clause-none
returns-then-is_some-clause-none c =
    twice c.args.settings.now c.loop-setting.setting-index c.args.flag _ c.loop-setting.found (values_of c.args.flag (map setting_of c.args.settings.now)) c.loop-setting-test.true (sym c.is.ensures ∙ c.if-is.true) c.loop-setting.invariant (sym c.if-is_some.true ∙ c.is_some.ensures)
