use Rattle.std.proofs.Common.{◌≡◌, ◌++◌, drop}
use Rattle.std.specs.Prelude.{map}
use Rattle.std.specs.Option.{option_to_list}
use Rattle.command_words.specs.Commands.{values_of}
use Rattle.command_words.specs.Scan.{setting_of}
use Rattle.command_words.specs.Spellings.{value_in}
use Rattle.command_words.proofs.commands.once.Given as goal

abbrev pub invariant-loop-setting : goal.invariant-loop-setting
invariant-loop-setting l = values_of l.flag (map setting_of l.fn.settings) ≡ option_to_list (value_in l.found) ++ values_of l.flag (map setting_of (drop l.setting-index l.settings))
