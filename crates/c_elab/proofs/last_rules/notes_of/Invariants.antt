use Rattle.std.proofs.Common.{map, take}
use Rattle.call_cycles.specs.Noted.{AreNotesOf}
use Rattle.file_state.specs.Views.{function_entry_view}
use Rattle.c_elab.proofs.last_rules.notes_of.Given as goal

abbrev pub invariant-functions : goal.invariant-functions
invariant-functions l = record { whole : AreNotesOf l.notes.items (map function_entry_view (take l.function-index l.functions)) }
