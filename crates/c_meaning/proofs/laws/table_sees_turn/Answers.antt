use Rattle.std.proofs.Common.{map}
use Rattle.c_meaning.specs.Runs.{running}
use Rattle.c_meaning.specs.Tables.{under_table}
use Rattle.c_meaning.specs.Laws.{made}
use Rattle.c_meaning.proofs.LoopLaws.{turn_unlogged, turn_happened, turn_seen}
use Rattle.c_meaning.proofs.laws.table_sees_turn.Goals as goal

pub returns : goal.returns
returns c n d function number locals store left =
    let program = c.args._program.now in (
      turn_unlogged (running program n d) program function number locals store left,
      turn_happened (running program n d) program function number locals store left,
      λ directory table. turn_seen (running program n d) (under_table directory table) (map (made directory)) program function number locals store left,
    )
