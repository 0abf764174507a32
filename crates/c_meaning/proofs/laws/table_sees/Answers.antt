use Rattle.std.proofs.Common.{[], map}
use Rattle.c_meaning.specs.Runs.{running}
use Rattle.c_meaning.specs.Tables.{under_table}
use Rattle.c_meaning.specs.Laws.{made}
use Rattle.c_meaning.proofs.Unlogged.{called_unlogged}
use Rattle.c_meaning.proofs.Seen.{body_seen, body_happened}
use Rattle.c_meaning.proofs.laws.table_sees.Goals as goal

pub returns : goal.returns
returns c n d function arguments locals store left =
    let program = c.args._program.now in (
      called_unlogged (running program n d) program function arguments locals store (record { own = left; met = [] }),
      body_happened (running program n d) program function arguments locals store left,
      λ directory table. body_seen (running program n d) (under_table directory table) (map (made directory)) program function arguments locals store left,
    )
