use Rattle.std.proofs.Common.{◌-◌, ap, ◌∙◌}
use Rattle.c_code.proofs.Rounds.{closed}
use Rattle.c_code.proofs.loops.close_loop.Goals as goal

pub returns : goal.returns
returns c = closed c.args.head c.args.exit (c.len.result - c.args.head) c.args.code.now.items c.put.new.code.items c.jump_over.new.code.items c.put-2.new.code.items
    (ap (λ n. n - c.args.head) (c.len.ensures ∙ c.args.code.now.ok.0)) c.in_ok-put.ensures c.jump_over.ensures.jump c.in_ok-put-2.ensures
