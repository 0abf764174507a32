use Rattle.std.proofs.Common.{ℕ, nat_eq, sym}
use Rattle.c_places.proofs.Begins.{begins_more}
use Rattle.c_places.proofs.starts.add_start.Goals as goal

pub returns-in_ok-add-in-Some : goal.returns-in_ok-add-in-Some
returns-in_ok-add-in-Some c =
    begins_more c.add.new.rows.items c.args.rows.now.items c.args.what.now c.in-Some.pointee (λ (cell : ℕ). nat_eq cell c.args.at)
    (sym c.in-Some.ensures) c.in_ok-add-in-Some.ensures
