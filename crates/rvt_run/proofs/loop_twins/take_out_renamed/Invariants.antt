use Rattle.std.proofs.Common.{◌≡◌, length}
use Rattle.rvt_run.proofs.Alike.{TakenOut}
use Rattle.rvt_run.proofs.loop_twins.take_out_renamed.Given as goal

abbrev pub invariant-functions : goal.invariant-functions
invariant-functions l = record {
  as_long : length l.pairing.functions ≡ length l.initial.pairing.functions;
  taken : TakenOut l.old l.new l.initial.pairing l.pairing l.f;
}
