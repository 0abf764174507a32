-- The rules for the forms of code.
use Rattle.std.proofs.Common.{[], refl}
use Rattle.std.specs.Prelude.{map}
use Rattle.core_ir.specs.Meaning.{Trapped, Returned}
use Rattle.core_ir.specs.Places.{register}
use Rattle.symbolic_runs.proofs.Keeping.{step_kept, called_kept, after_kept, stays_kept, end_kept, stop_kept, yes_kept, no_kept, state_first, state_second, branches_kept}
use Rattle.symbolic_runs.proofs.Simulating.{quiet_sims, call_sims, after_sims, stays_sims, branch_sims, end_sims, chosen_is}
use Rattle.symbolic_runs.specs.Rules.{NothingRule, SequenceRule, StepRule, CallRule, BranchesRule, ChoiceRule, StopRule, FailRule}
use Rattle.symbolic_runs.specs.Runs.{Traps, Stops, chosen}
use Rattle.symbolic_runs.specs.Simulation.{end_if, layout, sees}

pub nothing : NothingRule
nothing x w s k p = record { kept = stays_kept (layout x) w s k p; is = λ answers v. stays_sims (sees x answers v) w s }

pub sequence : SequenceRule
sequence x w s g h first second one two = record {
  kept = after_kept (layout x) w first second one.kept two.kept;
  is = λ answers v. after_sims (sees x answers v) w s first second (g answers) (h answers) (one.is answers v) (two.is answers v);
}

pub step : StepRule
step x w s f p k m = record {
  kept = step_kept (layout x) w s p [] k m.kept tt;
  is = λ answers v. quiet_sims (sees x answers v) w s p (f answers) (m.is answers v);
}

pub call : CallRule
call x w s f q p k m = record {
  kept = called_kept (layout x) w s p k m.kept;
  is = λ answers v. call_sims (sees x answers v) w s p (f answers) q (m.is answers v);
}

pub branches : BranchesRule
branches x w s test k m = record {
  yes = yes_kept (layout x) w s test k m;
  no = no_kept (layout x) w s test k m;
  first = state_first (layout x) w s test k m;
  second = state_second (layout x) w s test k m;
}

pub either : ChoiceRule
either x w s f test ga gb left right k m one two = record {
  kept = branches_kept (layout x) w s test k m.kept left right one.kept two.kept;
  is = λ answers v. branch_sims (sees x answers v) (layout x) w s test f left right (ga answers) (gb answers) (m.is answers v) (one.is answers v) (two.is answers v) one.kept two.kept;
}

pub stop : StopRule
stop x w s rs k p f = record {
  kept = stop_kept (layout x) w s rs k p f;
  is = λ answers v. end_sims (sees x answers v) w s (Stops (chosen s.store.registers rs) s.store.cells) (λ c. Returned (map (register c.registers) rs) c.store)
      (λ c st. let these = chosen_is (sees x answers v) (layout x) w s.store p.store c st rs x.unit.results f in λ i. end_if (these i) (st.stands.of_cells i));
}

pub fail : FailRule
fail x w s t k p = record {
  kept = end_kept (layout x) w s (Traps t) k p tt;
  is = λ answers v. end_sims (sees x answers v) w s (Traps t) (λ c. Trapped t) (λ c st. refl);
}
