use Rattle.std.proofs.Common.{◌≡◌, List, Result, Ok, Err, map, rules, sym, subst}
use Rattle.file_state.specs.Views.{file_state_view, function_entry_view}
use Rattle.file_state.specs.declared.entries.FunctionEntry.{FunctionEntry}
use Rattle.rvt_tree.specs.declared.programs.Program.{Program}
use Rattle.typing_base.specs.declared.faults.Fault.{Fault}
use Rattle.c_elab.specs.LastRules.{IsSought}
use Rattle.c_elab.specs.Typed.{IsTyped}
use Rattle.c_elab.proofs.Refused.{end_refused, accepted}
use Rattle.c_elab.proofs.elaborations.finished.Goals as goal

pub returns-in_err-last_rules : goal.returns-in_err-last_rules
returns-in_err-last_rules c =
    let fault = c.in_err-last_rules.field-0.0 in
    let told : c.from_residual.result ≡ Err fault = search rules in
    let last : IsSought (file_state_view c.args.state).functions (Err fault) = subst (λ (functions : List FunctionEntry). IsSought (map function_entry_view functions) (Err fault)) c.deref.ensures.value c.in_err-last_rules.ensures in
    λ items notes typed. subst (λ (r : Result Program Fault). IsTyped items r) (sym told) (end_refused items (file_state_view c.args.state) notes fault typed last)

pub returns : goal.returns
returns c =
    let last : IsSought (file_state_view c.args.state).functions (Ok tt) = subst (λ (functions : List FunctionEntry). IsSought (map function_entry_view functions) (Ok tt)) c.deref.ensures.value c.in_ok-last_rules.ensures in
    λ items notes typed. accepted items (file_state_view c.args.state) notes c.in_ok-program.program typed last c.in_ok-program.ensures
