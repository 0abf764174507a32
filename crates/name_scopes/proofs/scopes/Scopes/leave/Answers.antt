use Rattle.std.proofs.Common.{◌<◌, ◌-◌, length, drop, ◌∙◌, ap, subst}
use Rattle.name_scopes.proofs.ScopeLemmas.{left}
use Rattle.name_scopes.proofs.scopes.Scopes.leave.Goals as goal

pub bindings-preserved : goal.bindings-preserved
bindings-preserved g c =
    let height = c.args.height in
    let less : height < length c.bindings.self = subst (λ n. height < n) c.height.ensures c.bindings-test.true in
    ap (λ bindings. drop (length bindings - height) bindings) c.leave_one.ensures ∙ left c.bindings.self height less ∙ c.bindings.invariant
