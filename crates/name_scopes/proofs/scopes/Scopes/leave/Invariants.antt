use Rattle.std.proofs.Common.{◌≡◌, ◌-◌, length, drop}
use Rattle.name_scopes.proofs.scopes.Scopes.leave.Given as goal

abbrev pub decreases-bindings : goal.decreases-bindings
decreases-bindings g l = length l.self

abbrev pub invariant-bindings : goal.invariant-bindings
invariant-bindings g l = drop (length l.self - l.height) l.self ≡ drop (length l.initial.self - l.height) l.initial.self
