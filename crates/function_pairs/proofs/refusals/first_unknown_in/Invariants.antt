use Rattle.std.proofs.Common.{◌≡◌, drop, not}
use Rattle.std.specs.List.{find}
use Rattle.function_pairs.specs.Refusals.{known_by}
use Rattle.function_pairs.proofs.refusals.first_unknown_in.Given as goal

-- the first such line is among those that are left
abbrev pub invariant-lines : goal.invariant-lines
invariant-lines l = find (λ line. not (known_by l.old l.new line)) (drop l.line-index l.lines) ≡ find (λ line. not (known_by l.old l.new line)) l.lines
