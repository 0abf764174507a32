use Rattle.std.proofs.Common.{◌≡◌, drop}
use Rattle.joint_cycles.specs.Owners.{first_among}
use Rattle.joint_cycles.proofs.owners.first_flagged.Given as goal

-- the first such owner is among those that are left
abbrev pub invariant-owners : goal.invariant-owners
invariant-owners l = first_among l.flags (drop l.owner-index l.owners) ≡ first_among l.flags l.owners
