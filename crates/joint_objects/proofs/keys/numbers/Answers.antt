use Rattle.std.proofs.Common.{◌≡◌, ◌<◌, ◌-◌, ℕ, List, Option, Some, option_map, if◌then◌else◌, ap, ◌∙◌, arith}
use Rattle.joint_objects.specs.Indexes.{is_key, key_view}
use Rattle.joint_objects.proofs.KeyLemmas.{numbered_before}
use Rattle.joint_objects.proofs.keys.numbers.Goals as goal

pub keys-preserved : goal.keys-preserved
keys-preserved c =
    let positive : 0 < c.keys.left = omega (arith, c.keys-test.true) in
    record {
      within = omega (arith, c.keys.invariant.within);
      numbered = λ wanted.
          c.in_ok-put.ensures wanted
          ∙ ap (λ (r : Option ℕ). if is_key wanted (option_map key_view c.key_at.result) then Some (c.keys.left - 1) else r) (c.keys.invariant.numbered wanted)
          ∙ numbered_before c.args.keys.now (c.keys.left - 1) c.keys.left c.key_at.result wanted (omega (arith, positive)) c.key_at.ensures;
    }
