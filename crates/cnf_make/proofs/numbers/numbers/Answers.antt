use Rattle.std.proofs.Common.{rules, ◌≡◌, ℕ, ◌<◌, ◌+◌, Vec, vec_capacity, length, refl, None, true, false, ap, ◌∙◌, arith}
use Rattle.std.specs.Global.{Global}
use Rattle.aig_build.proofs.Gates.{some_taken}
use Rattle.cnf_make.proofs.Numbering.{gate_step, other_step}
use Rattle.cnf_make.proofs.numbers.numbers.Goals.{then-marks-node, else-marks-node, in-Some, in-None}
use Rattle.cnf_make.proofs.numbers.numbers.Goals as goal

pub up-init : goal.up-init
up-init c =
    let some = some_taken _ c.nodes-node-end.ensures.circuit in
    let inputs = c.inputs-gate.ensures in
    record {
      room = search rules;
      numbered = record { input_is = omega arith; gate_is = omega arith; size = search rules; entries = λ k h. absurd (omega arith) };
    }

pub up-preserved : goal.up-preserved
up-preserved c =
    let h : c.up.node < length c.args.circuit.now = search rules in
    let w : c.up.node < length c.args.marks.now = search rules in
    let old = c.up.invariant.numbered in
    let room = c.up.invariant.room in
    let same : c.up.input ≡ c.up.input + 0 = omega arith in
    elim c.if-marks-node.branch [
      | then-marks-node m ↦
          let cap = ap (λ (t : Vec ℕ Global). vec_capacity t) m.table-is in
          let more = m.push_reserved.ensures.capacity in
          let items = ap (λ (t : Vec ℕ Global). t.items) m.table-is ∙ m.push_reserved.ensures.items in
          elim c.match-gate.branch [
            | in-None v ↦ record {
              room = omega arith;
              numbered = gate_step c.args.circuit.now c.args.marks.now c.up.node c.up.table.items true c.up.input c.up.gate _ _ _ None h w v.in-None.ensures.there refl m.if-marks-node.true v.input-is m.gate-is items old;
            }
            | in-Some v ↦ record {
              room = omega arith;
              numbered = gate_step c.args.circuit.now c.args.marks.now c.up.node c.up.table.items false c.up.input c.up.gate _ _ _ _ h w v.in-Some.ensures.there refl m.if-marks-node.true (v.input-is ∙ same) m.gate-is items old;
            }
          ]
      | else-marks-node m ↦
          let cap = ap (λ (t : Vec ℕ Global). vec_capacity t) m.table-is in
          let more = m.push_reserved-else-marks-node.ensures.capacity in
          let items = ap (λ (t : Vec ℕ Global). t.items) m.table-is ∙ m.push_reserved-else-marks-node.ensures.items in
          elim c.match-gate.branch [
            | in-None v ↦ record {
              room = omega arith;
              numbered = other_step c.args.circuit.now c.args.marks.now c.up.node c.up.table.items true c.up.input c.up.gate _ _ _ None h w v.in-None.ensures.there refl m.if-marks-node.false v.input-is m.gate-is items old;
            }
            | in-Some v ↦ record {
              room = omega arith;
              numbered = other_step c.args.circuit.now c.args.marks.now c.up.node c.up.table.items false c.up.input c.up.gate _ _ _ _ h w v.in-Some.ensures.there refl m.if-marks-node.false (v.input-is ∙ same) m.gate-is items old;
            }
          ]
    ]
