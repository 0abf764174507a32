use Rattle.std.proofs.Common.{◌∙◌, ◌<◌, length, sym, ap, subst}
use Rattle.aig_build.specs.declared.lits.Lit.{Lit}
use Rattle.aig_build.specs.Circuits.{lit_value}
use Rattle.bit_words.specs.Words.{word_number}
use Rattle.bit_ops.specs.Built.{shift_operation}
use Rattle.bit_ops.proofs.OutcomeValues.{constant_there, false_later, shift_outcome}
use Rattle.bit_ops.proofs.operations.shifted.Goals as goal

pub returns : goal.returns
returns c =
    let old = c.args.circuit.now in
    let new = c.word_shift.new.circuit in
    let made = c.in_ok-word.ensures in
    let h = c.nodes-count.ensures.circuit in
    record {
      built = ap shift_operation made.built ∙ (λ i. record { nodes = new; word = c.in_ok-word.word; traps = record { divide = sym c.constant.ensures i; quotient = sym c.constant-2.ensures i; shift = c.in_ok-word.far } });
      value = λ inputs.
          shift_outcome c.args.up new inputs (record { divide = c.constant.result; quotient = c.constant-2.result; shift = c.in_ok-word.far }) (word_number new inputs c.in_ok-word.word) (word_number old inputs c.args.a.now) (word_number old inputs c.args.b.now)
          (ap (lit_value new inputs) c.constant.ensures ∙ false_later old new inputs h made.grows) (ap (lit_value new inputs) c.constant-2.ensures ∙ false_later old new inputs h made.grows)
          (made.too_far inputs) (made.value inputs);
      there = made.there;
      traps_there = record {
        divide = subst (λ (x : Lit). x.node < length new) (sym c.constant.ensures) (constant_there old new h made.grows);
        quotient = subst (λ (x : Lit). x.node < length new) (sym c.constant-2.ensures) (constant_there old new h made.grows);
        shift = made.too_far_there;
      };
      grows = made.grows;
    }
