use Rattle.std.proofs.Common.{◌≡◌, ◌∙◌, ◌&&◌, ◌<◌, true, false, cond, length, negsuc, refl, sym, ap, subst, arith}
use Rattle.aig_build.specs.declared.lits.Lit.{Lit}
use Rattle.aig_build.specs.Circuits.{constant, lit_value}
use Rattle.aig_build.proofs.Gates.{constant_value}
use Rattle.aig_build.proofs.Nodes.{Grows-refl}
use Rattle.rvt_num.specs.declared.kinds.Kind.{Kind}
use Rattle.rvt_num.specs.Kinds.{is_signed, least}
use Rattle.rvt_num.specs.Operations.{int_eq}
use Rattle.bit_words.specs.Words.{word_number}
use Rattle.bit_words.proofs.WordValues.{some_nodes}
use Rattle.bit_ops.specs.Built.{both_built}
use Rattle.bit_ops.proofs.traps.overflows.Goals as goal

pub both-requires : goal.both-requires
both-requires c =
    let e = c.has_sign.ensures in
    let f = c.if-not-has_sign.false in
    let t : is_signed c.args.a.now.kind ≡ true = grind arith in
    record { a_is_there = c.requires.a_is_there; b_is_there = c.requires.b_is_there; a_signed = t; b_signed = subst (λ (k : Kind). is_signed k ≡ true) c.requires.same_kind t }

pub returns-then-not-has_sign : goal.returns-then-not-has_sign
returns-then-not-has_sign c =
    let e = c.has_sign.ensures in
    let f = c.if-not-has_sign.true in
    let t : is_signed c.args.a.now.kind ≡ false = grind arith in
    let h = c.nodes-count.ensures.circuit in
    record {
      built = ap (λ s. cond s (both_built c.args.circuit.now c.args.a.now c.args.b.now) (record { nodes = c.args.circuit.now; lit = constant false })) t ∙ (λ i. record { nodes = c.args.circuit.now; lit = sym c.constant.ensures i });
      value = λ inputs.
          ap (lit_value c.args.circuit.now inputs) c.constant.ensures ∙ constant_value c.args.circuit.now (constant false) inputs h refl
          ∙ ap (λ s. s && int_eq (word_number c.args.circuit.now inputs c.args.a.now).value (least c.args.a.now.kind) && int_eq (word_number c.args.circuit.now inputs c.args.b.now).value (negsuc 0)) (sym t);
      there = subst (λ (x : Lit). x.node < length c.args.circuit.now) (sym c.constant.ensures) (some_nodes c.args.circuit.now h);
      grows = Grows-refl _;
    }

pub returns : goal.returns
returns c =
    let e = c.has_sign.ensures in
    let f = c.if-not-has_sign.false in
    let t : is_signed c.args.a.now.kind ≡ true = grind arith in
    record {
      built = ap (λ s. cond s (both_built c.args.circuit.now c.args.a.now c.args.b.now) (record { nodes = c.args.circuit.now; lit = constant false })) t ∙ c.in_ok-lit.ensures.built;
      value = λ inputs.
          c.in_ok-lit.ensures.value inputs
          ∙ ap (λ s. s && int_eq (word_number c.args.circuit.now inputs c.args.a.now).value (least c.args.a.now.kind) && int_eq (word_number c.args.circuit.now inputs c.args.b.now).value (negsuc 0)) (sym t);
      there = c.in_ok-lit.ensures.there;
      grows = c.in_ok-lit.ensures.grows;
    }
