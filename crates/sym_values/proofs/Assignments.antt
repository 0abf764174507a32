-- The values under an assignment are a valuation.
use Rattle.std.proofs.Common.{◌≡◌, Bool, false, not, List, refl}
use Rattle.aig_build.proofs.Gates.{constant_value, gate_value}
use Rattle.aig_build.specs.Circuits.{Node, IsCircuit, constant, lit_value}
use Rattle.bit_words.proofs.Computing.{lit_value-opposite}
use Rattle.sym_values.specs.Valuations.{IsValuation, AssignmentLaw}

pub assignment : AssignmentLaw
assignment nodes bits h = record {
  of_constant = constant_value nodes (constant false) bits h refl;
  of_opposite = λ l. lit_value-opposite nodes bits l;
  of_gate = λ n a b e. gate_value nodes n a b bits h e;
}
