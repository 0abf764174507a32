use Rattle.std.proofs.Common.{subst}
use Rattle.bit_ops.specs.declared.values.SymValue.{SymValue}
use Rattle.bit_words.specs.Words.{AreThere}
use Rattle.sym_values.specs.Values.{lits_of}
use Rattle.uf_abstraction.proofs.Loops.{there_front, there_back}
use Rattle.uf_abstraction.proofs.pointers.with_result.Goals as goal

pub on_targets-requires-clause-object_is_there : goal.on_targets-requires-clause-object_is_there
on_targets-requires-clause-object_is_there c =
    there_front c.args.circuit.now _ c.in-Pointer-Pointer.cell.bits (subst (λ (x : SymValue). AreThere c.args.circuit.now (lits_of x)) c.in-Pointer-Pointer.is-1 c.requires.value_is_there)

pub on_targets-requires-clause-cell_is_there : goal.on_targets-requires-clause-cell_is_there
on_targets-requires-clause-cell_is_there c =
    there_back c.args.circuit.now c.in-Pointer-Pointer.object.bits _ (subst (λ (x : SymValue). AreThere c.args.circuit.now (lits_of x)) c.in-Pointer-Pointer.is-1 c.requires.value_is_there)
