use Rattle.std.proofs.Common.{◌≡◌, take}
use Rattle.sym_values.specs.Values.{all_lits}
use Rattle.uf_abstraction.proofs.copies.key_lits.Given as goal

abbrev pub invariant-values : goal.invariant-values
invariant-values l = l.lits.items ≡ all_lits (take l.value-index l.values)
