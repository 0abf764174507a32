-- A valuation of a circuit, as an assignment of its inputs.
use Rattle.std.specs.Prelude.{◌≡◌, ◌<◌, Bool, List, length}
use Rattle.aig_build.specs.Circuits.{Node, IsCircuit, Grows, input_count, lit_value}
use Rattle.aig_build.specs.declared.lits.Lit.{Lit}
use Rattle.bit_words.specs.Words.{LitWord, AreThere, word_number}
use Rattle.rvt_num.specs.Wrapping.{reading}
use Rattle.sym_values.specs.Valuations.{Valuation, IsValuation}
use Rattle.sym_values.specs.Values.{pattern_under}

-- a bit for each input, under which each literal of the circuit has the value of the valuation
pub record IsAssigned (nodes : List Node) (v : Valuation) (bits : List Bool) : Type 0 where
  pub one_bit_an_input : length bits ≡ input_count nodes
  pub value : (l : Lit) → l.node < length nodes → lit_value nodes bits l ≡ v l

abbrev pub AssignedLaw : Type 0
AssignedLaw = (nodes : List Node) (v : Valuation) → IsCircuit nodes → IsValuation nodes v → (bits : List Bool) × IsAssigned nodes v bits

-- a valuation of a circuit is one of each circuit that it grew out of
abbrev pub GrownLaw : Type 0
GrownLaw = (old new : List Node) (v : Valuation) → Grows old new → IsValuation new v → IsValuation old v

-- the number of a word under the assignment
abbrev pub NumberLaw : Type 0
NumberLaw = (nodes : List Node) (v : Valuation) (bits : List Bool) (w : LitWord) → IsAssigned nodes v bits → AreThere nodes w.bits
    → word_number nodes bits w ≡ record { kind = w.kind; value = reading w.kind (pattern_under v w) }
