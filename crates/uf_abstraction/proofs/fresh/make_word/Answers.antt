use Rattle.std.proofs.Common.{◌∙◌, ap, sym}
use Rattle.bit_words.specs.Built.{MadeWord}
use Rattle.rvt_num.specs.declared.kinds.Kind.{Kind}
use Rattle.uf_abstraction.specs.Applying.{fresh_lits, fresh_word, MadeLits}
use Rattle.uf_abstraction.proofs.fresh.make_word.Goals as goal

abbrev word_of : Kind → MadeLits → MadeWord
word_of kind m = record { nodes = m.nodes; word = record { kind = kind; bits = m.lits } }

pub returns : goal.returns
unfolding fresh_word
returns c = record { built = ap (λ n. word_of c.args.kind (fresh_lits c.args.circuit.now n)) (sym c.width.ensures) ∙ ap (word_of c.args.kind) c.in_ok-bits.ensures.built }
