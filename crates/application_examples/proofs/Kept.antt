-- One more application of the examples.
use Rattle.std.proofs.Common.{◌≡◌, ◌<◌, ◌∙◌, List, [], ◌∷◌, length, refl, sym, subst}
use Rattle.aig_build.specs.Circuits.{Node, Grows}
use Rattle.aig_build.specs.declared.lits.Lit.{Lit}
use Rattle.bit_ops.specs.declared.values.SymValue.{SymValue}
use Rattle.core_ir.specs.Tables.{EntryName}
use Rattle.core_ir.specs.declared.units.Shape.TheVariants.{Word}
use Rattle.rvt_num.specs.declared.kinds.Kind.TheVariants.{U8}
use Rattle.uf_abstraction.proofs.FreshAnswers.{kept}
use Rattle.uf_abstraction.proofs.Grouping.{all_there_later}
use Rattle.uf_abstraction.specs.Applications.{LitAnswer, LitShape, Application}
use Rattle.uf_abstraction.specs.Applying.{Applied, apply_built, AreKept}
use Rattle.application_examples.specs.Calls.{key_of, one_shape, AreCalls}

pub one_more : (old new : List Node) (before after : List Application) (name : EntryName) (key : List SymValue) (shape : LitShape) (lit : Lit) (answer : LitAnswer) → key ≡ key_of lit → shape ≡ one_shape → lit.node < length old → AreCalls old before
    → apply_built old before name key shape ≡ record { nodes = new; applied = after; answer = answer } → AreCalls new after
one_more old new before after name key shape lit answer k s there calls e =
    let m : apply_built old before name (key_of lit) one_shape ≡ record { nodes = new; applied = after; answer = answer } = (λ i. apply_built old before name (sym k i) (sym s i)) ∙ e in
    let r = subst (λ (a : Applied). AreKept (λ _. one_shape) (λ _. Word U8 ∷ []) a) m
    (kept (λ _. one_shape) (λ _. Word U8 ∷ []) old before name (key_of lit) calls.0 calls.1 (record { of_kind = refl; of_width = refl }, tt) (there, (there, (there, (there, (there, (there, (there, (there, tt))))))))) in
    (r.laid_out, r.there)

-- in a circuit that grew
pub calls_later : (old new : List Node) (applied : List Application) → Grows old new → AreCalls old applied → AreCalls new applied
calls_later old new applied g calls = (calls.0, all_there_later old new g applied calls.1)
