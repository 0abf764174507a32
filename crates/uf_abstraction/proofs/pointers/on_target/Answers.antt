use Rattle.std.proofs.Common.{◌∙◌, ◌++◌, ◌∷◌, [], ap, sym, subst, arith}
use Rattle.aig_build.proofs.Nodes.{Grows-length}
use Rattle.bit_words.proofs.ConvertValues.{AreThere-append}
use Rattle.bit_words.proofs.RippleCarry.{AreThere-later}
use Rattle.bit_words.specs.Words.{AreThere, LitWord}
use Rattle.uf_abstraction.proofs.Loops.{number_there}
use Rattle.uf_abstraction.proofs.pointers.on_target.Goals as goal

pub carried-requires-clause-a_is_there : goal.carried-requires-clause-a_is_there
carried-requires-clause-a_is_there c =
    let object = c.deref.ensures.value ∙ ap (λ (w : LitWord). w.bits) c.object.view_is in
    subst (AreThere c.args.circuit.now) (sym (c.deref-2.ensures.value ∙ c.in_ok-bits.ensures ∙ (λ i. object i ++ c.constant.ensures i ∷ [])))
    (AreThere-append c.args.circuit.now _ _ c.requires.object_is_there (c.requires.some, tt))

pub carried-requires-clause-b_is_there : goal.carried-requires-clause-b_is_there
carried-requires-clause-b_is_there c = subst (AreThere c.args.circuit.now) (sym (c.deref-3.ensures.value ∙ c.in_ok-number.ensures)) (number_there c.args.circuit.now c.requires.some _ _)

pub carried-requires-2-clause-a_is_there : goal.carried-requires-2-clause-a_is_there
carried-requires-2-clause-a_is_there c =
    let cell = c.deref-4.ensures.value ∙ ap (λ (w : LitWord). w.bits) c.cell.view_is in
    AreThere-later _ _ _ c.in_ok-named.ensures.grows (subst (AreThere c.args.circuit.now) (sym cell) c.requires.cell_is_there)

pub carried-requires-2-clause-b_is_there : goal.carried-requires-2-clause-b_is_there
carried-requires-2-clause-b_is_there c =
    let some = c.requires.some in
    let longer = Grows-length _ _ c.in_ok-named.ensures.grows in
    subst (AreThere c.carried.new.circuit) (sym (c.deref-5.ensures.value ∙ c.in_ok-most.ensures)) (number_there c.carried.new.circuit (omega (arith, some, longer)) _ _)
