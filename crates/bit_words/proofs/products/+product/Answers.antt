use Rattle.std.proofs.Common.{rules, ◌≡◌, ◌∙◌, length, drop, sym, subst, arith, length-take, length-drop}
use Rattle.bit_words.specs.Built.{MadeBits, add_row_built}
use Rattle.bit_words.specs.Words.{AreThere}
use Rattle.bit_words.proofs.Multiplication.{product-makes, product_from, product_of_none, AreThere-tail, AreThere-take}
use Rattle.bit_words.proofs.RippleCarry.{AreThere-later}
use Rattle.bit_words.proofs.products.+product.Goals as goal

pub product-requires : goal.product-requires
product-requires t c =
    let some = c.if-is_empty.false in
    let e = c.requires.same_width in
    let d = c.decreases in
    let grows = c.in_ok-row.ensures.grows in (
      search rules,
      (
        AreThere-take _ _ c.args.a.now (AreThere-later _ _ c.args.a.now grows c.requires.a_is_there),
        (
          AreThere-take _ _ (drop 1 c.args.b.now) (AreThere-tail _ c.args.b.now (AreThere-later _ _ c.args.b.now grows c.requires.b_is_there)),
          simp (length-take, length-drop) (omega arith),
        ),
      ),
    )

pub returns-then-is_empty-clause-built : goal.returns-then-is_empty-clause-built
returns-then-is_empty-clause-built t c = rw c.new.ensures.items (product_of_none _ _ _ c.requires.same_width (search rules))

pub add_row-requires-clause-row_is_there : goal.add_row-requires-clause-row_is_there
add_row-requires-clause-row_is_there t c = rw c.deref.ensures.value (AreThere-later _ _ c.in_ok-row.row.items c.in_ok-high.ensures.grows c.in_ok-row.ensures.there)

pub returns-clause-built : goal.returns-clause-built
returns-clause-built t c =
    let some = c.if-is_empty.false in
    let e = c.requires.same_width in
    product_from _ _ _ _ _ _ _ _ _ (search rules) (search rules) c.in_ok-row.ensures.nodes c.in_ok-row.ensures.bits c.in_ok-high.ensures.built
    ((λ i. add_row_built c.product.new.circuit (sym c.deref.ensures.value i) (sym c.deref-2.ensures.value i)) ∙ c.in_ok-sum.ensures.built)

pub returns-clause-width : goal.returns-clause-width
returns-clause-width t c =
    let makes = product-makes _ _ _ c.nodes-count.ensures.circuit c.requires.a_is_there c.requires.b_is_there c.requires.same_width in
    subst (λ (m : MadeBits). length m.bits ≡ length c.args.a.now) (returns-clause-built t c) makes.width

pub returns-clause-there : goal.returns-clause-there
returns-clause-there t c =
    let makes = product-makes _ _ _ c.nodes-count.ensures.circuit c.requires.a_is_there c.requires.b_is_there c.requires.same_width in
    subst (λ (m : MadeBits). AreThere m.nodes m.bits) (returns-clause-built t c) makes.there
