-- Items, parts of blocks, declarators: the first wrong one.
use Rattle.std.proofs.Common.{◌≡◌, ◌∙◌, List, [], ◌∷◌, ◌++◌, sym, ap, subst}
use Rattle.rvt_tree.specs.declared.places.Place.{Place}
use Rattle.c_syntax.specs.Syntax as s
use Rattle.rvt_tree.specs.Syntax as tree
use Rattle.expression_typing.specs.Entities.{QualifiedType}
use Rattle.expression_typing.specs.Progress.{Notes}
use Rattle.expression_typing.specs.Outcomes.{Cause, Broken, Checking, go_on, and_then, give}
use Rattle.file_typing.specs.Blocks.{Block}
use Rattle.file_typing.specs.FileScope.{FileScope}
use Rattle.file_typing.specs.Items as i
use Rattle.file_typing.specs.LocalDeclarations as d
use Rattle.file_typing.specs.Statements as t
use Rattle.elaboration_laws.specs.FirstFailures.{FirstBroken, this_one, a_later_one, parts_of, part_checked, declarator_checked}
use Rattle.elaboration_laws.proofs.Firsts.{made_not_broken, turned_broken, turned_made, Steps, in_first, in_second, steps}

module _ (cause : Cause) (at : Place) where
  -- ---- items

  pub items_break : (items : List s.ExternalItem) (file : FileScope) (notes : Notes)
      → i.typed_items file items notes ≡ Broken cause at → FirstBroken i.typed_item cause at file notes items
  items_break [] file notes e = absurd (made_not_broken e)
  items_break (item ∷ rest) file notes e = by (items_break rest) (steps (i.typed_item file item notes) (λ file. i.typed_items file rest) e) where
    by : ((behind : FileScope) (noted : Notes) → i.typed_items behind rest noted ≡ Broken cause at → FirstBroken i.typed_item cause at behind noted rest)
        → Steps (i.typed_item file item notes) (λ file. i.typed_items file rest) cause at → FirstBroken i.typed_item cause at file notes (item ∷ rest)
    by later (in_first b) = this_one b
    by later (in_second {a = behind} {notes = noted} m b) = a_later_one m (later behind noted b)

  pub broken_items : {file : FileScope} {notes : Notes} {items : List s.ExternalItem}
      → FirstBroken i.typed_item cause at file notes items → i.typed_items file items notes ≡ Broken cause at
  broken_items (this_one {rest = rest} b) = ap (go_on (λ file. i.typed_items file rest)) b
  broken_items (a_later_one {rest = rest} m first) = ap (go_on (λ file. i.typed_items file rest)) m ∙ broken_items first

  -- ---- parts of blocks

  pub parts_break : (parts : s.BlockItems) (block : Block) (notes : Notes)
      → t.typed_items block parts notes ≡ Broken cause at → FirstBroken part_checked cause at block notes (parts_of parts)
  parts_break s.no_items block notes e = absurd (made_not_broken e)
  parts_break (s.block_item part rest) block notes e = by (parts_break rest) (steps (t.typed_item block part notes) next e) where
    next : d.Declared → Checking tree.Statements
    next first = and_then (t.typed_items first.block rest) (λ others. give (t.statements_before first.statements others))

    by : ((block : Block) (noted : Notes) → t.typed_items block rest noted ≡ Broken cause at → FirstBroken part_checked cause at block noted (parts_of rest))
        → Steps (t.typed_item block part notes) next cause at → FirstBroken part_checked cause at block notes (part ∷ parts_of rest)
    by later (in_first b) = this_one (ap (go_on (λ made. give made.block)) b)
    by later (in_second {a = first} {notes = noted} m b) =
        a_later_one (ap (go_on (λ made. give made.block)) m)
        (later first.block noted (turned_broken (t.statements_before first.statements) (t.typed_items first.block rest noted) b))

  pub broken_parts : (parts : s.BlockItems) (block : Block) (notes : Notes)
      → FirstBroken part_checked cause at block notes (parts_of parts) → t.typed_items block parts notes ≡ Broken cause at
  broken_parts s.no_items block notes first = elim first [ ]
  broken_parts (s.block_item part rest) block notes (this_one b) =
      ap (go_on (λ first. and_then (t.typed_items first.block rest) (λ others. give (t.statements_before first.statements others))))
      (turned_broken (λ (made : d.Declared). made.block) (t.typed_item block part notes) b)
  broken_parts (s.block_item part rest) block notes (a_later_one {noted = noted} m first) =
      let was = turned_made (λ (made : d.Declared). made.block) (t.typed_item block part notes) m in
      ap (go_on (λ first. and_then (t.typed_items first.block rest) (λ others. give (t.statements_before first.statements others)))) was.1
      ∙ ap (go_on (λ others. give (t.statements_before was.0.statements others)))
      (broken_parts rest was.0.block noted (subst (λ block. FirstBroken part_checked cause at block noted (parts_of rest)) (sym was.2) first))

  -- ---- declarators

  module _ (base : QualifiedType) where
    pub declarators_break : (inits : List s.InitDeclarator) (block : Block) (notes : Notes)
        → d.typed_declarators block base inits notes ≡ Broken cause at → FirstBroken (declarator_checked base) cause at block notes inits
    declarators_break [] block notes e = absurd (made_not_broken e)
    declarators_break (init ∷ rest) block notes e = by (declarators_break rest) (steps (d.typed_declarator block base init notes) next e) where
      next : d.Declared → Checking d.Declared
      next first = and_then (d.typed_declarators first.block base rest) (λ others. give (record { block = others.block; statements = first.statements ++ others.statements }))

      by : ((block : Block) (noted : Notes) → d.typed_declarators block base rest noted ≡ Broken cause at → FirstBroken (declarator_checked base) cause at block noted rest)
          → Steps (d.typed_declarator block base init notes) next cause at → FirstBroken (declarator_checked base) cause at block notes (init ∷ rest)
      by later (in_first b) = this_one (ap (go_on (λ made. give made.block)) b)
      by later (in_second {a = first} {notes = noted} m b) =
          a_later_one (ap (go_on (λ made. give made.block)) m)
          (later first.block noted
          (turned_broken (λ others. record { block = others.block; statements = first.statements ++ others.statements }) (d.typed_declarators first.block base rest noted) b))

    pub broken_declarators : (inits : List s.InitDeclarator) (block : Block) (notes : Notes)
        → FirstBroken (declarator_checked base) cause at block notes inits → d.typed_declarators block base inits notes ≡ Broken cause at
    broken_declarators [] block notes first = elim first [ ]
    broken_declarators (init ∷ rest) block notes (this_one b) =
        ap (go_on (λ first. and_then (d.typed_declarators first.block base rest) (λ others. give (record { block = others.block; statements = first.statements ++ others.statements }))))
        (turned_broken (λ (made : d.Declared). made.block) (d.typed_declarator block base init notes) b)
    broken_declarators (init ∷ rest) block notes (a_later_one {noted = noted} m first) =
        let was = turned_made (λ (made : d.Declared). made.block) (d.typed_declarator block base init notes) m in
        ap (go_on (λ first. and_then (d.typed_declarators first.block base rest) (λ others. give (record { block = others.block; statements = first.statements ++ others.statements })))) was.1
        ∙ ap (go_on (λ others. give (record { block = others.block; statements = was.0.statements ++ others.statements })))
        (broken_declarators rest was.0.block noted (subst (λ block. FirstBroken (declarator_checked base) cause at block noted rest) (sym was.2) first))
