use Rattle.std.proofs.Common.{◌≡◌, ◌<◌, length, sym, ap, ◌∙◌, arith}
use Rattle.sym_places.proofs.Based.{bases_long, past, held_at}
use Rattle.sym_places.specs.Reads.{cell_held}
use Rattle.sym_places.proofs.held.cell_held.Goals as goal

pub bounds-bases-number : goal.bounds-bases-number
bounds-bases-number c =
    let e : length c.args.bases.now ≡ length c.args.objects.now = ap (λ bs. length bs) c.requires.bases_are ∙ bases_long 0 c.args.objects.now in
    omega (arith, e, c.if-number-objects.false)

pub returns-then-number-objects : goal.returns-then-number-objects
returns-then-number-objects c =
    c.in_ok-null.ensures ∙ ap (cell_held c.args.objects.now c.args.cells.now c.args.object c.args.cell) (sym (past c.args.objects.now c.args.object c.if-number-objects.true))

pub returns : goal.returns
returns c =
    let there : c.args.object < length c.args.objects.now = omega (arith, c.if-number-objects.false) in
    c.in_ok-value.ensures ∙ held_at c.args.objects.now c.args.bases.now c.args.cells.now c.args.object c.args.cell _ _ c.requires.bases_are there c.index-objects-number.is
