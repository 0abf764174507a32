use Rattle.std.proofs.Common.{◌≡◌, ◌<◌, length, sym, ap, ◌∙◌, arith}
use Rattle.sym_places.proofs.Based.{bases_long, past, set_at}
use Rattle.sym_places.specs.Writes.{with_cell_held}
use Rattle.sym_places.proofs.writes.set_cell_held.Goals as goal

pub bounds-bases-number : goal.bounds-bases-number
bounds-bases-number c =
    let e : length c.args.bases.now ≡ length c.args.objects.now = ap (λ bs. length bs) c.requires.bases_are ∙ bases_long 0 c.args.objects.now in
    omega (arith, e, c.if-number-objects.false)

pub returns-then-number-objects : goal.returns-then-number-objects
returns-then-number-objects c = ap (with_cell_held c.args.objects.now c.args.store.now c.args.object c.args.cell c.args.value) (sym (past c.args.objects.now c.args.object c.if-number-objects.true))

pub returns : goal.returns
returns c =
    let there : c.args.object < length c.args.objects.now = omega (arith, c.if-number-objects.false) in
    c.in_ok-set_cell_in.ensures ∙ set_at c.args.objects.now c.args.bases.now c.args.store.now c.args.object c.args.cell _ c.args.value _ c.requires.bases_are there c.index-objects-number.is
