use Rattle.std.proofs.Common.{◌≡◌, ◌∙◌, ◌<◌, ◌^◌, ap, sym, subst, length, []}
use Rattle.std.proofs.lemmas.List.{length-replicate}
use Rattle.rvt_num.specs.declared.values.Value.TheVariants as V
use Rattle.flat_memory.proofs.Stacks.{stacked}
use Rattle.flat_memory.proofs.LocalSteps.{nobody, nobody_room}
use Rattle.flat_memory.proofs.locals.Locals.new.Goals as goal

pub invariant_of-result : goal.invariant_of-result
invariant_of-result c =
    let size : length c.in_ok-cells.cells ≡ c.args.room = ap (λ t. length t) c.in_ok-cells.ensures ∙ length-replicate c.args.room V.Null in
    nobody_room c.args.entries.items c.in_ok-cells.cells c.len-function.result (c.len-function.ensures ∙ c.args.entries.ok.0) (subst (λ n. n < 2 ^ 32) (sym size) c.ranges.room.fits)

pub returns : goal.returns
returns c =
    let size : length c.in_ok-cells.cells ≡ c.args.room = ap (λ t. length t) c.in_ok-cells.ensures ∙ length-replicate c.args.room V.Null in
    nobody c.args.entries.items c.in_ok-cells.cells c.len-function.result (c.len-function.ensures ∙ c.args.entries.ok.0)
    ∙ ap (λ n. stacked c.args.entries.items [] [] n) size
