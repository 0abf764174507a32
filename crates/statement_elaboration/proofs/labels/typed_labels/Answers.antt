use Rattle.std.proofs.Common.{sym, append_assoc}
use Rattle.statement_elaboration.specs.Views.{block_view}
use Rattle.statement_elaboration.proofs.Lists.{labels_next}
use Rattle.statement_elaboration.proofs.labels.typed_labels.Goals as goal

pub labels-preserved : goal.labels-preserved
labels-preserved c = record {
  before = rw (c.in_ok-add.ensures, c.in_ok-put.ensures, c.labels.invariant.before) (append_assoc c.args.before.now c.labels.made.items _);
  same_outcome = rw (c.in_ok-add.ensures, c.in_ok-put.ensures)
      (labels_next _ (block_view c.args.environment.now c.args.block) c.args.kind c.labels.before c.labels.rest.now c.label-item.result c.labels.made.items c.in_ok-label.label _ _
      c.in-len1-up.len_at_least c.labels.invariant.same_outcome (rw (sym c.label-item.is) c.in_ok-label.ensures));
}
