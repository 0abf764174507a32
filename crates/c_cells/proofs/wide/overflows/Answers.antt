use Rattle.std.proofs.Common.{rules, ◌∙◌, ◌&&◌, ap, negsuc}
use Rattle.rvt_num.specs.Kinds.{is_signed, least}
use Rattle.rvt_num.specs.Operations.{int_eq}
use Rattle.rvt_num.proofs.Outcomes.{equal_is}
use Rattle.c_cells.proofs.wide.overflows.Goals as goal

pub returns : goal.returns
returns c =
    let signed = c.is_signed.ensures ∙ ap is_signed c.kind.ensures in
    let bound = c.least.ensures ∙ ap least c.kind-2.ensures in
    let low = equal_is c.value.result c.least.result (search rules) (search rules) ∙ (λ i. int_eq (c.value.ensures.value i) (bound i)) in
    let minus = equal_is c.value-2.result (negsuc 0) (search rules) (search rules) ∙ (λ i. int_eq (c.value-2.ensures.value i) (negsuc 0)) in
    λ i. (signed i && low i) && minus i
