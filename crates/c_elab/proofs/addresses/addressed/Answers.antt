use Rattle.rvt_tree.specs.declared.expressions.Variable.TheVariants as V
use Rattle.c_elab.proofs.FlagLists.{function_step}
use Rattle.c_elab.proofs.addresses.addressed.Goals as goal

pub functions-preserved : goal.functions-preserved
functions-preserved c = record {
  whole = λ k. function_step c.functions.rest.now c.function-item.result (V.Object k) _ _ _ c.in-len1-up.len_at_least c.function-item.is (c.in_ok-flag_objects_in.ensures k) (c.functions.invariant.whole k);
}
