use Rattle.std.proofs.Common.{List, Option, ℕ, ap₂, ◌∙◌}
use Rattle.function_pairs.specs.declared.pairs.FunctionPairs.{FunctionPairs}
use Rattle.function_pairs.specs.Counterparts.{new_name, old_name}
use Rattle.function_pairs.proofs.SideLemmas.{partners_stand}
use Rattle.function_pairs.proofs.partners.function_pairs.Goals as goal

abbrev made : List (Option ℕ) → List (Option ℕ) → FunctionPairs
made of_old of_new = record { of_old = of_old; of_new = of_new }

pub returns : goal.returns
returns c =
    let old = c.args.old.now in
    let new = c.args.new.now in
    let lines = c.args.lines.now in
    ap₂ made
    (c.from_vec.ensures ∙ c.in_ok-of_old.ensures ∙ partners_stand _ _ (new_name lines) (old_name lines) old new c.in_ok-old_side.ensures c.in_ok-new_side.ensures 0 old)
    (c.from_vec-2.ensures ∙ c.in_ok-of_new.ensures ∙ partners_stand _ _ (old_name lines) (new_name lines) new old c.in_ok-new_side.ensures c.in_ok-old_side.ensures 0 new)
