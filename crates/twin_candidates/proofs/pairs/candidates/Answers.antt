use Rattle.std.proofs.Common.{ℕ, List, Option, ◌∙◌, subst}
use Rattle.twin_candidates.specs.Marks.{MarksChanged}
use Rattle.twin_candidates.proofs.Found.{are_found}
use Rattle.twin_candidates.proofs.pairs.candidates.Goals as goal

pub returns : goal.returns
returns c =
    are_found c.args.old.now c.args.new.now c.args.pairing.now (record { functions = c.from_vec.result; objects = c.from_vec-2.result; structs = c.in_ok-structs.structs })
    c.as_slice.result.now c.in_ok-objects.objects.items c.as_slice-2.result.now c.as_slice-3.result.now c.in_ok-marks.marks c.as_slice-5.result.now c.in_ok-functions.functions.items
    c.as_slice.ensures c.as_slice-2.ensures c.as_slice-3.ensures c.in_ok-objects.ensures
    (subst (λ (l : List (Option ℕ)). MarksChanged c.args.old.now l c.in_ok-marks.marks) c.as_slice-4.ensures.value c.in_ok-marks.ensures)
    c.as_slice-5.ensures c.in_ok-functions.ensures c.from_vec.ensures c.from_vec-2.ensures (c.in_ok-structs.ensures ∙ c.as_slice-6.ensures)
