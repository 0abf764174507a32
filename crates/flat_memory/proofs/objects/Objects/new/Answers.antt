use Rattle.std.proofs.Common.{◌∙◌, ap, length, refl}
use Rattle.std.proofs.lemmas.List.{length-replicate}
use Rattle.rvt_num.specs.declared.values.Value.TheVariants as V
use Rattle.flat_memory.specs.Extents.{extents_from, constant_contents, store_length}
use Rattle.flat_memory.proofs.objects.Objects.new.Goals as goal

pub invariant_of-result : goal.invariant_of-result
invariant_of-result c =
    record {
      lie = c.in_ok-extents.ensures ∙ ap (extents_from 0 0) c.as_slice-objects.ensures;
      hold = c.in_ok-constants.ensures ∙ ap constant_contents c.as_slice-objects.ensures;
      fill = ap (λ t. length t) c.in_ok-store.ensures ∙ length-replicate c.in_ok-stored.field-0 V.Null ∙ c.in_ok-stored.ensures ∙ ap store_length c.as_slice-objects.ensures;
    }

pub returns : goal.returns
returns c = refl
