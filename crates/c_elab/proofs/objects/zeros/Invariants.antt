use Rattle.std.proofs.Common.{◌≡◌, map, take, pos}
use Rattle.rvt_num.specs.declared.kinds.Kind.{Kind}
use Rattle.rvt_num.specs.declared.values.Value.TheVariants.{Num}
use Rattle.c_elab.proofs.objects.zeros.Given as goal

abbrev pub invariant-kinds : goal.invariant-kinds
invariant-kinds l = record {
  whole : l.values.items ≡ map (λ (kind : Kind). Num (record { kind = kind; value = pos 0 })) (take l.kind-index l.kind-items);
}
