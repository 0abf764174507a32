use Rattle.std.proofs.Common.{◌≡◌, ◌<◌, true, false, ℕ, List, Option, Some, None, length, set, slice_get, subst, sym, ◌∙◌, ap, arith, length-set}
use Rattle.rvt_tree.specs.Same.{ArePaired}
use Rattle.c_meaning.specs.Twins.{AreTwins}
use Rattle.twin_check.specs.Sets.{IsWithin, HasEveryClosed, partners}
use Rattle.twin_check.proofs.Taken.{without_within, without_every, partners_fall}
use Rattle.twin_check.proofs.sets.take_out_others.Goals as goal

pub loop-f-preserved : goal.loop-f-preserved
loop-f-preserved c =
    let pairing = c.loop-f.pairing in
    let f = c.loop-f.f in
    let g = c.in-Some-Some.g in
    let paired : ArePaired pairing.functions f g = sym c.in-Some-Some.ensures.value ∙ ap Some c.in-Some-Some.field-0-is in
    let no_twins : AreTwins pairing (slice_get c.args.old.now.functions f) (slice_get c.args.other.now.functions g) → ⊥ =
    λ twins. let no : true ≡ false = sym (c.are_twins.ensures.1 twins) ∙ c.if-are_twins.false in cc in
    let set_is : c.set.new.self ≡ set pairing.functions f None = c.set.ensures in
    let fall : partners (set pairing.functions f None) < partners pairing.functions = partners_fall pairing.functions f g paired in
    let fewer : partners c.set.new.self < partners c.args.pairing.now.functions = omega (arith, ap partners set_is, fall, c.loop-f.invariant.no_more) in
    record {
      as_long = ap length set_is ∙ length-set pairing.functions f None ∙ c.loop-f.invariant.as_long;
      within = subst (λ (fs : List (Option ℕ)). IsWithin (record { functions = fs; objects = pairing.objects; structs = pairing.structs }) c.args.pairing.now) (sym set_is)
          (without_within pairing c.args.pairing.now f c.loop-f.invariant.within);
      every = subst (λ (fs : List (Option ℕ)). HasEveryClosed c.args.old.now c.args.other.now c.args.pairing.now (record { functions = fs; objects = pairing.objects; structs = pairing.structs })) (sym set_is)
          (without_every c.args.old.now c.args.other.now c.args.pairing.now pairing f g paired no_twins c.loop-f.invariant.every);
      fewer = λ e. fewer;
      no_more = omega (arith, fewer);
      twins = λ e. let no : true ≡ false = e in cc;
    }
