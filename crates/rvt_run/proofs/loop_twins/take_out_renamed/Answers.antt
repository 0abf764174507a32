use Rattle.std.proofs.Common.{◌≡◌, ◌+◌, ℕ, List, Option, Some, None, true, false, length, refl, sym, ◌∙◌, ap, subst, arith, length-set}
use Rattle.rvt_tree.specs.Same.{ArePaired}
use Rattle.rvt_run.proofs.Alike.{Alike, TakenOut, start, one_out, one_in, all_alike}
use Rattle.rvt_run.proofs.loop_twins.take_out_renamed.Goals as goal

pub functions-init : goal.functions-init
functions-init c = record { as_long = refl; taken = start c.args.old.now c.args.new.now c.args.pairing.now }

pub functions-preserved-then-branch : goal.functions-preserved-then-branch
functions-preserved-then-branch c =
    let pairing = c.functions.pairing in
    let f = c.functions.f in
    let paired : ArePaired pairing.functions f c.in-Some-Some.g = sym c.in-Some-Some.ensures.value ∙ ap Some c.in-Some-Some.field-0-is in
    record {
      as_long = c.functions.invariant.as_long;
      taken = one_in c.args.old.now c.args.new.now c.args.pairing.now pairing f c.in-Some-Some.g c.functions.invariant.taken paired (c.in_ok-are_named_alike.ensures.0 c.if-branch.true);
    }

pub functions-preserved : goal.functions-preserved
functions-preserved c =
    let pairing = c.functions.pairing in
    let f = c.functions.f in
    let g = c.in-Some-Some.g in
    let paired : ArePaired pairing.functions f g = sym c.in-Some-Some.ensures.value ∙ ap Some c.in-Some-Some.field-0-is in
    let other : Alike c.args.old.now c.args.new.now f g → ⊥ = λ alike. let no : true ≡ false = sym (c.in_ok-are_named_alike.ensures.1 alike) ∙ c.if-branch.false in cc in
    record {
      as_long = ap length c.set.ensures ∙ length-set pairing.functions f None ∙ c.functions.invariant.as_long;
      taken = subst (λ (fs : List (Option ℕ)). TakenOut c.args.old.now c.args.new.now c.args.pairing.now (record { functions = fs; objects = pairing.objects; structs = pairing.structs }) (f + 1)) (sym c.set.ensures)
          (one_out c.args.old.now c.args.new.now c.args.pairing.now pairing f g c.functions.invariant.taken paired other);
    }

pub returns : goal.returns
returns c =
    all_alike c.args.old.now c.args.new.now c.args.pairing.now c.functions.pairing c.functions.f c.functions.invariant.taken (omega (arith, c.functions.invariant.as_long, c.len-f-end.ensures, c.functions-test.false))
