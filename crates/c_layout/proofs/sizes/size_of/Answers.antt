use Rattle.std.proofs.Common.{◌<◌, ◌∙◌, length, [], sym, subst, arith, vec_len, eqb→eq, rules}
use Rattle.std.proofs.lemmas.Float.{T_from_true}
use Rattle.c_types.specs.Layout.{plan_of}
use Rattle.c_layout.specs.declared.sizes.Mark.TheVariants.{Sized}
use Rattle.c_layout.specs.Causes.{IsRefusal}
use Rattle.c_layout.specs.Sizes.{At, IsWalk, size_of_struct}
use Rattle.c_layout.proofs.Measures.{type_size}
use Rattle.c_layout.proofs.Lists.{within}
use Rattle.c_layout.proofs.Ends.{err_from, first_walk, told_size, hopeless_type, stuck_type, finished, one_struct, first_entered, not_entered, no_elements}
use Rattle.c_layout.proofs.sizes.size_of.Goals as goal

pub returns-in-Ok-clause-size : goal.returns-in-Ok-clause-size
returns-in-Ok-clause-size c =
    type_size c.args.structs.now c.args.ty.now ∙ c.in-Ok.ensures.size (size_of_struct c.args.structs.now (length c.args.structs.now.list)) (λ number size h. absurd (cc))

pub enter-requires-clause-walk : goal.enter-requires-clause-walk
enter-requires-clause-walk c =
    let marks = c.in_ok-marks.ensures.items_if_clones_equal (λ y h. h) in
    rw c.new.ensures.items (subst (λ ms. IsWalk c.args.structs.now ms []) (sym marks) (first_walk c.args.structs.now c.len.result c.len.ensures))

pub returns-in_err-enter-clause-refusal : goal.returns-in_err-enter-clause-refusal
returns-in_err-enter-clause-refusal c =
    let fault = c.in_err-enter.field-0.0 in
    err_from c.from_residual-in_err-enter.result fault (IsRefusal (plan_of c.args.structs.now c.args.ty.now)) c.from_residual-in_err-enter.ensures.1
    (hopeless_type c.args.structs.now c.args.ty.now c.in-Err.number c.in-Err.ensures.wants fault c.in_err-enter.ensures.fault)

pub steps-init : goal.steps-init
steps-init c = record {
  walk = c.in_ok-enter.ensures.walk;
  first = first_entered c.new.result.items c.enter.new.self.frames.items _ c.new.ensures.items c.in_ok-enter.ensures.entered;
  entered = not_entered c.enter.new.self.marks.items c.in-Err.number c.in_ok-enter.ensures.open;
  within = let lt = within c.enter.new.self.marks.items c.in-Err.number _ c.in_ok-enter.ensures.open in omega (arith, lt, c.in_ok-enter.ensures.walk.all);
}

pub returns-in_err-step-clause-refusal : goal.returns-in_err-step-clause-refusal
returns-in_err-step-clause-refusal c =
    let fault = c.in_err-step.field-0.0 in
    let some : 0 < length c.steps.walk.frames.items = search rules in
    err_from c.from_residual-in_err-step.result fault (IsRefusal (plan_of c.args.structs.now c.args.ty.now)) c.from_residual-in_err-step.ensures.1
    (stuck_type c.args.structs.now c.args.ty.now c.in-Err.number c.in-Err.ensures.wants c.steps.walk.frames.items some c.steps.invariant.first fault c.in_err-step.ensures.fault)

pub returns-in-Ok-size_in-clause-size : goal.returns-in-Ok-size_in-clause-size
returns-in-Ok-size_in-clause-size c =
    told_size c.args.structs.now c.steps.walk.marks.items c.steps.walk.frames.items c.steps.invariant.walk c.args.ty.now c.in-Ok-size_in.size
    (λ known agrees. c.in-Ok-size_in.ensures.size known (λ n size h. agrees n size (subst (λ ms. At ms n (Sized size)) c.as_slice.ensures.value h)))

pub returns-clause-refusal : goal.returns-clause-refusal
returns-clause-refusal c =
    let none = no_elements c.steps.walk.frames.items (omega (arith, eqb→eq (vec_len c.steps.walk.frames) 0 (T_from_true _ (sym c.steps-test.ensures)), c.steps.walk.frames.ok.0)) in
    let r = finished c.args.structs.now c.steps.walk.marks.items c.steps.walk.frames.items c.steps.invariant.walk none c.in-Err.number c.steps.invariant.within c.steps.invariant.entered in
    let same = one_struct c.args.ty.now c.in-Err.number c.in-Err-size_in.field-0 c.in-Err.ensures.wants c.in-Err-size_in.ensures.wants in
    absurd (c.in-Err-size_in.ensures.uncounted r.0 (subst (λ ms. At ms c.in-Err-size_in.field-0 (Sized r.0)) (sym c.as_slice.ensures.value) (subst (λ n. At c.steps.walk.marks.items n (Sized r.0)) same r.1)))
