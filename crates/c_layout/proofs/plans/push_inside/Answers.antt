use Rattle.std.proofs.Common.{◌<◌, ap, sym, ◌∙◌, subst, length}
use Rattle.std.specs.Prelude.{IsSome}
use Rattle.c_types.specs.Layout.{plan_in_order}
use Rattle.c_layout.specs.Sizes.{At, types_of}
use Rattle.c_layout.specs.Runs.{both, inside, plan_of_runs, known_plans}
use Rattle.c_layout.proofs.Sequences.{empty_both}
use Rattle.c_layout.proofs.Listings.{struct_inside, inside_within}
use Rattle.c_layout.proofs.Steps.{read_at}
use Rattle.c_layout.proofs.plans.push_inside.Goals as goal

pub returns-in-Word : goal.returns-in-Word
returns-in-Word c = rw c.in-Word.is (sym (empty_both (plan_of_runs (known_plans c.args.structs.now) c.args.rest.now.items)))

pub returns-in-Pointer : goal.returns-in-Pointer
returns-in-Pointer c = rw c.in-Pointer.is (sym (empty_both (plan_of_runs (known_plans c.args.structs.now) c.args.rest.now.items)))

pub returns-in_ok-push_fields-in-Struct : goal.returns-in_ok-push_fields-in-Struct
returns-in_ok-push_fields-in-Struct c =
    let structs = c.args.structs.now in
    let rest = plan_of_runs (known_plans structs) c.args.rest.now.items in
    let definition = c.index-as_slice-number.result in
    let complete = subst (λ ty. IsSome (inside structs ty)) c.in-Struct.is c.requires.complete in
    let within = inside_within structs c.in-Struct.number complete in
    let here = subst (λ list. At list c.in-Struct.number definition) c.as_slice.ensures
    (read_at c.as_slice.result.now c.in-Struct.number definition (subst (λ list. c.in-Struct.number < length list) (sym c.as_slice.ensures) within) c.index-as_slice-number.is) in
    let fields = struct_inside structs c.in-Struct.number definition here complete in
    c.in_ok-push_fields-in-Struct.ensures (known_plans structs)
    ∙ ap (λ fs. both (plan_in_order (known_plans structs) (types_of fs)) rest) c.as_slice-in-Struct.ensures
    ∙ ap (λ a. both a rest) (sym fields ∙ ap (inside structs) (sym c.in-Struct.is))
