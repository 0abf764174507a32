use Rattle.std.proofs.Common.{◌≡◌, ℕ, List, Bool, Option, Some, None, if◌then◌else◌, sym, ap, ◌∙◌}
use Rattle.std.specs.List.{position_from}
use Rattle.rvt_tree.specs.declared.programs.Object.{Object}
use Rattle.joint_objects.specs.Globals.{is_global_of, are_alike}
use Rattle.joint_objects.proofs.SoughtLemmas.{lost, beyond, kept}
use Rattle.joint_objects.proofs.globals.alike_global.Goals as goal

abbrev gives : List (Option ℕ) → Object → ℕ → Object → Option ℕ
gives structs ours number b = if are_alike structs ours b then Some number else None

pub returns-in-None : goal.returns-in-None
returns-in-None c =
    let found : position_from (is_global_of c.args.name.now) 0 c.args.theirs.now ≡ None = sym (c.requires c.args.name.now) ∙ sym c.in-None.ensures in
    sym (lost (is_global_of c.args.name.now) (gives c.args.structs.now c.args.ours.now) c.args.theirs.now found)

pub returns-then-are_alike : goal.returns-then-are_alike
returns-then-are_alike c =
    let found : position_from (is_global_of c.args.name.now) 0 c.args.theirs.now ≡ Some c.in-Some.number = sym (c.requires c.args.name.now) ∙ sym c.in-Some.ensures in
    sym (kept (is_global_of c.args.name.now) (gives c.args.structs.now c.args.ours.now) c.args.theirs.now c.in-Some.number c.in-Some-at.other.now found (sym c.in-Some-at.ensures)
    ∙ ap (λ (b : Bool). if b then Some c.in-Some.number else None) (sym c.if-are_alike.ensures))

pub returns-else-are_alike : goal.returns-else-are_alike
returns-else-are_alike c =
    let found : position_from (is_global_of c.args.name.now) 0 c.args.theirs.now ≡ Some c.in-Some.number = sym (c.requires c.args.name.now) ∙ sym c.in-Some.ensures in
    sym (kept (is_global_of c.args.name.now) (gives c.args.structs.now c.args.ours.now) c.args.theirs.now c.in-Some.number c.in-Some-at.other.now found (sym c.in-Some-at.ensures)
    ∙ ap (λ (b : Bool). if b then Some c.in-Some.number else None) (sym c.if-are_alike.ensures))

pub returns-in-None-at : goal.returns-in-None-at
returns-in-None-at c =
    let found : position_from (is_global_of c.args.name.now) 0 c.args.theirs.now ≡ Some c.in-Some.number = sym (c.requires c.args.name.now) ∙ sym c.in-Some.ensures in
    sym (beyond (is_global_of c.args.name.now) (gives c.args.structs.now c.args.ours.now) c.args.theirs.now c.in-Some.number found (sym c.in-None-at.ensures))
