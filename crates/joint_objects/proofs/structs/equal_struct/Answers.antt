use Rattle.std.proofs.Common.{◌≡◌, ℕ, List, Bool, Option, Some, None, if◌then◌else◌, sym, ap, ◌∙◌}
use Rattle.std.specs.List.{position_from}
use Rattle.rvt_tree.specs.declared.programs.StructDef.{StructDef}
use Rattle.joint_objects.specs.Indexes.{numbered_as}
use Rattle.joint_objects.specs.StructTypes.{have_one_name, have_same_fields}
use Rattle.joint_objects.proofs.SoughtLemmas.{lost, beyond, kept}
use Rattle.joint_objects.proofs.structs.equal_struct.Goals as goal

abbrev gives : List (Option ℕ) → StructDef → ℕ → StructDef → Option ℕ
gives known ours number b = if have_same_fields known ours b then Some number else None

pub returns-in-None : goal.returns-in-None
returns-in-None c =
    let ours = c.args.ours.now in
    let found : position_from (have_one_name ours) 0 c.args.theirs.now ≡ None = sym (c.requires ours) ∙ ap (λ k. numbered_as k c.args.table.now) (sym c.struct_key.ensures) ∙ sym c.in-None.ensures in
    sym (lost (have_one_name ours) (gives c.args.known.now ours) c.args.theirs.now found)

pub returns-then-have_same_fields : goal.returns-then-have_same_fields
returns-then-have_same_fields c =
    let ours = c.args.ours.now in
    let found : position_from (have_one_name ours) 0 c.args.theirs.now ≡ Some c.in-Some.number = sym (c.requires ours) ∙ ap (λ k. numbered_as k c.args.table.now) (sym c.struct_key.ensures) ∙ sym c.in-Some.ensures in
    sym (kept (have_one_name ours) (gives c.args.known.now ours) c.args.theirs.now c.in-Some.number c.in-Some-at.other.now found (sym c.in-Some-at.ensures)
    ∙ ap (λ (b : Bool). if b then Some c.in-Some.number else None) (sym c.if-have_same_fields.ensures))

pub returns-else-have_same_fields : goal.returns-else-have_same_fields
returns-else-have_same_fields c =
    let ours = c.args.ours.now in
    let found : position_from (have_one_name ours) 0 c.args.theirs.now ≡ Some c.in-Some.number = sym (c.requires ours) ∙ ap (λ k. numbered_as k c.args.table.now) (sym c.struct_key.ensures) ∙ sym c.in-Some.ensures in
    sym (kept (have_one_name ours) (gives c.args.known.now ours) c.args.theirs.now c.in-Some.number c.in-Some-at.other.now found (sym c.in-Some-at.ensures)
    ∙ ap (λ (b : Bool). if b then Some c.in-Some.number else None) (sym c.if-have_same_fields.ensures))

pub returns-in-None-at : goal.returns-in-None-at
returns-in-None-at c =
    let ours = c.args.ours.now in
    let found : position_from (have_one_name ours) 0 c.args.theirs.now ≡ Some c.in-Some.number = sym (c.requires ours) ∙ ap (λ k. numbered_as k c.args.table.now) (sym c.struct_key.ensures) ∙ sym c.in-Some.ensures in
    sym (beyond (have_one_name ours) (gives c.args.known.now ours) c.args.theirs.now c.in-Some.number found (sym c.in-None-at.ensures))
