use Rattle.std.proofs.Common.{◌≡◌, ℕ, List, Bool, Option, Some, None, if◌then◌else◌, sym, ap, ◌∙◌}
use Rattle.std.specs.List.{position_from}
use Rattle.c_types.specs.Layout.{shape_of}
use Rattle.joint_objects.specs.StructTypes.{same_type}
use Rattle.joint_objects.specs.Indexes.{numbered_as}
use Rattle.joint_objects.specs.Locals.{Declaration, is_same_declaration}
use Rattle.joint_objects.specs.Counts.{declared_view, declared_views}
use Rattle.joint_objects.proofs.SoughtLemmas.{lost, beyond, kept}
use Rattle.joint_objects.proofs.locals.local_partner.Goals as goal

abbrev gives : List (Option ℕ) → Declaration → ℕ → Declaration → Option ℕ
gives structs a number b = if same_type structs (shape_of a.local.ty) (shape_of b.local.ty) then b.local.object else None

pub returns-in-None : goal.returns-in-None
returns-in-None c =
    let found : position_from (is_same_declaration (declared_view c.args.ours)) 0 (declared_views c.args.theirs.now) ≡ None = sym (c.requires (declared_view c.args.ours)) ∙ ap (λ k. numbered_as k c.args.table.now) (sym c.key_of.ensures) ∙ sym c.in-None.ensures in
    sym (lost (is_same_declaration (declared_view c.args.ours)) (gives c.args.structs.now (declared_view c.args.ours)) (declared_views c.args.theirs.now) found)

pub returns-then-same_type : goal.returns-then-same_type
returns-then-same_type c =
    let found : position_from (is_same_declaration (declared_view c.args.ours)) 0 (declared_views c.args.theirs.now) ≡ Some c.in-Some.number = sym (c.requires (declared_view c.args.ours)) ∙ ap (λ k. numbered_as k c.args.table.now) (sym c.key_of.ensures) ∙ sym c.in-Some.ensures in
    sym (kept (is_same_declaration (declared_view c.args.ours)) (gives c.args.structs.now (declared_view c.args.ours)) (declared_views c.args.theirs.now) c.in-Some.number (declared_view c.in-Some-declared_at.other) found (sym c.in-Some-declared_at.ensures)
    ∙ ap (λ (b : Bool). if b then c.in-Some-declared_at.other.local.now.object else None) (sym c.if-same_type.ensures))

pub returns-else-same_type : goal.returns-else-same_type
returns-else-same_type c =
    let found : position_from (is_same_declaration (declared_view c.args.ours)) 0 (declared_views c.args.theirs.now) ≡ Some c.in-Some.number = sym (c.requires (declared_view c.args.ours)) ∙ ap (λ k. numbered_as k c.args.table.now) (sym c.key_of.ensures) ∙ sym c.in-Some.ensures in
    sym (kept (is_same_declaration (declared_view c.args.ours)) (gives c.args.structs.now (declared_view c.args.ours)) (declared_views c.args.theirs.now) c.in-Some.number (declared_view c.in-Some-declared_at.other) found (sym c.in-Some-declared_at.ensures)
    ∙ ap (λ (b : Bool). if b then c.in-Some-declared_at.other.local.now.object else None) (sym c.if-same_type.ensures))

pub returns-in-None-declared_at : goal.returns-in-None-declared_at
returns-in-None-declared_at c =
    let found : position_from (is_same_declaration (declared_view c.args.ours)) 0 (declared_views c.args.theirs.now) ≡ Some c.in-Some.number = sym (c.requires (declared_view c.args.ours)) ∙ ap (λ k. numbered_as k c.args.table.now) (sym c.key_of.ensures) ∙ sym c.in-Some.ensures in
    sym (beyond (is_same_declaration (declared_view c.args.ours)) (gives c.args.structs.now (declared_view c.args.ours)) (declared_views c.args.theirs.now) c.in-Some.number found (sym c.in-None-declared_at.ensures))
