use Rattle.std.proofs.Common.{◌≡◌, true, false, sym, ap, ◌∙◌}
use Rattle.twin_laws.specs.Touches.{is_addressable}
use Rattle.twin_candidates.proofs.Marked.{marks_kept, marks_more}
use Rattle.twin_candidates.proofs.types.mark_object.Goals as goal

pub returns-in_default : goal.returns-in_default
returns-in_default c =
    marks_kept c.args.program.now c.args.partners.now c.args.marks.now c.args.number
    (λ open'. absurd (let no : true ≡ false = sym open' ∙ ap is_addressable (sym c.in_default.ensures.value) in cc))

pub returns-then-not-object : goal.returns-then-not-object
returns-then-not-object c =
    marks_kept c.args.program.now c.args.partners.now c.args.marks.now c.args.number
    (λ open'. absurd (let no : true ≡ false = sym open' ∙ ap is_addressable (sym c.in-Some.ensures.value) ∙ c.if-not-object.true in cc))

pub returns-then-is_own_partner : goal.returns-then-is_own_partner
returns-then-is_own_partner c =
    marks_kept c.args.program.now c.args.partners.now c.args.marks.now c.args.number (λ _. c.is_own_partner.ensures.0 c.if-is_own_partner.true)

pub returns : goal.returns
returns c =
    marks_more c.args.program.now c.args.partners.now c.args.marks.now c.mark_type.new.marks c.args.number c.in-Some.object.now (sym c.in-Some.ensures.value) c.if-not-object.false
    (λ paired. absurd (let no : true ≡ false = sym (c.is_own_partner.ensures.1 paired) ∙ c.if-is_own_partner.false in cc)) c.in_ok-mark_type.ensures
