use Rattle.std.proofs.Common.{rules, w64, ◌∙◌}
use Rattle.std.proofs.lemmas.Int.{to_z-of_z}
use mir.Val.{SFits}
use Rattle.cnf_make.proofs.Written.{written_less, written_more}
use Rattle.cnf_make.proofs.writing.write_gate.Goals as goal

pub returns-in_ok-write-3 : goal.returns-in_ok-write-3
returns-in_ok-write-3 c =
    let a : SFits w64 c.literal.result = search rules in
    let b : SFits w64 c.literal-2.result = search rules in
    let g : SFits w64 c.literal-not_g.result = search rules in
    let na : SFits w64 c.literal-not_a.result = search rules in
    let nb : SFits w64 c.literal-not_b.result = search rules in
    let pg : SFits w64 c.literal-then-a-b.result = search rules in
    written_less _ _ _ _ c.args.a c.args.b c.args.g _ _ _ _ _ _
    (to_z-of_z w64 _ a ∙ c.literal.ensures) (to_z-of_z w64 _ b ∙ c.literal-2.ensures) (to_z-of_z w64 _ g ∙ c.literal-not_g.ensures) (to_z-of_z w64 _ na ∙ c.literal-not_a.ensures) (to_z-of_z w64 _ nb ∙ c.literal-not_b.ensures) (to_z-of_z w64 _ pg ∙ c.literal-then-a-b.ensures)
    c.in_ok-write.ensures c.in_ok-write-2.ensures c.if-a-b.true c.in_ok-write-3.ensures

pub returns-in_ok-write-4 : goal.returns-in_ok-write-4
returns-in_ok-write-4 c =
    let a : SFits w64 c.literal.result = search rules in
    let b : SFits w64 c.literal-2.result = search rules in
    let g : SFits w64 c.literal-not_g.result = search rules in
    let na : SFits w64 c.literal-not_a.result = search rules in
    let nb : SFits w64 c.literal-not_b.result = search rules in
    let pg : SFits w64 c.literal-else-a-b.result = search rules in
    written_more _ _ _ _ c.args.a c.args.b c.args.g _ _ _ _ _ _
    (to_z-of_z w64 _ a ∙ c.literal.ensures) (to_z-of_z w64 _ b ∙ c.literal-2.ensures) (to_z-of_z w64 _ g ∙ c.literal-not_g.ensures) (to_z-of_z w64 _ na ∙ c.literal-not_a.ensures) (to_z-of_z w64 _ nb ∙ c.literal-not_b.ensures) (to_z-of_z w64 _ pg ∙ c.literal-else-a-b.ensures)
    c.in_ok-write.ensures c.in_ok-write-2.ensures c.if-a-b.false c.in_ok-write-4.ensures
