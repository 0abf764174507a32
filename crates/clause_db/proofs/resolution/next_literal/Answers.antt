use Rattle.std.proofs.Common.{rules, arith, ◌+◌, pos, get_or, w64, sym, subst}
use Rattle.std.proofs.lemmas.Int.{to_z-of_z}
use mir.Val.{SFits}
use Rattle.clause_db.specs.Union.{TakesLeast}
use Rattle.clause_db.proofs.Merge.{take_first, take_second, take_both}
use Rattle.clause_db.proofs.Read.{variable_as_read}
use Rattle.clause_db.proofs.resolution.next_literal.Goals as goal

pub returns-then-i-a : goal.returns-then-i-a
returns-then-i-a c =
    let b = c.args.b.now in
    let fits : SFits w64 (get_or b c.args.j (pos 0)) = search rules in
    subst (λ l. TakesLeast c.args.a.now b c.args.i c.args.j l c.args.i (c.args.j + 1)) (sym (to_z-of_z w64 _ fits)) (take_second c.args.a.now b c.requires.first_ordered c.requires.second_ordered c.args.i c.args.j c.requires.first_within (omega arith) (λ h. absurd (omega arith)))

pub returns-then-j-b : goal.returns-then-j-b
returns-then-j-b c =
    let a = c.args.a.now in
    let fits : SFits w64 (get_or a c.args.i (pos 0)) = search rules in
    subst (λ l. TakesLeast a c.args.b.now c.args.i c.args.j l (c.args.i + 1) c.args.j) (sym (to_z-of_z w64 _ fits)) (take_first a c.args.b.now c.requires.first_ordered c.requires.second_ordered c.args.i c.args.j (omega arith) c.requires.second_within (λ h. absurd (omega arith)))

pub returns-then-x-y : goal.returns-then-x-y
returns-then-x-y c =
    let a = c.args.a.now in
    let b = c.args.b.now in
    let fits : SFits w64 (get_or a c.args.i (pos 0)) = search rules in
    let fits_b : SFits w64 (get_or b c.args.j (pos 0)) = search rules in
    let x = variable_as_read a c.args.i c.variable-x.result fits c.variable-x.ensures in
    let y = variable_as_read b c.args.j c.variable-y.result fits_b c.variable-y.ensures in
    subst (λ l. TakesLeast a b c.args.i c.args.j l (c.args.i + 1) c.args.j) (sym (to_z-of_z w64 _ fits)) (take_first a b c.requires.first_ordered c.requires.second_ordered c.args.i c.args.j (omega arith) c.requires.second_within (λ h. omega (arith, x, y)))

pub returns-then-y-x : goal.returns-then-y-x
returns-then-y-x c =
    let a = c.args.a.now in
    let b = c.args.b.now in
    let fits : SFits w64 (get_or a c.args.i (pos 0)) = search rules in
    let fits_b : SFits w64 (get_or b c.args.j (pos 0)) = search rules in
    let x = variable_as_read a c.args.i c.variable-x.result fits c.variable-x.ensures in
    let y = variable_as_read b c.args.j c.variable-y.result fits_b c.variable-y.ensures in
    subst (λ l. TakesLeast a b c.args.i c.args.j l c.args.i (c.args.j + 1)) (sym (to_z-of_z w64 _ fits_b)) (take_second a b c.requires.first_ordered c.requires.second_ordered c.args.i c.args.j c.requires.first_within (omega arith) (λ h. omega (arith, x, y)))

pub returns-else-y-x : goal.returns-else-y-x
returns-else-y-x c =
    let a = c.args.a.now in
    let b = c.args.b.now in
    let fits : SFits w64 (get_or a c.args.i (pos 0)) = search rules in
    let fits_b : SFits w64 (get_or b c.args.j (pos 0)) = search rules in
    let x = variable_as_read a c.args.i c.variable-x.result fits c.variable-x.ensures in
    let y = variable_as_read b c.args.j c.variable-y.result fits_b c.variable-y.ensures in
    subst (λ l. TakesLeast a b c.args.i c.args.j l (c.args.i + 1) (c.args.j + 1)) (sym (to_z-of_z w64 _ fits)) (take_both a b c.requires.first_ordered c.requires.second_ordered c.args.i c.args.j (omega arith) (omega arith) (omega (arith, x, y)))
