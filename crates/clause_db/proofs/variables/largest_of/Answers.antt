use Rattle.std.proofs.Common.{rules, arith, ◌≡◌, ◌≤◌, ◌<◌, ◌-◌, pos, length, get_or, w64, ap, sym, ◌∙◌, subst}
use Rattle.std.specs.Prelude.{All}
use Rattle.std.proofs.lemmas.Int.{to_z-of_z}
use Rattle.std.proofs.lemmas.List.{get_or_default}
use mir.Val.{SFits}
use Rattle.clause_db.specs.Literal.{variable_of}
use Rattle.clause_db.proofs.Ordered.{variable_at}
use Rattle.clause_db.proofs.Reading.{last_is_largest}
use Rattle.clause_db.proofs.variables.largest_of.Goals as goal

pub returns-clause-within : goal.returns-clause-within
returns-clause-within c =
    let literals = c.args.literals.now in
    let fits : SFits w64 (get_or literals (length literals - 1) (pos 0)) = search rules in
    let last : c.variable.result ≡ variable_at literals (length literals - 1) = c.variable.ensures ∙ ap variable_of (to_z-of_z w64 _ fits) in
    subst (λ n. All (λ l. variable_of l ≤ n) literals) (sym last) (last_is_largest literals c.requires (omega arith))

pub returns-clause-stands : goal.returns-clause-stands
returns-clause-stands c some =
    let literals = c.args.literals.now in
    let fits : SFits w64 (get_or literals (length literals - 1) (pos 0)) = search rules in
    let last : c.variable.result ≡ variable_at literals (length literals - 1) = c.variable.ensures ∙ ap variable_of (to_z-of_z w64 _ fits) in
    let within : length literals - 1 < length literals = omega arith in
    (length literals - 1, get_or literals (length literals - 1) (pos 0), within, get_or_default literals _ _ _ within, sym last)
