use Rattle.std.proofs.Common.{rules, ◌∙◌, pos, w64, get_or, sym, ap}
use Rattle.std.proofs.lemmas.Int.{to_z-of_z}
use mir.Val.{SFits}
use Rattle.clause_db.specs.Literal.{variable_of}
use Rattle.clause_db.proofs.Ordered.{same_place}
use Rattle.unit_propagation.proofs.settling.partner.Goals as goal

pub returns-then-is_of_last_level-clause-apart : goal.returns-then-is_of_last_level-clause-apart
returns-then-is_of_last_level-clause-apart c e =
    let fits : SFits w64 (get_or c.args.clause.now c.in-Some.place (pos 0)) = search rules in
    c.in-Some.ensures.apart (sym (same_place c.args.clause.now c.args.beside c.in-Some.place c.requires.ordered c.requires.within c.in-Some.ensures.within (ap variable_of (e ∙ to_z-of_z w64 _ fits))))
