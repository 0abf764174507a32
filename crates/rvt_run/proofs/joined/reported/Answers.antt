use Rattle.std.proofs.Common.{refl, sym, subst}
use Rattle.std.specs.Prelude.{All}
use Rattle.rvt_run.specs.Answer.{IsLine}
use Rattle.rvt_run.proofs.Shaped.{report_shaped, NamesPlain, names_none}
use Rattle.rvt_run.proofs.joined.reported.Goals as goal

pub returns-clause-shaped : goal.returns-clause-shaped
returns-clause-shaped c =
    let report = c.in_ok-lines.ensures in
    let joint = c.args.joint.now in
    subst (All IsLine) (sym report.text)
    (report_shaped c.args.functions.now joint.old joint.new_side joint.pairing c.match-twins-2.twins report.pairs report.are_pairs
    (names_none joint.old.functions (subst NamesPlain c.as_slice-old.ensures (c.if-not-are_plain.ensures.names refl)))
    (names_none joint.new_side.functions (subst NamesPlain c.as_slice-new.ensures (c.if-not-are_plain-2.ensures.names refl))))
