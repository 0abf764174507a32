use Rattle.std.proofs.Common.{ℕ, List, [], ◌∷◌, length, Option, refl, subst}
use Rattle.std.specs.Prelude.{codes, MatchOption}
use Rattle.version_map.specs.Maps.{said_in}
use Rattle.joint_programs.specs.Faults.{IsJointFault}
use Rattle.joint_programs.specs.JointPrograms.{partners_in}
use Rattle.rvt_run.specs.Joined.{IsOffCycles, IsOnCycleOf}
use Rattle.rvt_run.specs.Lines.{line}
use Rattle.rvt_run.proofs.Joining.{none_of, pairs_by, partners_stand, as_many, too_large_at, on_cycle_at, reported_at}
use Rattle.rvt_run.proofs.Results.{shaped_at}
use Rattle.rvt_run.proofs.Shaped.{literal, line_shaped}
use Rattle.rvt_run.proofs.joined.compare_joint.Goals as goal

pub returns-in-Err-TooLarge-clause-compared : goal.returns-in-Err-TooLarge-clause-compared
returns-in-Err-TooLarge-clause-compared c =
    let said = said_in c.args.map.now in
    let old = c.args.old in
    let new = c.args.new in
    let functions = c.in_ok-functions.functions in
    let is = pairs_by functions c.as_slice-3.result.now said.functions c.as_slice.result.now old.functions c.as_slice-2.result.now new.functions c.in_ok-functions.ensures c.as_slice-3.ensures.value c.as_slice.ensures c.as_slice-2.ensures in
    let partners = partners_in c.in_ok-partners.partners in
    too_large_at c.one_line.result c.args.map_name.now old new said c.requires.known c.requires.alike functions is partners c.in_ok-partners.ensures c.one_line.ensures.status c.one_line.ensures.lines
    (subst (IsJointFault old new partners said) c.in-Err-TooLarge.field-0-is c.in-Err-TooLarge.ensures.fault)

pub returns-in-Err-TooLarge-clause-shaped : goal.returns-in-Err-TooLarge-clause-shaped
returns-in-Err-TooLarge-clause-shaped c =
    let text = codes "the table of objects is too large" in
    shaped_at c.one_line.result (line text [] ∷ []) c.one_line.ensures.lines (line_shaped text [] (literal text refl) refl)

pub name_on_cycle-requires : goal.name_on_cycle-requires
name_on_cycle-requires c =
    let said = said_in c.args.map.now in
    let old = c.args.old in
    let new = c.args.new in
    let functions = c.in_ok-functions.functions in
    let is = pairs_by functions c.as_slice-3.result.now said.functions c.as_slice.result.now old.functions c.as_slice-2.result.now new.functions c.in_ok-functions.ensures c.as_slice-3.ensures.value c.as_slice.ensures c.as_slice-2.ensures in
    let joint = c.in-Ok.found.joint in
    partners_stand c.pairs_turn.ensures c.pairs_stand.ensures said.functions old.functions new.functions functions (length joint.old.functions) is
    (as_many old new said (partners_in c.in_ok-partners.partners) joint c.in-Ok.ensures.programs)

pub returns-in-Some-clause-compared : goal.returns-in-Some-clause-compared
returns-in-Some-clause-compared c =
    let said = said_in c.args.map.now in
    let old = c.args.old in
    let new = c.args.new in
    let functions = c.in_ok-functions.functions in
    let is = pairs_by functions c.as_slice-3.result.now said.functions c.as_slice.result.now old.functions c.as_slice-2.result.now new.functions c.in_ok-functions.ensures c.as_slice-3.ensures.value c.as_slice.ensures c.as_slice-2.ensures in
    let partners = partners_in c.in_ok-partners.partners in
    let joint = c.in-Ok.found.joint in
    on_cycle_at c.on_cycle.result c.args.map_name.now old new said c.requires.known c.requires.alike functions is partners c.in_ok-partners.ensures joint c.in-Some.name c.in-Ok.ensures.programs
    (subst (λ (o : Option (List ℕ)). MatchOption o (IsOffCycles functions joint) (λ name. IsOnCycleOf functions joint name)) c.in-Some.is c.in_ok-name.ensures)
    c.on_cycle.ensures.status c.on_cycle.ensures.lines

pub returns-clause-compared : goal.returns-clause-compared
returns-clause-compared c =
    let said = said_in c.args.map.now in
    let old = c.args.old in
    let new = c.args.new in
    let functions = c.in_ok-functions.functions in
    let is = pairs_by functions c.as_slice-3.result.now said.functions c.as_slice.result.now old.functions c.as_slice-2.result.now new.functions c.in_ok-functions.ensures c.as_slice-3.ensures.value c.as_slice.ensures c.as_slice-2.ensures in
    let partners = partners_in c.in_ok-partners.partners in
    let joint = c.in-Ok.found.joint in
    reported_at c.reported.result c.args.map_name.now old new said c.requires.known c.requires.alike functions is partners c.in_ok-partners.ensures joint c.in-Ok.ensures.programs
    (subst (λ (o : Option (List ℕ)). MatchOption o (IsOffCycles functions joint) (λ name. IsOnCycleOf functions joint name)) (none_of c.in_ok-name.field-0 c.in_default.not-Some) c.in_ok-name.ensures)
    c.in-Ok.found.twins c.in-Ok.ensures.twins c.reported.ensures.reports
