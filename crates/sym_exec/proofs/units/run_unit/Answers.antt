use Rattle.std.proofs.Common.{◌≡◌, List, Vec, Global, false, ap, ◌∙◌, subst, arith}
use Rattle.std.specs.Prelude.{map}
use Rattle.core_ir.specs.Nodes.{goes_on}
use Rattle.core_ir.specs.declared.units.Shape.{Shape}
use Rattle.core_ir.specs.declared.units.Unit.{Unit}
use Rattle.sym_constants.specs.Constants.{zero_value}
use Rattle.sym_paths.specs.Going.{world}
use Rattle.sym_paths.specs.Runs.{call_of, run_of}
use Rattle.sym_paths.specs.declared.runs.SymCall.{SymCall}
use Rattle.sym_exec.specs.Ends.{end_of}
use Rattle.sym_exec.proofs.UnitRuns.{begins, ran, exits_laid, cells_long, unit_is_run, finished}
use Rattle.sym_exec.proofs.units.run_unit.Goals as goal

pub walk-requires-clause-under_way : goal.walk-requires-clause-under_way
walk-requires-clause-under_way g c = begins (g.S.Steps.subject c.args.steps.now) _ c.args.start (run_of c.begin-run.result) c.begin-run.ensures c.requires.world c.requires.start

pub ending-requires : goal.ending-requires
ending-requires g c =
    record {
      kept = rw c.deref.ensures.value (exits_laid (g.S.Steps.subject c.args.steps.now) (world c.args.circuit.now c.args.applications.now) (world c.walk.new.circuit c.walk.new.applications) c.args.start (run_of c.walk.new.run)
          (ran (g.S.Steps.subject c.args.steps.now) _ _ c.args.start (run_of c.begin-run.result) (run_of c.walk.new.run) c.args.unit.now c.requires.unit c.begin-run.ensures c.in_ok-walk.ensures)
          (record { results = c.in_ok-results.results; cells = c.in_ok-cells.cells }) c.requires.world c.requires.start (c.in_ok-results.ensures ∙ ap (λ (l : List Shape). map zero_value l) (c.as_slice.ensures ∙ ap (λ (u : Unit). u.results) c.requires.unit)) (c.in_ok-cells.ensures ∙ c.cells.ensures));
    }

pub put_back-requires-clause-before_long : goal.put_back-requires-clause-before_long
put_back-requires-clause-before_long g c = let e = c.requires.all_owned in omega (arith, e)

pub put_back-requires-clause-cells_long : goal.put_back-requires-clause-cells_long
put_back-requires-clause-cells_long g c =
    let e = c.requires.all_owned in
    let l = cells_long (g.S.Steps.subject c.args.steps.now) (world c.args.circuit.now c.args.applications.now) (world c.walk.new.circuit c.walk.new.applications) c.args.start (run_of c.walk.new.run)
    (ran (g.S.Steps.subject c.args.steps.now) _ _ c.args.start (run_of c.begin-run.result) (run_of c.walk.new.run) c.args.unit.now c.requires.unit c.begin-run.ensures c.in_ok-walk.ensures)
    c.args.before.now c.in_ok-results.results.items c.in_ok-cells.cells.items (record { nodes = c.ending.new.circuit; end = end_of c.in_ok-end.end }) c.requires.world c.requires.start (c.in_ok-results.ensures ∙ ap (λ (l : List Shape). map zero_value l) (c.as_slice.ensures ∙ ap (λ (u : Unit). u.results) c.requires.unit)) (c.in_ok-cells.ensures ∙ c.cells.ensures) (rw (← c.deref.ensures.value) c.in_ok-end.ensures.built) c.requires.before_laid in
    omega (arith, e, l)

pub returns : goal.returns
returns g c =
    finished (g.S.Steps.subject c.args.steps.now) (world c.args.circuit.now c.args.applications.now) c.args.start c.args.before.now c.ending.new.circuit c.walk.new.applications c.args.owned.now
    c.in_ok-end.end.traps.items c.in_ok-end.end.values.results.items c.in_ok-end.end.values.cells.items _ _ _ c.in_ok-put_back.ensures (ap (λ (cs : Vec SymCall Global). map call_of cs.items) c.in_ok-end.ensures.calls)
    (unit_is_run (g.S.Steps.subject c.args.steps.now) (world c.args.circuit.now c.args.applications.now) (world c.walk.new.circuit c.walk.new.applications) c.args.start (run_of c.walk.new.run)
    (ran (g.S.Steps.subject c.args.steps.now) _ _ c.args.start (run_of c.begin-run.result) (run_of c.walk.new.run) c.args.unit.now c.requires.unit c.begin-run.ensures c.in_ok-walk.ensures)
    c.args.before.now c.in_ok-results.results.items c.in_ok-cells.cells.items (record { nodes = c.ending.new.circuit; end = end_of c.in_ok-end.end }) c.requires.world c.requires.start (c.in_ok-results.ensures ∙ ap (λ (l : List Shape). map zero_value l) (c.as_slice.ensures ∙ ap (λ (u : Unit). u.results) c.requires.unit)) (c.in_ok-cells.ensures ∙ c.cells.ensures) (rw (← c.deref.ensures.value) c.in_ok-end.ensures.built)
    c.args.owned.now c.requires.owned (subst (λ (u : Unit). goes_on u.body ≡ false) c.requires.unit c.requires.stops) c.requires.before_laid c.requires.before_there)
