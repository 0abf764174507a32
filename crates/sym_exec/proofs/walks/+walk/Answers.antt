use Rattle.std.proofs.Common.{rules}
use Rattle.sym_paths.proofs.Going.{begin}
use Rattle.sym_paths.specs.Going.{world}
use Rattle.sym_paths.specs.Runs.{run_of, state_of}
use Rattle.sym_exec.proofs.Sizes.{falls_to_parts, falls_to_part, falls_to_first, falls_to_second}
use Rattle.sym_exec.proofs.Walking.{goes_under_way, seq_fits, set_fits, load_fits, store_fits, call_fits, test_fits, first_fits, second_fits, part_fits, seq_walked, set_walked, load_walked, store_walked, call_walked, if_walked, stop_walked, fail_walked, part_goes, parts_gone, first_under_way, second_under_way, chosen_goes, may_join}
use Rattle.sym_exec.proofs.walks.+walk.Goals as goal

-- ---- each form of code

pub walk-walk_all-requires : goal.walk-walk_all-requires
walk-walk_all-requires g t c κs within =
    (falls_to_parts c.args.code.now _ _ t c.in-Seq.is c.as_slice.ensures c.decreases, (search rules, (c.requires.ready, (seq_fits (g.S.Steps.subject c.args.steps.now) _ _ _ c.in-Seq.is c.as_slice.ensures c.requires.fits, c.requires.under_way))))

pub walk-set-requires-clause-fits : goal.walk-set-requires-clause-fits
walk-set-requires-clause-fits g t c = set_fits (g.S.Steps.subject c.args.steps.now) _ _ _ c.in-Set.is c.requires.fits

pub walk-set-requires-clause-circuit : goal.walk-set-requires-clause-circuit
walk-set-requires-clause-circuit g t c = c.requires.under_way.world.circuit

pub walk-set-requires-clause-kept : goal.walk-set-requires-clause-kept
walk-set-requires-clause-kept g t c = c.requires.under_way.state

pub walk-load-requires-clause-fits : goal.walk-load-requires-clause-fits
walk-load-requires-clause-fits g t c = load_fits (g.S.Steps.subject c.args.steps.now) _ _ _ c.in-Load.is c.requires.fits

pub walk-load-requires-clause-circuit : goal.walk-load-requires-clause-circuit
walk-load-requires-clause-circuit g t c = c.requires.under_way.world.circuit

pub walk-load-requires-clause-kept : goal.walk-load-requires-clause-kept
walk-load-requires-clause-kept g t c = c.requires.under_way.state

pub walk-store-requires-clause-fits : goal.walk-store-requires-clause-fits
walk-store-requires-clause-fits g t c = store_fits (g.S.Steps.subject c.args.steps.now) _ _ _ c.in-Store.is c.requires.fits

pub walk-store-requires-clause-circuit : goal.walk-store-requires-clause-circuit
walk-store-requires-clause-circuit g t c = c.requires.under_way.world.circuit

pub walk-store-requires-clause-kept : goal.walk-store-requires-clause-kept
walk-store-requires-clause-kept g t c = c.requires.under_way.state

pub walk-call-requires-clause-fits : goal.walk-call-requires-clause-fits
walk-call-requires-clause-fits g t c =
    call_fits (g.S.Steps.subject c.args.steps.now) _ _ _ _ _ _ c.in-Call.is c.as_slice-in-Call.ensures c.as_slice-in-Call-2.ensures c.requires.fits

pub walk-returns-in_ok-walk_all-in-Seq : goal.walk-returns-in_ok-walk_all-in-Seq
walk-returns-in_ok-walk_all-in-Seq g t c =
    seq_walked (g.S.Steps.subject c.args.steps.now) _ _ _ (run_of c.args.run.now) (run_of c.walk_all.new.run) _ _ c.in-Seq.is c.as_slice.ensures c.in_ok-walk_all-in-Seq.ensures

pub walk-returns-in_ok-set-in-Set : goal.walk-returns-in_ok-set-in-Set
walk-returns-in_ok-set-in-Set g t c =
    set_walked (g.S.Steps.subject c.args.steps.now) _ _ _ (run_of c.args.run.now) (run_of c.set.new.run) _ _ c.in-Set.is
    (c.in_ok-set-in-Set.ensures c.args.applications.now c.requires.under_way.world)

pub walk-returns-in_ok-load-in-Load : goal.walk-returns-in_ok-load-in-Load
walk-returns-in_ok-load-in-Load g t c =
    load_walked (g.S.Steps.subject c.args.steps.now) _ _ _ (run_of c.args.run.now) (run_of c.load.new.run) _ _ c.in-Load.is
    (c.in_ok-load-in-Load.ensures c.args.applications.now c.requires.under_way.world)

pub walk-returns-in_ok-store-in-Store : goal.walk-returns-in_ok-store-in-Store
walk-returns-in_ok-store-in-Store g t c =
    store_walked (g.S.Steps.subject c.args.steps.now) _ _ _ (run_of c.args.run.now) (run_of c.store.new.run) _ _ c.in-Store.is
    (c.in_ok-store-in-Store.ensures c.args.applications.now c.requires.under_way.world)

pub walk-returns-in_ok-call-in-Call : goal.walk-returns-in_ok-call-in-Call
walk-returns-in_ok-call-in-Call g t c =
    call_walked (g.S.Steps.subject c.args.steps.now) _ _ _ (run_of c.args.run.now) (run_of c.call.new.run) _ _ _ _ _ c.in-Call.is c.as_slice-in-Call.ensures c.as_slice-in-Call-2.ensures
    c.in_ok-call-in-Call.ensures

pub walk-returns-in_ok-stop-in-Stop : goal.walk-returns-in_ok-stop-in-Stop
walk-returns-in_ok-stop-in-Stop g t c =
    stop_walked (g.S.Steps.subject c.args.steps.now) _ _ (run_of c.args.run.now) (run_of c.stop.new.run) _ _ c.in-Stop.is c.as_slice-in-Stop.ensures c.requires.under_way c.requires.fits
    c.in_ok-stop-in-Stop.ensures

pub walk-returns-in_ok-end-in-Fail : goal.walk-returns-in_ok-end-in-Fail
walk-returns-in_ok-end-in-Fail g t c =
    fail_walked (g.S.Steps.subject c.args.steps.now) _ _ (run_of c.args.run.now) (run_of c.end.new.run) _ c.in-Fail.is c.requires.under_way c.in_ok-end-in-Fail.ensures

-- ---- parts

pub walk_all-parts-init : goal.walk_all-parts-init
walk_all-parts-init g t c =
    begin (g.S.Steps.subject c.args.steps.now) (world c.args.circuit.now c.args.applications.now) (run_of c.args.run.now) c.requires.under_way.world c.requires.under_way.state

pub walk_all-walk-requires : goal.walk_all-walk-requires
walk_all-walk-requires g t c κs within =
    (falls_to_part c.args.parts.now _ _ t c.parts-test.true c.part-item.is c.decreases, (search rules, (c.requires.ready, (part_fits (g.S.Steps.subject c.args.steps.now) _ _ _ c.requires.fits c.parts-test.true c.part-item.is, goes_under_way _ _ _ _ _ _ c.parts.invariant))))

pub walk_all-parts-preserved : goal.walk_all-parts-preserved
walk_all-parts-preserved g t c =
    part_goes (g.S.Steps.subject c.args.steps.now) _ _ _ _ _ _ _ (run_of c.parts.run) (run_of c.walk.new.run) c.parts-test.true c.part-item.is c.parts.invariant c.in_ok-walk.ensures

pub walk_all-returns : goal.walk_all-returns
walk_all-returns g t c = parts_gone (g.S.Steps.subject c.args.steps.now) c.args.parts.now _ _ _ _ _ c.parts-test.false c.parts.invariant

-- ---- two branches

pub walk-part-requires-clause-fits : goal.walk-part-requires-clause-fits
walk-part-requires-clause-fits g t c = test_fits (g.S.Steps.subject c.args.steps.now) _ _ _ _ c.in-If.is c.requires.fits

pub walk-part-requires-clause-circuit : goal.walk-part-requires-clause-circuit
walk-part-requires-clause-circuit g t c = c.requires.under_way.world.circuit

pub walk-part-requires-clause-kept : goal.walk-part-requires-clause-kept
walk-part-requires-clause-kept g t c = c.requires.under_way.state

pub walk-walk-requires : goal.walk-walk-requires
walk-walk-requires g t c κs within = (
  falls_to_first c.args.code.now _ _ _ _ t c.in-If.is c.get.ensures c.decreases,
  (
    search rules,
    (
      c.requires.ready,
      (
        first_fits (g.S.Steps.subject c.args.steps.now) _ _ _ _ _ c.in-If.is c.get.ensures c.requires.fits,
        first_under_way (g.S.Steps.subject c.args.steps.now) c.in-If.register (world c.args.circuit.now c.args.applications.now) (run_of c.args.run.now) c.part.new.circuit (run_of c.part.new.run) _ c.requires.under_way c.in_ok-other-in-If.ensures,
      ),
    ),
  ),
)

pub walk-walk-requires-in-If : goal.walk-walk-requires-in-If
walk-walk-requires-in-If g t c κs within = (
  falls_to_second c.args.code.now _ _ _ _ t c.in-If.is c.get-in-If.ensures c.decreases,
  (
    search rules,
    (
      c.requires.ready,
      (
        second_fits (g.S.Steps.subject c.args.steps.now) _ _ _ _ _ c.in-If.is c.get-in-If.ensures c.requires.fits,
        second_under_way (g.S.Steps.subject c.args.steps.now) c.in-If.register (world c.args.circuit.now c.args.applications.now) (run_of c.args.run.now) c.part.new.circuit (run_of c.part.new.run) _ c.requires.under_way c.in_ok-other-in-If.ensures
            _ _ (run_of c.walk.new.run) (run_of c.exchange-first.new.run) c.in_ok-walk-in-If.ensures c.exchange-first.ensures.run,
      ),
    ),
  ),
)

pub walk-join-requires-clause-first_live_there : goal.walk-join-requires-clause-first_live_there
walk-join-requires-clause-first_live_there g t c =
    (may_join (g.S.Steps.subject c.args.steps.now) _ _ _ _ _ _ (run_of c.walk.new.run) _ (run_of c.walk-in-If.new.run) (state_of c.exchange-first.result) c.in_ok-walk-in-If.ensures c.in_ok-walk-in-If-2.ensures c.exchange-first.ensures.state).one.live

pub walk-join-requires-clause-live_there : goal.walk-join-requires-clause-live_there
walk-join-requires-clause-live_there g t c =
    (may_join (g.S.Steps.subject c.args.steps.now) _ _ _ _ _ _ (run_of c.walk.new.run) _ (run_of c.walk-in-If.new.run) (state_of c.exchange-first.result) c.in_ok-walk-in-If.ensures c.in_ok-walk-in-If-2.ensures c.exchange-first.ensures.state).other.live

pub walk-join-requires-clause-first_there : goal.walk-join-requires-clause-first_there
walk-join-requires-clause-first_there g t c =
    (may_join (g.S.Steps.subject c.args.steps.now) _ _ _ _ _ _ (run_of c.walk.new.run) _ (run_of c.walk-in-If.new.run) (state_of c.exchange-first.result) c.in_ok-walk-in-If.ensures c.in_ok-walk-in-If-2.ensures c.exchange-first.ensures.state).one.store.there

pub walk-join-requires-clause-second_there : goal.walk-join-requires-clause-second_there
walk-join-requires-clause-second_there g t c =
    (may_join (g.S.Steps.subject c.args.steps.now) _ _ _ _ _ _ (run_of c.walk.new.run) _ (run_of c.walk-in-If.new.run) (state_of c.exchange-first.result) c.in_ok-walk-in-If.ensures c.in_ok-walk-in-If-2.ensures c.exchange-first.ensures.state).other.store.there

pub walk-join-requires-clause-alike : goal.walk-join-requires-clause-alike
walk-join-requires-clause-alike g t c =
    (may_join (g.S.Steps.subject c.args.steps.now) _ _ _ _ _ _ (run_of c.walk.new.run) _ (run_of c.walk-in-If.new.run) (state_of c.exchange-first.result) c.in_ok-walk-in-If.ensures c.in_ok-walk-in-If-2.ensures c.exchange-first.ensures.state).alike

pub walk-returns-in_ok-join-in-If : goal.walk-returns-in_ok-join-in-If
walk-returns-in_ok-join-in-If g t c =
    if_walked (g.S.Steps.subject c.args.steps.now) _ _ _ (run_of c.args.run.now) (run_of c.join.new.run) c.in-If.register _ _ c.get.result.now c.get-in-If.result.now c.in-If.is c.get.ensures c.get-in-If.ensures
    (chosen_goes (g.S.Steps.subject c.args.steps.now) c.in-If.register (world c.args.circuit.now c.args.applications.now) (run_of c.args.run.now) c.part.new.circuit (run_of c.part.new.run) _ c.requires.under_way c.in_ok-other-in-If.ensures
    c.get.result.now c.get-in-If.result.now (run_of c.walk.new.run) (run_of c.exchange-first.new.run) (run_of c.walk-in-If.new.run) (run_of c.join.new.run) _ _ (state_of c.exchange-first.result) _
    c.in_ok-walk-in-If.ensures c.exchange-first.ensures.run c.exchange-first.ensures.state c.in_ok-walk-in-If-2.ensures c.in_ok-join-in-If.ensures.built c.in_ok-join-in-If.ensures.run)
