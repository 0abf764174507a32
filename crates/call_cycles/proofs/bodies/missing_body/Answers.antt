use Rattle.std.proofs.Common.{◌≡◌, ◌∙◌, Some, None, option_map, sym, ap}
use Rattle.std.specs.List.{find}
use Rattle.std.proofs.lemmas.List.{drop_all}
use Rattle.typing_base.specs.NoteViews.{call_view}
use Rattle.call_cycles.proofs.EntriesAndNotes.{missing_call_is}
use Rattle.call_cycles.proofs.MissingCalls.{lacks_body, all_calls, none_in_this, found_in_this, calls_known}
use Rattle.call_cycles.proofs.bodies.missing_body.Goals as goal

-- at the end nothing is found
nothing : (c : goal.After-functions) → find (lacks_body c.args.functions.now) (all_calls c.args.functions.now) ≡ None
nothing c =
    sym c.functions.invariant ∙ ap (λ fs. find (lacks_body c.args.functions.now) (all_calls fs)) (drop_all c.functions.function-index c.args.functions.now c.functions-test.false)

pub returns-clause-known : goal.returns-clause-known
returns-clause-known c = calls_known c.args.functions.now (nothing c)

pub returns-clause-first : goal.returns-clause-first
returns-clause-first c entries same = ap (option_map call_view) (sym (nothing c)) ∙ missing_call_is c.args.functions.now entries same

pub returns-in-Some : goal.returns-in-Some
returns-in-Some c =
    let functions = c.args.functions.now in
    let found : find (lacks_body functions) c.function-item.result.calls.now ≡ Some c.in-Some.call.now = sym c.in-Some.ensures in
    let whole = found_in_this (lacks_body functions) functions c.functions.function-index c.function-item.result c.in-Some.call.now c.functions-test.true c.function-item.is found c.functions.invariant in
    record { first = λ entries same. ap (option_map call_view) (sym whole) ∙ missing_call_is functions entries same; known = tt }

pub functions-preserved : goal.functions-preserved
functions-preserved c =
    let functions = c.args.functions.now in
    let none : find (lacks_body functions) c.function-item.result.calls.now ≡ None = sym c.in-None.ensures in
    none_in_this (lacks_body functions) functions c.functions.function-index c.function-item.result c.functions-test.true c.function-item.is none c.functions.invariant
