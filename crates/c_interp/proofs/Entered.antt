-- A function that is entered, and what its call means.
use Rattle.std.proofs.Common.{◌≡◌, ℕ, suc, Bool, List, [], ◌∷◌, ◌++◌, Option, Some, None, slice_get, sym, ap, ◌∙◌}
use Rattle.rvt_num.specs.Number.{Number}
use Rattle.rvt_num.specs.declared.values.Value.{Value}
use Rattle.rvt_num.specs.declared.values.Value.TheVariants.{Null}
use Rattle.rvt_tree.specs.declared.programs.Program.{Program}
use Rattle.rvt_tree.specs.declared.programs.Function.{Function}
use Rattle.c_meaning.specs.Outcomes.{State, Outcome, Doing, go_on}
use Rattle.c_meaning.specs.Expressions.{result_value}
use Rattle.c_meaning.specs.Runs.{stepping, entered, body_of}
use Rattle.c_meaning.specs.Laws.{CallUnfolds}
use Rattle.c_places.specs.Kept.{Contents, Kept, KeptIsClosed, kept_of}
use Rattle.c_tasks.specs.Operands.{operands, with_value, top_value, with_manner, above, lowered}
use Rattle.c_tasks.specs.Tasks.{ending, last_value, after, to_come, Becomes}
use Rattle.c_tasks.specs.declared.work.Work.{Work}
use Rattle.c_steps.specs.Steps.{with_left}
use Rattle.c_interp.specs.declared.engine.Engine.{Engine}
use Rattle.c_interp.specs.declared.events.Event.TheVariants as E
use Rattle.c_interp.specs.declared.frames.Wait.TheVariants as W
use Rattle.c_interp.specs.Frames.{gives_result, come_back, resumed, whole, going, happening}
use Rattle.c_interp.proofs.Stacked.{whole_push}
use Rattle.c_interp.proofs.Entries.{called_is, missing_is, comes_back}

-- work that is what another is, in the same place
pub moved_work : (program : Program) (depth d left : ℕ) (work other : Work) (cells wanted : Contents) → depth ≡ d → work.tasks.items ≡ other.tasks.items → operands work ≡ operands other → cells ≡ wanted →
    to_come program depth work (with_left cells left) ≡ to_come program d other (with_left wanted left)
moved_work program depth d left work other cells wanted same_depth same_tasks same_operands same_cells =
    ap (λ n. after program n work.tasks.items (operands work) (with_left cells left)) same_depth
    ∙ ap (λ tasks. after program d tasks (operands work) (with_left cells left)) same_tasks
    ∙ ap (λ on. after program d other.tasks.items on (with_left cells left)) same_operands
    ∙ ap (λ c. after program d other.tasks.items (operands other) (with_left c left)) same_cells

-- a body that is to come, and nothing after it
body_comes : (program : Program) (d : ℕ) (function : Function) (fresh body : Work) (s : State ℕ) → fresh.tasks.items ≡ [] → Becomes (λ program d. ending program d (body_of program (stepping program d) function.body)) fresh body →
    to_come program d body s ≡ go_on (λ manner. last_value program d (with_manner manner (operands fresh))) (body_of program (stepping program d) function.body s)
body_comes program d function fresh body s none h =
    h program d s ∙ ap (λ tasks. ending program d (body_of program (stepping program d) function.body) (after program d tasks) (operands fresh) s) none

-- the frame of a call, by what it keeps
frame_is : (program : Program) (number height : ℕ) (returns wanted : Bool) (saved kept : Kept) (depth : ℕ) (work waiting : Work) (o : Outcome ℕ Value) →
    waiting.tasks.items ≡ work.tasks.items → operands waiting ≡ lowered height (operands work) → returns ≡ wanted → saved ≡ kept →
    resumed program (record { work = waiting; depth = depth; wait = W.Call number returns saved }) o ≡
    go_on (λ r. after program depth work.tasks.items (with_value (result_value r) (lowered height (operands work)))) (come_back program number wanted kept o)
frame_is program number height returns wanted saved kept depth work waiting o same_tasks same_operands same_returns same_saved =
    ap (λ tasks. go_on (λ r. after program depth tasks (with_value (result_value r) (operands waiting))) (come_back program number returns saved o)) same_tasks
    ∙ ap (λ on. go_on (λ r. after program depth work.tasks.items (with_value (result_value r) on)) (come_back program number returns saved o)) same_operands
    ∙ ap (λ b. go_on (λ r. after program depth work.tasks.items (with_value (result_value r) (lowered height (operands work)))) (come_back program number b saved o)) same_returns
    ∙ ap (λ k. go_on (λ r. after program depth work.tasks.items (with_value (result_value r) (lowered height (operands work)))) (come_back program number wanted k o)) same_saved

pub enters : (program : Program) (engine new : Engine) (number height left d : ℕ) (function : Function) (returns : Bool) (saved : Kept) (waiting fresh body : Work) → CallUnfolds program → KeptIsClosed program →
    engine.depth ≡ suc d → slice_get program.functions number ≡ Some function →
    new.frames.items ≡ engine.frames.items ++ record { work = waiting; depth = engine.depth; wait = W.Call number returns saved } ∷ [] →
    new.depth ≡ d → new.work.tasks.items ≡ body.tasks.items → operands new.work ≡ operands body →
    new.cells ≡ entered program number function (above height (operands engine.work)) engine.cells →
    waiting.tasks.items ≡ engine.work.tasks.items → operands waiting ≡ lowered height (operands engine.work) → returns ≡ gives_result function.result → saved ≡ kept_of program number engine.cells →
    fresh.tasks.items ≡ [] → Becomes (λ program d. ending program d (body_of program (stepping program d) function.body)) fresh body →
    going program new left ≡ happening program (E.Calls number height) engine (suc left)
enters program engine new number height left d function returns saved waiting fresh body unfolds law deep found frames depth tasks on cells waiting_tasks waiting_operands returns_is saved_is none comes =
    let next : Option Number → Doing ℕ Value = λ r. after program engine.depth engine.work.tasks.items (with_value (result_value r) (lowered height (operands engine.work))) in
    let arguments : List Value = above height (operands engine.work) in
    let s : State ℕ = with_left (entered program number function arguments engine.cells) left in
    whole_push program engine.frames.items new.frames.items (record { work = waiting; depth = engine.depth; wait = W.Call number returns saved }) (to_come program new.depth new.work (with_left new.cells left)) frames
    ∙ ap (whole program engine.frames.items)
    (ap (resumed program (record { work = waiting; depth = engine.depth; wait = W.Call number returns saved }))
    (moved_work program new.depth d left new.work body new.cells (entered program number function arguments engine.cells) depth tasks on cells ∙ body_comes program d function fresh body s none comes)
    ∙ frame_is program number height returns (gives_result function.result) saved (kept_of program number engine.cells) engine.depth engine.work waiting
    (go_on (λ manner. last_value program d (with_manner manner (operands fresh))) (body_of program (stepping program d) function.body s)) waiting_tasks waiting_operands returns_is saved_is
    ∙ comes_back program number left function.result engine.cells (λ manner. top_value (with_manner manner (operands fresh))) next (body_of program (stepping program d) function.body s) law
    ∙ ap (go_on next) (sym (called_is program engine.depth d number left function arguments engine.cells unfolds deep found)))

-- a function that is not there gives no number
pub misses : (program : Program) (engine new : Engine) (number height left d : ℕ) → CallUnfolds program → engine.depth ≡ suc d → slice_get program.functions number ≡ None →
    new.frames.items ≡ engine.frames.items → new.depth ≡ engine.depth → new.cells ≡ engine.cells → new.work.tasks.items ≡ engine.work.tasks.items → operands new.work ≡ with_value Null (lowered height (operands engine.work)) →
    going program new left ≡ happening program (E.Calls number height) engine (suc left)
misses program engine new number height left d unfolds deep missing frames depth cells tasks on =
    ap (λ fs. whole program fs (to_come program new.depth new.work (with_left new.cells left))) frames
    ∙ ap (λ n. whole program engine.frames.items (to_come program n new.work (with_left new.cells left))) depth
    ∙ ap (λ c. whole program engine.frames.items (to_come program engine.depth new.work (with_left c left))) cells
    ∙ ap (λ ts. whole program engine.frames.items (after program engine.depth ts (operands new.work) (with_left engine.cells left))) tasks
    ∙ ap (λ o. whole program engine.frames.items (after program engine.depth engine.work.tasks.items o (with_left engine.cells left))) on
    ∙ ap (λ o. whole program engine.frames.items (go_on (λ r. after program engine.depth engine.work.tasks.items (with_value (result_value r) (lowered height (operands engine.work)))) o))
    (sym (missing_is program engine.depth d number left (above height (operands engine.work)) engine.cells unfolds deep missing))
