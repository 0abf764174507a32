-- Calls: what the frame of a call makes of the outcome of a body.
use Rattle.std.proofs.Common.{◌≡◌, ℕ, suc, List, Option, Some, None, slice_get, refl, ap, ◌∙◌}
use Rattle.rvt_num.specs.Number.{Number}
use Rattle.rvt_num.specs.declared.values.Value.{Value}
use Rattle.rvt_tree.specs.declared.types.CType.{CType}
use Rattle.rvt_tree.specs.declared.programs.Program.{Program}
use Rattle.rvt_tree.specs.declared.programs.Function.{Function}
use Rattle.c_meaning.specs.Outcomes.{state, Outcome, Done, Returning, Trapped, Cut, Deep, Doing, Manner, go_on}
use Rattle.c_meaning.specs.Runs.{stepping, entered, finished, body_of, call_in}
use Rattle.c_meaning.specs.Laws.{CallUnfolds}
use Rattle.c_places.specs.Kept.{Contents, KeptIsClosed, kept_of}
use Rattle.c_steps.specs.Steps.{with_left}
use Rattle.c_interp.specs.Frames.{come_back, gives_result}

pub called_is : (program : Program) (depth d number left : ℕ) (function : Function) (arguments : List Value) (cells : Contents) → CallUnfolds program → depth ≡ suc d → slice_get program.functions number ≡ Some function →
    (stepping program depth).call number arguments (with_left cells (suc left)) ≡
    finished program number function.result (with_left cells left) (body_of program (stepping program d) function.body (entered program number function arguments (with_left cells left)))
called_is program depth d number left function arguments cells unfolds deep found =
    ap (λ n. (stepping program n).call number arguments (with_left cells (suc left))) deep
    ∙ unfolds left d number arguments cells.locals cells.store
    ∙ ap (λ f. call_in program (stepping program d) number f arguments (with_left cells left)) found

pub missing_is : (program : Program) (depth d number left : ℕ) (arguments : List Value) (cells : Contents) → CallUnfolds program → depth ≡ suc d → slice_get program.functions number ≡ None →
    (stepping program depth).call number arguments (with_left cells (suc left)) ≡ Done None (with_left cells left)
missing_is program depth d number left arguments cells unfolds deep missing =
    ap (λ n. (stepping program n).call number arguments (with_left cells (suc left))) deep
    ∙ unfolds left d number arguments cells.locals cells.store
    ∙ ap (λ f. call_in program (stepping program d) number f arguments (with_left cells left)) missing

-- where the body ends, its outcome comes back to the caller as the meaning of calls has it
pub comes_back : (program : Program) (number left : ℕ) (result : Option CType) (cells : Contents) (value : Manner → Value) (next : Option Number → Doing ℕ Value) (body : Outcome ℕ Manner) → KeptIsClosed program →
    go_on next (come_back program number (gives_result result) (kept_of program number cells) (go_on (λ manner s. Done (value manner) s) body)) ≡ go_on next (finished program number result (with_left cells left) body)
comes_back program number left None cells value next (Done manner s) law = ap (λ store. next None (state cells.locals store s.kept)) (law number cells.store s.store)
comes_back program number left (Some result) cells value next (Done manner s) law = refl
comes_back program number left result cells value next (Returning n store x) law = ap (λ st. next n (state cells.locals st x)) (law number cells.store store)
comes_back program number left result cells value next (Trapped why x) law = refl
comes_back program number left result cells value next Cut law = refl
comes_back program number left result cells value next Deep law = refl
