-- Frames that are pushed and popped, and outcomes that no activation changes.
use Rattle.std.proofs.Common.{◌≡◌, ℕ, ◌+◌, ◌<◌, Bool, List, [], ◌∷◌, ◌++◌, length, Option, Some, None, MatchOption, refl, sym, ap, subst, ◌∙◌, arith}
use Rattle.std.specs.Option.{option_to_list}
use Rattle.rvt_num.specs.Number.{Number}
use Rattle.rvt_num.specs.declared.values.Trap.{Trap}
use Rattle.rvt_num.specs.declared.values.Value.{Value}
use Rattle.rvt_tree.specs.declared.programs.Program.{Program}
use Rattle.c_meaning.specs.Outcomes.{State, Outcome, Done, Returning, Trapped, Cut, Deep}
use Rattle.c_meaning.specs.Expressions.{result_value}
use Rattle.c_places.specs.Kept.{Kept}
use Rattle.c_tasks.specs.Operands.{Operands, operands, top_value, with_value}
use Rattle.c_tasks.specs.Tasks.{Rest, after, to_come}
use Rattle.c_tasks.specs.Weights.{tasks_weight}
use Rattle.c_tasks.specs.declared.work.Work.{Work}
use Rattle.c_interp.specs.declared.frames.Wait.{Wait}
use Rattle.c_interp.specs.declared.frames.Wait.TheVariants.{Call, Initializer}
use Rattle.c_interp.specs.declared.frames.Frame.{Frame}
use Rattle.c_interp.specs.Frames.{returned_number, in_caller, resumed_by, resumed, bottom, whole_from, whole, frames_weight}

whole_from_push : (last : Outcome ℕ Value → Outcome ℕ (Option Number)) (program : Program) (frames : List Frame) (frame : Frame) (o : Outcome ℕ Value) →
    whole_from last program (frames ++ frame ∷ []) o ≡ whole_from last program frames (resumed program frame o)
whole_from_push last program [] frame o = refl
whole_from_push last program (f ∷ frames) frame o = whole_from_push (λ q. last (resumed program f q)) program frames frame o

-- the frame that was pushed last goes on first
pub whole_push : (program : Program) (frames more : List Frame) (frame : Frame) (o : Outcome ℕ Value) → more ≡ frames ++ frame ∷ [] → whole program more o ≡ whole program frames (resumed program frame o)
whole_push program frames more frame o e = ap (λ fs. whole program fs o) e ∙ whole_from_push bottom program frames frame o

weight_of_push : (frames : List Frame) (frame : Frame) → frames_weight (frames ++ frame ∷ []) ≡ frames_weight frames + (2 + tasks_weight frame.work.tasks.items)
weight_of_push [] frame = omega arith
weight_of_push (f ∷ frames) frame = omega (arith, weight_of_push frames frame)

pub weight_push : (frames more : List Frame) (frame : Frame) → more ≡ frames ++ frame ∷ [] → frames_weight more ≡ frames_weight frames + (2 + tasks_weight frame.work.tasks.items)
weight_push frames more frame e = ap frames_weight e ∙ weight_of_push frames frame

length_push : (fewer : List Frame) (frame : Frame) → length fewer < length (fewer ++ frame ∷ [])
length_push [] frame = omega arith
length_push (f ∷ fewer) frame = omega (arith, length_push fewer frame)

pub fewer_frames : (frames fewer : List Frame) (frame : Frame) → frames ≡ fewer ++ frame ∷ [] → length fewer < length frames
fewer_frames frames fewer frame e = subst (λ fs. length fewer < length fs) (sym e) (length_push fewer frame)

pub popped : (frames fewer : List Frame) (r : Option Frame) (frame : Frame) → frames ≡ fewer ++ option_to_list r → r ≡ Some frame → frames ≡ fewer ++ frame ∷ []
popped frames fewer r frame e is = e ∙ ap (λ o. fewer ++ option_to_list o) is

-- ---- an outcome that every frame passes on

passes : (last : Outcome ℕ Value → Outcome ℕ (Option Number)) (program : Program) (o : Outcome ℕ Value) (r : Outcome ℕ (Option Number)) →
    ((frame : Frame) → resumed program frame o ≡ o) → last o ≡ r → (frames : List Frame) → whole_from last program frames o ≡ r
passes last program o r same e [] = e
passes last program o r same e (f ∷ frames) = passes (λ q. last (resumed program f q)) program o r same (ap last (same f) ∙ e) frames

trapped_by : (program : Program) (wait : Wait) (next : Rest) (on : Operands) (why : Trap) (left : ℕ) → resumed_by program wait next on (Trapped why left) ≡ Trapped why left
trapped_by program (Call callee returns kept) next on why left = refl
trapped_by program Initializer next on why left = refl

cut_by : (program : Program) (wait : Wait) (next : Rest) (on : Operands) → resumed_by program wait next on Cut ≡ Cut
cut_by program (Call callee returns kept) next on = refl
cut_by program Initializer next on = refl

deep_by : (program : Program) (wait : Wait) (next : Rest) (on : Operands) → resumed_by program wait next on Deep ≡ Deep
deep_by program (Call callee returns kept) next on = refl
deep_by program Initializer next on = refl

pub whole_trapped : (program : Program) (frames : List Frame) (why : Trap) (left : ℕ) → whole program frames (Trapped why left) ≡ Trapped why left
whole_trapped program frames why left = passes bottom program (Trapped why left) (Trapped why left) (λ frame. trapped_by program frame.wait (after program frame.depth frame.work.tasks.items) (operands frame.work) why left) refl frames

pub whole_cut : (program : Program) (frames : List Frame) → whole program frames Cut ≡ Cut
whole_cut program frames = passes bottom program Cut Cut (λ frame. cut_by program frame.wait (after program frame.depth frame.work.tasks.items) (operands frame.work)) refl frames

pub whole_deep : (program : Program) (frames : List Frame) → whole program frames Deep ≡ Deep
whole_deep program frames = passes bottom program Deep Deep (λ frame. deep_by program frame.wait (after program frame.depth frame.work.tasks.items) (operands frame.work)) refl frames

-- ---- the return of a call

pub initializer_passes : (program : Program) (frames fewer : List Frame) (frame : Frame) (number : Option Number) (store : List Value) (left : ℕ) → frames ≡ fewer ++ frame ∷ [] → frame.wait ≡ Initializer →
    whole program fewer (Returning number store left) ≡ whole program frames (Returning number store left)
initializer_passes program frames fewer frame number store left e is =
    sym (whole_push program fewer frames frame (Returning number store left) e
    ∙ ap (λ wait. whole program fewer (resumed_by program wait (after program frame.depth frame.work.tasks.items) (operands frame.work) (Returning number store left))) is)

pub call_returns : (program : Program) (frames fewer : List Frame) (frame : Frame) (callee : ℕ) (returns : Bool) (kept : Kept) (number : Option Number) (store : List Value) (left : ℕ) → frames ≡ fewer ++ frame ∷ [] → frame.wait ≡ Call callee returns kept →
    whole program frames (Returning number store left) ≡ whole program fewer (after program frame.depth frame.work.tasks.items (with_value (result_value number) (operands frame.work)) (in_caller program callee kept store left))
call_returns program frames fewer frame callee returns kept number store left e is =
    whole_push program fewer frames frame (Returning number store left) e
    ∙ ap (λ wait. whole program fewer (resumed_by program wait (after program frame.depth frame.work.tasks.items) (operands frame.work) (Returning number store left))) is

-- ---- the end of a body, and of an initializer

pub falls_off : (program : Program) (frames fewer : List Frame) (frame : Frame) (wait : Wait) (d : ℕ) (work : Work) (s : State ℕ) → frames ≡ fewer ++ frame ∷ [] → frame.wait ≡ wait → work.tasks.items ≡ [] →
    whole program frames (to_come program d work s) ≡ whole program fewer (resumed_by program wait (after program frame.depth frame.work.tasks.items) (operands frame.work) (Done (top_value (operands work)) s))
falls_off program frames fewer frame wait d work s e is none =
    ap (λ tasks. whole program frames (after program d tasks (operands work) s)) none
    ∙ whole_push program fewer frames frame (Done (top_value (operands work)) s) e
    ∙ ap (λ w. whole program fewer (resumed_by program w (after program frame.depth frame.work.tasks.items) (operands frame.work) (Done (top_value (operands work)) s))) is

pub falls_off_last : (program : Program) (frames fewer : List Frame) (d : ℕ) (work : Work) (s : State ℕ) → frames ≡ [] → work.tasks.items ≡ [] →
    whole program frames (to_come program d work s) ≡ Returning (returned_number (top_value (operands work))) s.store s.kept
falls_off_last program frames fewer d work s e none =
    ap (λ tasks. whole program frames (after program d tasks (operands work) s)) none
    ∙ ap (λ fs. whole program fs (Done (top_value (operands work)) s)) e

empty_of : (frames : List Frame) → length frames ≡ 0 → frames ≡ []
empty_of [] e = refl
empty_of (f ∷ frames) e = absurd (let no : ⊥ = omega (arith, e) in no)

empty_front : (fewer : List Frame) → fewer ++ [] ≡ [] → fewer ≡ []
empty_front [] e = refl
empty_front (f ∷ fewer) e = cc

pub popped_none : (n m : ℕ) (frames fewer : List Frame) (r : Option Frame) → n ≡ length frames → MatchOption r ((n ≡ 0) × (m ≡ 0)) (λ _. m + 1 ≡ n) → frames ≡ fewer ++ option_to_list r → r ≡ None → (frames ≡ []) × (fewer ≡ [])
popped_none n m frames fewer None len h e is =
    let none : length frames ≡ 0 = omega (arith, len, h.0) in
    let empty = empty_of frames none in
    (empty, empty_front fewer (sym e ∙ empty))
popped_none n m frames fewer (Some a) len h e is = cc

pub not_some : (r : Option Frame) → ((frame : Frame) → r ≡ Some frame → ⊥) → r ≡ None
not_some None h = refl
not_some (Some frame) h = absurd (h frame refl)
