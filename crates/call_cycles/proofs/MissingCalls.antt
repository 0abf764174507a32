-- The first call of a function without a body.
use Rattle.std.proofs.Common.{◌≡◌, ℕ, zero, suc, ◌+◌, ◌<◌, List, [], ◌∷◌, ◌++◌, map, flat_map, length, Bool, true, false, not, cond, Option, Some, None, refl, sym, ◌∙◌, subst, arith, drop, get_or}
use Rattle.std.specs.List.{find}
use Rattle.std.proofs.lemmas.List.{length-map, at_drop_more}
use Rattle.call_graph.specs.Graphs.{At, IsGraph}
use Rattle.typing_base.specs.declared.notes.Call.{Call}
use Rattle.call_cycles.specs.declared.notes.FunctionNotes.{FunctionNotes}
use Rattle.call_cycles.specs.Noted.{is_defined, calls_between}
use Rattle.call_cycles.proofs.Elements.{at_map, flat_map_at}

abbrev pub lacks_body : List FunctionNotes → Call → Bool
lacks_body functions call = not (is_defined functions call.function)

abbrev pub all_calls : List FunctionNotes → List Call
all_calls functions = flat_map (λ notes. notes.calls.now) functions

-- ---- the first that passes a test

module _ {X : Type 0} (p : X → Bool) where
  none_here : (b : Bool) (x : X) (rest whole tail : Option X) → (rest ≡ None → whole ≡ tail) → cond b (Some x) rest ≡ None → cond b (Some x) whole ≡ tail
  none_here true x rest whole tail r h = absurd (let q : Some x ≡ None = h in cc)
  none_here false x rest whole tail r h = r h

  pub find-append_none : (xs ys : List X) → find p xs ≡ None → find p (xs ++ ys) ≡ find p ys
  find-append_none [] ys h = refl
  find-append_none (x ∷ xs) ys h = none_here (p x) x (find p xs) (find p (xs ++ ys)) (find p ys) (find-append_none xs ys) h

  some_here : (b : Bool) (x y : X) (rest whole : Option X) → (rest ≡ Some y → whole ≡ Some y) → cond b (Some x) rest ≡ Some y → cond b (Some x) whole ≡ Some y
  some_here true x y rest whole r h = h
  some_here false x y rest whole r h = r h

  pub find-append_some : (xs ys : List X) (y : X) → find p xs ≡ Some y → find p (xs ++ ys) ≡ Some y
  find-append_some [] ys y h = absurd (let q : None ≡ Some y = h in cc)
  find-append_some (x ∷ xs) ys y h = some_here (p x) x y (find p xs) (find p (xs ++ ys)) (find-append_some xs ys y) h

  none_first : (b : Bool) (x : X) (rest : Option X) → cond b (Some x) rest ≡ None → (b ≡ false) × (rest ≡ None)
  none_first true x rest h = absurd (let q : Some x ≡ None = h in cc)
  none_first false x rest h = (refl, h)

  -- where none is found, each fails the test
  pub none_passes : (xs : List X) (k : ℕ) (x : X) → find p xs ≡ None → At xs k x → p x ≡ false
  none_passes [] k x h a = absurd (let q : None ≡ Some x = a in cc)
  none_passes (y ∷ xs) zero x h a = let same : y ≡ x = cc in subst (λ z. p z ≡ false) same (none_first (p y) y (find p xs) h).0
  none_passes (y ∷ xs) (suc k) x h a = none_passes xs k x (none_first (p y) y (find p xs) h).1 a

-- ---- function by function

module _ (p : Call → Bool) where
  -- what is found in the functions from one on, when the next is passed
  found_from : (functions : List FunctionNotes) (n : ℕ) (notes : FunctionNotes) → n < length functions → notes ≡ get_or functions n notes → find p (all_calls (drop n functions)) ≡ find p (notes.calls.now ++ all_calls (drop (n + 1) functions))
  found_from functions n notes h is =
      let more = at_drop_more (λ fs. find p (all_calls fs)) functions n notes h in
      subst (λ (w : FunctionNotes). find p (all_calls (drop n functions)) ≡ find p (w.calls.now ++ all_calls (drop (n + 1) functions))) (sym is) more

  pub none_in_this : (functions : List FunctionNotes) (n : ℕ) (notes : FunctionNotes) → n < length functions → notes ≡ get_or functions n notes → find p notes.calls.now ≡ None → find p (all_calls (drop n functions)) ≡ find p (all_calls functions) → find p (all_calls (drop (n + 1) functions)) ≡ find p (all_calls functions)
  none_in_this functions n notes h is none before = sym (find-append_none p notes.calls.now (all_calls (drop (n + 1) functions)) none) ∙ sym (found_from functions n notes h is) ∙ before

  pub found_in_this : (functions : List FunctionNotes) (n : ℕ) (notes : FunctionNotes) (call : Call) → n < length functions → notes ≡ get_or functions n notes → find p notes.calls.now ≡ Some call → find p (all_calls (drop n functions)) ≡ find p (all_calls functions) → find p (all_calls functions) ≡ Some call
  found_in_this functions n notes call h is found before = sym before ∙ found_from functions n notes h is ∙ find-append_some p notes.calls.now (all_calls (drop (n + 1) functions)) call found

-- ---- where each call is one of a function with a body

defined_within : (functions : List FunctionNotes) (number : ℕ) → is_defined functions number ≡ true → number < length functions
defined_within [] number h = absurd (let q : false ≡ true = h in cc)
defined_within (notes ∷ functions) zero h = omega arith
defined_within (notes ∷ functions) (suc number) h = let r = defined_within functions number h in omega (arith, r)

not_false : (b : Bool) → not b ≡ false → b ≡ true
not_false true h = refl
not_false false h = absurd (let q : true ≡ false = h in cc)

pub calls_known : (functions : List FunctionNotes) → find (lacks_body functions) (all_calls functions) ≡ None → IsGraph (calls_between functions)
calls_known functions none u v edge = omega (arith, within, sizes) where
  row : (notes : FunctionNotes) × At functions u notes × (map (λ (call : Call). call.function) notes.calls.now ≡ edge.successors)
  row = at_map (λ (notes : FunctionNotes). map (λ (call : Call). call.function) notes.calls.now) functions u edge.successors edge.is_there

  called : (call : Call) × At row.0.calls.now edge.place call × (call.function ≡ v)
  called = at_map (λ (call : Call). call.function) row.0.calls.now edge.place v (subst (λ (l : List ℕ). At l edge.place v) (sym row.2) edge.leads)

  among : (k : ℕ) × At (all_calls functions) k called.0
  among = flat_map_at (λ (notes : FunctionNotes). notes.calls.now) functions u row.0 edge.place called.0 row.1 called.1

  passes : is_defined functions called.0.function ≡ true
  passes = not_false _ (none_passes (lacks_body functions) (all_calls functions) among.0 called.0 none among.1)

  within : v < length functions
  within = defined_within functions v (subst (λ n. is_defined functions n ≡ true) called.2 passes)

  sizes : length (calls_between functions) ≡ length functions
  sizes = length-map functions (λ (notes : FunctionNotes). map (λ (call : Call). call.function) notes.calls.now)
