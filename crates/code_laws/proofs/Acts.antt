-- The code of acts.
use Rattle.std.proofs.Common.{◌≡◌, ℕ, List, [], ◌∷◌, ◌++◌, length, Option, Some, None, refl, sym, ap, ◌∙◌, subst}
use Rattle.rvt_num.specs.declared.values.Value.{Value}
use Rattle.rvt_tree.specs.declared.programs.Program.{Program}
use Rattle.rvt_tree.specs.declared.expressions.Variable.{Variable}
use Rattle.rvt_tree.specs.Syntax.{LvalueExpression, identifier, element, member, dereference, subscript, arrow, Expression, Arguments, Action, evaluate, call_void, discard, discard_void, assign, compound_assign, advance, retreat, step, step_pointer}
use Rattle.c_meaning.specs.Outcomes.{State, go_on, and_then, unless_trapped}
use Rattle.c_meaning.specs.Stores.{read}
use Rattle.c_meaning.specs.Expressions.{looked_up, place_of, value_of, values_of}
use Rattle.c_meaning.specs.Statements.{nothing, put, replaced, replaced_alone, act, acts}
use Rattle.c_meaning.specs.Runs.{stepping}
use Rattle.c_tasks.specs.Operands.{Operands, with_values}
use Rattle.c_tasks.specs.Tasks.{Rest, evaluating, locating, passing, acting, acting_all}
use Rattle.c_tasks.proofs.Sequences.{then_alike, one_part, two_parts, one_part_and}
use Rattle.c_code.specs.Expressions.{variable_of, argument_count, place_code, value_code, arguments_code}
use Rattle.c_code.specs.Acts.{discarding, calling, assigning, replacing, changing, act_code, acts_code}
use Rattle.c_code.specs.Initializers.{Counts}
use Rattle.c_code.specs.declared.instructions.Unary.{Unary}
use Rattle.c_code.specs.declared.instructions.Unary.TheVariants as One
use Rattle.c_code.specs.declared.instructions.Binary.{Binary}
use Rattle.c_code.specs.declared.instructions.Binary.TheVariants as Two
use Rattle.c_code.specs.declared.instructions.Instruction.{Instruction}
use Rattle.c_code.specs.declared.instructions.Instruction.TheVariants as I
use Rattle.code_laws.specs.Effects.{effect, first_of, unary_result, binary_result, last_values}
use Rattle.code_laws.specs.Stands.{Spans, Stands}
use Rattle.code_laws.proofs.Spanning.{split, alike, one}
use Rattle.code_laws.proofs.Values.{or_this, is_none, value_stands, place_stands, arguments_stand, alike_where, as_many, last_of, below_of}

module _ (program : Program) (d : ℕ) (counts : Counts) (code : List Instruction) where
  abbrev S : ℕ → ℕ → ℕ → Rest → Type 0
  S pc h p k = Stands program d counts code pc h p k

  -- which variable an lvalue is
  is_variable : (l : LvalueExpression) (v : Variable) → Some v ≡ variable_of l → l ≡ identifier v
  is_variable (identifier variable) v e = ap identifier (sym (ap (or_this v) e))
  is_variable (element array index count size) v e = absurd (subst is_none (sym e) tt)
  is_variable (member aggregate field cell) v e = absurd (subst is_none (sym e) tt)
  is_variable (dereference pointer pointee) v e = absurd (subst is_none (sym e) tt)
  is_variable (subscript pointer index pointee size) v e = absurd (subst is_none (sym e) tt)
  is_variable (arrow pointer structure field cell) v e = absurd (subst is_none (sym e) tt)

  discards : (e : Expression) (from to : ℕ) (next : Rest) → Spans code from to (discarding e) → S to 0 0 next → S from 0 0 (acting program d (evaluate e) next)
  discards e from to next spans after =
      let first = split code from to (value_code e 0 0) (I.Discard 0 ∷ []) spans in
      let last = effect program d (I.Discard 0) next in
      alike program d counts code from 0 0 (evaluating program d e last) (acting program d (evaluate e) next)
      (λ on s. sym (one_part (value_of program (stepping program d) e) (λ v. nothing) (λ _. next on) s))
      (value_stands program d counts code e 0 0 from first.0 last first.1 (one program d counts code (I.Discard 0) first.2 (refl, refl, refl) (λ on s. refl) after))

  -- a call of which nothing is kept
  discarded : (function count : ℕ) (vs : List Value) (on : Operands) (next : Rest) (t : State ℕ) → length vs ≡ count →
      and_then (and_then ((stepping program d).call function vs) (λ result. nothing)) (λ _. next on) t
      ≡ effect program d (I.Call function 0 count) (effect program d (I.Discard 0) next) (with_values vs on) t
  discarded function count vs on next t number =
      sym (one_part ((stepping program d).call function vs) (λ result. nothing) (λ _. next on) t)
      ∙ ap (λ ws. and_then ((stepping program d).call function ws) (λ result. next on) t) (sym (last_of vs on.values count number))
      ∙ ap (λ below. and_then ((stepping program d).call function (last_values count (with_values vs on))) (λ result. next (record { values = below; places = on.places; manner = on.manner; zeros = on.zeros })) t) (sym (below_of vs on.values count number))

  calls_on : (function : ℕ) (arguments : Arguments) (from to : ℕ) (next : Rest) → Spans code from to (calling function arguments) → S to 0 0 next → S from 0 0 (acting program d (call_void function arguments) next)
  calls_on function arguments from to next spans after =
      let n = argument_count arguments in
      let first = split code from to (arguments_code arguments 0 0) _ spans in
      let second = split code first.0 to (I.Call function 0 n ∷ []) (I.Discard 0 ∷ []) first.2 in
      let last = effect program d (I.Discard 0) next in
      let calling_it = effect program d (I.Call function 0 n) last in
      alike program d counts code from 0 0 (passing program d arguments calling_it) (acting program d (call_void function arguments) next)
      (λ on s. sym (one_part (values_of program (stepping program d) arguments) _ (λ _. next on) s)
      ∙ alike_where (λ vs. length vs ≡ n) (values_of program (stepping program d) arguments s) _ _ (as_many program d arguments s) (λ vs t number. discarded function n vs on next t number))
      (arguments_stand program d counts code arguments 0 0 from first.0 calling_it first.1
      (one program d counts code (I.Call function 0 n) second.1 (refl, refl, refl) (λ on s. refl)
      (one program d counts code (I.Discard 0) second.2 (refl, refl, refl) (λ on s. refl) after)))

  assigns : (l : LvalueExpression) (o : Option Variable) → o ≡ variable_of l → (e : Expression) (from to : ℕ) (next : Rest) → Spans code from to (assigning o (place_code l 0 0) e) → S to 0 0 next → S from 0 0 (acting program d (assign l e) next)
  assigns l None is e from to next spans after =
      let first = split code from to (place_code l 0 0) _ spans in
      let second = split code first.0 to (value_code e 0 1) (I.Store 0 0 ∷ []) first.2 in
      let last = effect program d (I.Store 0 0) next in
      alike program d counts code from 0 0 (locating program d l (evaluating program d e last)) (acting program d (assign l e) next)
      (λ on s. sym (two_parts (place_of program (stepping program d) l) (value_of program (stepping program d) e) (put program) (λ _. next on) s))
      (place_stands program d counts code l 0 0 from first.0 (evaluating program d e last) first.1
      (value_stands program d counts code e 0 1 first.0 second.0 last second.1 (one program d counts code (I.Store 0 0) second.2 (refl, refl, refl, refl) (λ on s. refl) after)))
  assigns l (Some v) is e from to next spans after =
      let first = split code from to (value_code e 0 0) (I.Write v 0 ∷ []) spans in
      let last = effect program d (I.Write v 0) next in
      subst (λ x. S from 0 0 (acting program d (assign x e) next)) (sym (is_variable l v is))
      (alike program d counts code from 0 0 (evaluating program d e last) (acting program d (assign (identifier v) e) next)
      (λ on s. sym (one_part (value_of program (stepping program d) e) (put program (first_of v)) (λ _. next on) s))
      (value_stands program d counts code e 0 0 from first.0 last first.1 (one program d counts code (I.Write v 0) first.2 (refl, refl, refl) (λ on s. refl) after)))

  replaces : (a : Action) (l : LvalueExpression) (o : Option Variable) → o ≡ variable_of l → (e : Expression) (op : Binary) (from to : ℕ) (next : Rest) →
      ((s : State ℕ) → act program (stepping program d) a s ≡ replaced program (stepping program d) l e (binary_result program op) s) →
      Spans code from to (replacing o (place_code l 0 0) e op) → S to 0 0 next → S from 0 0 (acting program d a next)
  replaces a l None is e op from to next does spans after =
      let first = split code from to (place_code l 0 0) _ spans in
      let second = split code first.0 to (I.Fetch 0 0 ∷ []) (value_code e 1 1 ++ I.Binary op 0 ∷ I.Store 0 0 ∷ []) first.2 in
      let third = split code second.0 to (value_code e 1 1) (I.Binary op 0 ∷ I.Store 0 0 ∷ []) second.2 in
      let fourth = split code third.0 to (I.Binary op 0 ∷ []) (I.Store 0 0 ∷ []) third.2 in
      let last = effect program d (I.Store 0 0) next in
      let computing = effect program d (I.Binary op 0) last in
      let fetching = effect program d (I.Fetch 0 0) (evaluating program d e computing) in
      alike program d counts code from 0 0 (locating program d l fetching) (acting program d a next)
      (λ on s. ap (go_on (λ _. next on)) (does s)
      ∙ sym (then_alike (place_of program (stepping program d) l s) _ _ (λ q t. one_part_and (value_of program (stepping program d) e) (λ v. unless_trapped (binary_result program op (read program q t) v)) (put program q) (λ _. next on) t)
      ∙ one_part (place_of program (stepping program d) l) (λ q. and_then (looked_up program q) (λ old. and_then (value_of program (stepping program d) e) (λ v. and_then (unless_trapped (binary_result program op old v)) (put program q)))) (λ _. next on) s))
      (place_stands program d counts code l 0 0 from first.0 fetching first.1
      (one program d counts code (I.Fetch 0 0) second.1 (refl, refl, refl, refl) (λ on s. refl)
      (value_stands program d counts code e 1 1 second.0 third.0 computing third.1
      (one program d counts code (I.Binary op 0) fourth.1 (refl, refl, refl) (λ on s. refl)
      (one program d counts code (I.Store 0 0) fourth.2 (refl, refl, refl, refl) (λ on s. refl) after)))))
  replaces a l (Some v) is e op from to next does spans after =
      let first = split code from to (I.Read v 0 ∷ []) (value_code e 1 0 ++ I.Binary op 0 ∷ I.Write v 0 ∷ []) spans in
      let second = split code first.0 to (value_code e 1 0) (I.Binary op 0 ∷ I.Write v 0 ∷ []) first.2 in
      let third = split code second.0 to (I.Binary op 0 ∷ []) (I.Write v 0 ∷ []) second.2 in
      let last = effect program d (I.Write v 0) next in
      let computing = effect program d (I.Binary op 0) last in
      alike program d counts code from 0 0 (effect program d (I.Read v 0) (evaluating program d e computing)) (acting program d a next)
      (λ on s. ap (go_on (λ _. next on)) (does s)
      ∙ ap (λ x. go_on (λ _. next on) (replaced program (stepping program d) x e (binary_result program op) s)) (is_variable l v is)
      ∙ sym (one_part_and (value_of program (stepping program d) e) (λ w. unless_trapped (binary_result program op (read program (first_of v) s) w)) (put program (first_of v)) (λ _. next on) s))
      (one program d counts code (I.Read v 0) first.1 (refl, refl, refl) (λ on s. refl)
      (value_stands program d counts code e 1 0 first.0 second.0 computing second.1
      (one program d counts code (I.Binary op 0) third.1 (refl, refl, refl) (λ on s. refl)
      (one program d counts code (I.Write v 0) third.2 (refl, refl, refl) (λ on s. refl) after))))

  changes : (a : Action) (l : LvalueExpression) (o : Option Variable) → o ≡ variable_of l → (op : Unary) (from to : ℕ) (next : Rest) →
      ((s : State ℕ) → act program (stepping program d) a s ≡ replaced_alone program (stepping program d) l (unary_result program op) s) →
      Spans code from to (changing o (place_code l 0 0) op) → S to 0 0 next → S from 0 0 (acting program d a next)
  changes a l None is op from to next does spans after =
      let first = split code from to (place_code l 0 0) (I.Fetch 0 0 ∷ I.Unary op 0 ∷ I.Store 0 0 ∷ []) spans in
      let second = split code first.0 to (I.Fetch 0 0 ∷ []) (I.Unary op 0 ∷ I.Store 0 0 ∷ []) first.2 in
      let third = split code second.0 to (I.Unary op 0 ∷ []) (I.Store 0 0 ∷ []) second.2 in
      let last = effect program d (I.Store 0 0) next in
      let computing = effect program d (I.Unary op 0) last in
      let fetching = effect program d (I.Fetch 0 0) computing in
      alike program d counts code from 0 0 (locating program d l fetching) (acting program d a next)
      (λ on s. ap (go_on (λ _. next on)) (does s)
      ∙ sym (then_alike (place_of program (stepping program d) l s) _ _ (λ q t. one_part (unless_trapped (unary_result program op (read program q t))) (put program q) (λ _. next on) t)
      ∙ one_part (place_of program (stepping program d) l) (λ q. and_then (looked_up program q) (λ old. and_then (unless_trapped (unary_result program op old)) (put program q))) (λ _. next on) s))
      (place_stands program d counts code l 0 0 from first.0 fetching first.1
      (one program d counts code (I.Fetch 0 0) second.1 (refl, refl, refl, refl) (λ on s. refl)
      (one program d counts code (I.Unary op 0) third.1 (refl, refl, refl) (λ on s. refl)
      (one program d counts code (I.Store 0 0) third.2 (refl, refl, refl, refl) (λ on s. refl) after))))
  changes a l (Some v) is op from to next does spans after =
      alike program d counts code from 0 0 (effect program d (I.Change op v) next) (acting program d a next)
      (λ on s. ap (go_on (λ _. next on)) (does s)
      ∙ ap (λ x. go_on (λ _. next on) (replaced_alone program (stepping program d) x (unary_result program op) s)) (is_variable l v is)
      ∙ sym (one_part (unless_trapped (unary_result program op (read program (first_of v) s))) (put program (first_of v)) (λ _. next on) s))
      (one program d counts code (I.Change op v) spans (refl, refl) (λ on s. refl) after)

  pub act_stands : (a : Action) (from to : ℕ) (next : Rest) → Spans code from to (act_code a) → S to 0 0 next → S from 0 0 (acting program d a next)
  act_stands (evaluate e) from to next spans after = discards e from to next spans after
  act_stands (call_void function arguments) from to next spans after = calls_on function arguments from to next spans after
  act_stands (discard e) from to next spans after = discards e from to next spans after
  act_stands (discard_void function arguments) from to next spans after = calls_on function arguments from to next spans after
  act_stands (assign l e) from to next spans after = assigns l (variable_of l) refl e from to next spans after
  act_stands (compound_assign op l kind e) from to next spans after = replaces (compound_assign op l kind e) l (variable_of l) refl e (Two.Update op kind) from to next (λ s. refl) spans after
  act_stands (advance l e size) from to next spans after = replaces (advance l e size) l (variable_of l) refl e (Two.Forward size) from to next (λ s. refl) spans after
  act_stands (retreat l e size) from to next spans after = replaces (retreat l e size) l (variable_of l) refl e (Two.Backward size) from to next (λ s. refl) spans after
  act_stands (step bump l) from to next spans after = changes (step bump l) l (variable_of l) refl (One.Bump bump) from to next (λ s. refl) spans after
  act_stands (step_pointer bump l size) from to next spans after = changes (step_pointer bump l size) l (variable_of l) refl (One.BumpPointer bump size) from to next (λ s. refl) spans after

  pub acts_stand : (all : List Action) (from to : ℕ) (next : Rest) → Spans code from to (acts_code all) → S to 0 0 next → S from 0 0 (acting_all program d all next)
  acts_stand [] from to next spans after = subst (λ n. S n 0 0 next) (sym spans) after
  acts_stand (a ∷ rest) from to next spans after =
      let first = split code from to (act_code a) (acts_code rest) spans in
      alike program d counts code from 0 0 (acting program d a (acting_all program d rest next)) (acting_all program d (a ∷ rest) next)
      (λ on s. sym (one_part (act program (stepping program d) a) (λ _. acts program (stepping program d) rest) (λ _. next on) s))
      (act_stands a from first.0 (acting_all program d rest next) first.1 (acts_stand rest first.0 to next first.2 after))
