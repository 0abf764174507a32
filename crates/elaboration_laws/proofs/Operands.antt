-- Operands before their operator, and arguments in order.
use Rattle.std.proofs.Common.{◌≡◌, ◌∙◌, ◌⊎◌, inl, inr, List, [], ◌∷◌, refl, sym, ap, subst}
use Rattle.rvt_tree.specs.Syntax as tree
use Rattle.rvt_tree.specs.declared.places.Place.{Place}
use Rattle.c_types.specs.Layout.{Shape}
use Rattle.c_syntax.specs.Syntax as s
use Rattle.c_syntax.specs.declared.bases.Word.{Word}
use Rattle.expression_typing.specs.Entities.{Scope, unevaluated, in_scope}
use Rattle.expression_typing.specs.Progress.{Notes}
use Rattle.expression_typing.specs.Outcomes.{Cause, Outcome, Made, Broken, Checking, go_on, and_then, give}
use Rattle.expression_typing.specs.FirstTokens.{first_token, ends_of}
use Rattle.expression_typing.specs.Operands.{Operand, Ends, converted_operand}
use Rattle.expression_typing.specs.ArraySubscripting.{element_of}
use Rattle.expression_typing.specs.StructMembers.{member_of, arrow_of}
use Rattle.expression_typing.specs.Operators.{prefixed, operated}
use Rattle.expression_typing.specs.ConditionalOperator.{choice_of}
use Rattle.expression_typing.specs.SizeofOperator.{size_of_operand}
use Rattle.expression_typing.specs.FunctionCalls.{Callee, callee, passed_as, later, called, count}
use Rattle.expression_typing.specs.Expressions as e
use Rattle.elaboration_laws.specs.FirstFailures.{FirstBroken, this_one, a_later_one, NoneBroken, the_end, one_more, OperandOf, operand_checked, operands, value_of, place_of, arguments_of, argument_checked}
use Rattle.elaboration_laws.proofs.Firsts.{turned_broken, turned_made, Steps, in_first, in_second, steps}

abbrev nothing : {A : Type 0} → A → Unit {0}
nothing a = tt

-- what follows a primary expression that breaks a rule changes nothing
followed_broken : (scope : Scope) (ends : Ends) (primary : Checking Operand) (notes : Notes) (suffixes : s.Suffixes) {cause : Cause} {at : Place}
    → primary notes ≡ Broken cause at → e.followed scope ends primary suffixes notes ≡ Broken cause at
followed_broken scope ends primary notes s.no_suffixes b = b
followed_broken scope ends primary notes (s.index place i before) b =
    ap (go_on (λ x. and_then (e.operand scope i) (λ y. element_of scope.structs place x y))) (followed_broken scope ends primary notes before b)
followed_broken scope ends primary notes (s.dot place word before) b =
    ap (go_on (member_of scope.structs place word)) (followed_broken scope ends primary notes before b)
followed_broken scope ends primary notes (s.arrow place word before) b =
    ap (go_on (arrow_of scope.structs place word)) (ap (go_on (converted_operand scope ends)) (followed_broken scope ends primary notes before b))

module _ (cause : Cause) (at : Place) where
  -- what comes of the operands of an operator, the first of which is broken or none of which is
  abbrev Operands : Notes → List OperandOf → Type 0
  Operands notes list = FirstBroken operand_checked cause at tt notes list ⊎ NoneBroken operand_checked tt notes list

  -- ---- one operand

  whole_value : (scope : Scope) (x : s.Expression) (next : Operand → Checking Operand) {notes : Notes}
      → FirstBroken operand_checked cause at tt notes (value_of scope x ∷ []) → go_on next (e.operand scope x notes) ≡ Broken cause at
  whole_value scope x next (a_later_one m first) = elim first [ ]
  whole_value scope x next {notes} (this_one b) = ap (go_on next) (turned_broken nothing (e.operand scope x notes) b)

  whole_place : (scope : Scope) (x : s.Expression) (next : Operand → Checking Operand) {notes : Notes}
      → FirstBroken operand_checked cause at tt notes (place_of scope x ∷ []) → go_on next (e.typed scope x notes) ≡ Broken cause at
  whole_place scope x next (a_later_one m first) = elim first [ ]
  whole_place scope x next {notes} (this_one b) = ap (go_on next) (turned_broken nothing (e.typed scope x notes) b)

  of_place : (scope : Scope) (x : s.Expression) (next : Operand → Checking Operand) (notes : Notes)
      → go_on next (e.typed scope x notes) ≡ Broken cause at → Operands notes (place_of scope x ∷ [])
  of_place scope x next notes b = by (steps (e.typed scope x notes) next b) where
    by : Steps (e.typed scope x notes) next cause at → Operands notes (place_of scope x ∷ [])
    by (in_first b) = inl (this_one (ap (go_on (λ _. give tt)) b))
    by (in_second m b) = inr (one_more (ap (go_on (λ _. give tt)) m) the_end)

  -- ---- a value, and then others

  value_first : (scope : Scope) (x : s.Expression) (others : List OperandOf) (next : Operand → Checking Operand) (notes : Notes)
      → ((made : Operand) (noted : Notes) → FirstBroken operand_checked cause at tt noted others → next made noted ≡ Broken cause at)
      → FirstBroken operand_checked cause at tt notes (value_of scope x ∷ others) → go_on next (e.operand scope x notes) ≡ Broken cause at
  value_first scope x others next notes rest (this_one b) = ap (go_on next) (turned_broken nothing (e.operand scope x notes) b)
  value_first scope x others next notes rest (a_later_one {noted = noted} m first) =
      let was = turned_made nothing (e.operand scope x notes) m in ap (go_on next) was.1 ∙ rest was.0 noted first

  value_then : (scope : Scope) (x : s.Expression) (others : List OperandOf) (next : Operand → Checking Operand) (notes : Notes)
      → ((made : Operand) (noted : Notes) → next made noted ≡ Broken cause at → Operands noted others)
      → go_on next (e.operand scope x notes) ≡ Broken cause at → Operands notes (value_of scope x ∷ others)
  value_then scope x others next notes rest b = by (steps (e.operand scope x notes) next b) where
    by : Steps (e.operand scope x notes) next cause at → Operands notes (value_of scope x ∷ others)
    by (in_first b) = inl (this_one (ap (go_on (λ _. give tt)) b))
    by (in_second {a = made} {notes = noted} m b) = behind (rest made noted b) where
      behind : Operands noted others → Operands notes (value_of scope x ∷ others)
      behind (inl first) = inl (a_later_one (ap (go_on (λ _. give tt)) m) first)
      behind (inr none) = inr (one_more (ap (go_on (λ _. give tt)) m) none)

  -- ---- every form

  pub broken_operands : (scope : Scope) (x : s.Expression) (notes : Notes)
      → FirstBroken operand_checked cause at tt notes (operands scope x) → e.typed scope x notes ≡ Broken cause at
  broken_operands scope (s.identifier _) notes first = elim first [ ]
  broken_operands scope (s.integer _ _) notes first = elim first [ ]
  broken_operands scope (s.character _ _) notes first = elim first [ ]
  broken_operands scope (s.call function _) notes first = elim first [ ]
  broken_operands scope (s.casts _ _) notes first = elim first [ ]
  broken_operands scope (s.sizeof_type _ _) notes first = elim first [ ]
  broken_operands scope (s.parenthesized place inner) notes (a_later_one m first) = elim first [ ]
  broken_operands scope (s.postfix primary _) notes (a_later_one m first) = elim first [ ]
  broken_operands scope (s.parenthesized place inner) notes (this_one b) = turned_broken nothing (e.typed scope inner notes) b
  broken_operands scope (s.postfix primary suffixes) notes (this_one b) =
      followed_broken scope (ends_of primary) (e.typed scope primary) notes suffixes (turned_broken nothing (e.typed scope primary notes) b)
  broken_operands scope (s.unary op place x) notes first = whole_place scope x (prefixed scope op place (ends_of x)) first
  broken_operands scope (s.sizeof_expression place x) notes first = whole_place (unevaluated scope) x (size_of_operand scope.structs place) first
  broken_operands scope (s.binary op place left right) notes first =
      value_first scope left (value_of scope right ∷ []) (λ x. and_then (e.operand scope right) (operated scope.structs op place x)) notes
      (λ x noted. whole_value scope right (operated scope.structs op place x)) first
  broken_operands scope (s.conditional place test one two) notes first =
      value_first scope test (value_of scope one ∷ value_of scope two ∷ [])
      (λ c. and_then (e.operand scope one) (λ x. and_then (e.operand scope two) (choice_of place c x))) notes
      (λ c noted. value_first scope one (value_of scope two ∷ []) (λ x. and_then (e.operand scope two) (choice_of place c x)) noted
      (λ x noted. whole_value scope two (choice_of place c x))) first

  pub operands_break : (scope : Scope) (x : s.Expression) (notes : Notes)
      → e.typed scope x notes ≡ Broken cause at → Operands notes (operands scope x)
  operands_break scope (s.identifier word) notes b = inr the_end
  operands_break scope (s.integer n place) notes b = inr the_end
  operands_break scope (s.character n place) notes b = inr the_end
  operands_break scope (s.call function _) notes b = inr the_end
  operands_break scope (s.casts chain x) notes b = inr the_end
  operands_break scope (s.sizeof_type place name) notes b = inr the_end
  operands_break scope (s.parenthesized place inner) notes b = inl (this_one (ap (go_on (λ _. give tt)) b))
  operands_break scope (s.postfix primary suffixes) notes b = by (e.typed scope primary notes) refl where
    by : (o : Outcome Operand) → e.typed scope primary notes ≡ o → Operands notes (place_of scope primary ∷ [])
    by (Made made noted) m = inr (one_more (ap (go_on (λ _. give tt)) m) the_end)
    by (Broken other place) m =
        inl (this_one (ap (go_on (λ _. give tt)) (m ∙ (sym (followed_broken scope (ends_of primary) (e.typed scope primary) notes suffixes m) ∙ b))))
  operands_break scope (s.unary op place x) notes b = of_place scope x (prefixed scope op place (ends_of x)) notes b
  operands_break scope (s.sizeof_expression place x) notes b = of_place (unevaluated scope) x (size_of_operand scope.structs place) notes b
  operands_break scope (s.binary op place left right) notes b =
      value_then scope left (value_of scope right ∷ []) (λ x. and_then (e.operand scope right) (operated scope.structs op place x)) notes
      (λ x noted. value_then scope right [] (operated scope.structs op place x) noted (λ y noted _. inr the_end)) b
  operands_break scope (s.conditional place test one two) notes b =
      value_then scope test (value_of scope one ∷ value_of scope two ∷ [])
      (λ c. and_then (e.operand scope one) (λ x. and_then (e.operand scope two) (choice_of place c x))) notes
      (λ c noted. value_then scope one (value_of scope two ∷ []) (λ x. and_then (e.operand scope two) (choice_of place c x)) noted
      (λ x noted. value_then scope two [] (choice_of place c x) noted (λ y noted _. inr the_end))) b

  -- ---- arguments

  pub broken_arguments : (scope : Scope) (arguments : s.Arguments) (params : List Shape) (notes : Notes)
      → FirstBroken (argument_checked scope) cause at params notes (arguments_of arguments) → e.passed scope params arguments notes ≡ Broken cause at
  broken_arguments scope s.no_arguments params notes first = elim first [ ]
  broken_arguments scope (s.argument x rest) params notes (this_one b) =
      ap (go_on (λ value. and_then (e.passed scope (later params) rest) (λ values. give (tree.argument value values))))
      (turned_broken (λ _. later params) (and_then (e.operand scope x) (passed_as (first_token x) params) notes) b)
  broken_arguments scope (s.argument x rest) params notes (a_later_one {noted = noted} m first) =
      let was = turned_made (λ _. later params) (and_then (e.operand scope x) (passed_as (first_token x) params) notes) m in
      ap (go_on (λ value. and_then (e.passed scope (later params) rest) (λ values. give (tree.argument value values)))) was.1
      ∙ ap (go_on (λ values. give (tree.argument was.0 values)))
      (broken_arguments scope rest (later params) noted (subst (λ params. FirstBroken (argument_checked scope) cause at params noted (arguments_of rest)) (sym was.2) first))

  pub broken_call : (scope : Scope) (function : Word) (arguments : s.Arguments) (to : Callee) (notes noted : Notes)
      → callee scope function (in_scope scope.names function.name) notes ≡ Made to noted
      → FirstBroken (argument_checked scope) cause at to.params noted (arguments_of arguments)
      → e.typed scope (s.call function arguments) notes ≡ Broken cause at
  broken_call scope function arguments to notes noted m first =
      ap (go_on (λ to. and_then (e.passed scope to.params arguments) (λ values. called function.place to (count arguments) values))) m
      ∙ ap (go_on (λ values. called function.place to (count arguments) values)) (broken_arguments scope arguments to.params noted first)
