-- The code of expressions.
use Rattle.std.proofs.Common.{◌≡◌, ℕ, suc, ◌+◌, List, [], ◌∷◌, ◌++◌, length, Bool, true, false, if◌then◌else◌, Option, Some, None, refl, sym, ap, ◌∙◌, subst, arith, append_assoc}
use Rattle.std.proofs.lemmas.List.{length-reverse, reverse-append, reverse-reverse}
use Rattle.std.proofs.Math.Seq.{take-append_seam, drop-append_seam}
use Rattle.std.specs.Prelude.{take, drop, reverse}
use Rattle.rvt_num.specs.declared.values.Value.{Value}
use Rattle.rvt_tree.specs.declared.programs.Program.{Program}
use Rattle.rvt_tree.specs.declared.expressions.Variable.{Variable}
use Rattle.rvt_num.specs.declared.operations.UnOp.TheVariants as U
use Rattle.rvt_tree.specs.declared.types.Pointee.TheVariants as P
use Rattle.rvt_tree.specs.Syntax.{LvalueExpression, identifier, element, member, dereference, subscript, arrow, Expression, constant, null_pointer, value_at, address, decay, cast, plus, minus, complement, negation, binary, equal_pointers, unequal_pointers, pointer_plus, plus_pointer, pointer_minus, logical_and, logical_or, conditional, call, Arguments, no_arguments, argument}
use Rattle.c_meaning.specs.Outcomes.{State, Outcome, Done, Returning, Trapped, Cut, Deep, Doing, give, go_on, and_then, unless_trapped}
use Rattle.c_meaning.specs.Stores.{number_of, holds, beyond, element_at, moved, target, pointer_to}
use Rattle.c_meaning.specs.Expressions.{truth_value, times, result_value, looked_up, place_of, value_of, values_of}
use Rattle.c_meaning.specs.Runs.{stepping}
use Rattle.c_tasks.specs.Operands.{Operands, with_value, with_values, onto, with_place}
use Rattle.c_tasks.specs.Tasks.{Rest, evaluating, locating, addressing, passing}
use Rattle.c_tasks.proofs.Sequences.{then_alike, one_part, two_parts, one_part_and, two_parts_and}
use Rattle.c_code.specs.Expressions.{variable_of, argument_count, reading, choosing, truth_code, place_code, address_code, value_code, arguments_code}
use Rattle.c_code.specs.Initializers.{Counts}
use Rattle.c_code.specs.declared.instructions.Unary.{Unary}
use Rattle.c_code.specs.declared.instructions.Unary.TheVariants as One
use Rattle.c_code.specs.declared.instructions.Binary.{Binary}
use Rattle.c_code.specs.declared.instructions.Binary.TheVariants as Two
use Rattle.c_code.specs.declared.instructions.When.TheVariants as W
use Rattle.c_code.specs.declared.instructions.Instruction.{Instruction}
use Rattle.c_code.specs.declared.instructions.Instruction.TheVariants as I
use Rattle.code_laws.specs.Effects.{effect, unary_result, binary_result, last_values, without_values}
use Rattle.code_laws.specs.Stands.{Spans, Stands, jumping}
use Rattle.code_laws.proofs.Spanning.{split, alike, one, choice}

-- ---- arguments

abbrev pub Gives : {A : Type 0} → (A → Type 0) → Outcome ℕ A → Type 0
Gives P (Done a s) = P a
Gives P (Returning n store x) = Unit {0}
Gives P (Trapped why x) = Unit {0}
Gives P Cut = Unit {0}
Gives P Deep = Unit {0}

one_more : (o : Outcome ℕ (List Value)) (v : Value) (n : ℕ) → Gives (λ vs. length vs ≡ n) o → Gives (λ vs. length vs ≡ suc n) (go_on (λ vs. give (v ∷ vs)) o)
one_more (Done vs s) v n h = ap suc h
one_more (Returning m store x) v n h = tt
one_more (Trapped why x) v n h = tt
one_more Cut v n h = tt
one_more Deep v n h = tt

first_more : (o : Outcome ℕ Value) (rest : Doing ℕ (List Value)) (n : ℕ) → ((s : State ℕ) → Gives (λ vs. length vs ≡ n) (rest s)) → Gives (λ vs. length vs ≡ suc n) (go_on (λ v. and_then rest (λ vs. give (v ∷ vs))) o)
first_more (Done v s) rest n h = one_more (rest s) v n (h s)
first_more (Returning m store x) rest n h = tt
first_more (Trapped why x) rest n h = tt
first_more Cut rest n h = tt
first_more Deep rest n h = tt

pub as_many : (program : Program) (d : ℕ) (arguments : Arguments) (s : State ℕ) → Gives (λ vs. length vs ≡ argument_count arguments) (values_of program (stepping program d) arguments s)
as_many program d no_arguments s = refl
as_many program d (argument e rest) s =
    first_more (value_of program (stepping program d) e s) (values_of program (stepping program d) rest) (argument_count rest) (as_many program d rest)

pub alike_where : {A B : Type 0} (P : A → Type 0) (o : Outcome ℕ A) (f g : A → Doing ℕ B) → Gives P o → ((a : A) (s : State ℕ) → P a → f a s ≡ g a s) → go_on f o ≡ go_on g o
alike_where P (Done a s) f g p h = h a s p
alike_where P (Returning n store x) f g p h = refl
alike_where P (Trapped why x) f g p h = refl
alike_where P Cut f g p h = refl
alike_where P Deep f g p h = refl

-- ---- values on top of others

pub reversed_on : (vs below : List Value) → onto vs below ≡ reverse vs ++ below
reversed_on [] below = refl
reversed_on (v ∷ vs) below = reversed_on vs (v ∷ below) ∙ sym (append_assoc (reverse vs) (v ∷ []) below) ∙ ap (λ l. l ++ below) (sym (reverse-append (v ∷ []) vs))

pub last_of : (vs below : List Value) (count : ℕ) → length vs ≡ count → reverse (take count (onto vs below)) ≡ vs
last_of vs below count e =
    ap (λ n. reverse (take n (onto vs below))) (sym e ∙ sym (length-reverse vs)) ∙ ap (λ l. reverse (take (length (reverse vs)) l)) (reversed_on vs below)
    ∙ ap reverse (take-append_seam (reverse vs) below) ∙ reverse-reverse vs

pub below_of : (vs below : List Value) (count : ℕ) → length vs ≡ count → drop count (onto vs below) ≡ below
below_of vs below count e =
    ap (λ n. drop n (onto vs below)) (sym e ∙ sym (length-reverse vs)) ∙ ap (drop (length (reverse vs))) (reversed_on vs below) ∙ drop-append_seam (reverse vs) below

-- ---- choices

pub chosen : {A B : Type 0} (b : Bool) (x y : Doing ℕ A) (next : A → Doing ℕ B) (near far : Doing ℕ B) (s : State ℕ) → and_then x next s ≡ near s → and_then y next s ≡ far s →
    and_then (if b then x else y) next s ≡ (if b then near else far) s
chosen true x y next near far s e f = e
chosen false x y next near far s e f = f

-- ---- variables

abbrev pub or_this : Variable → Option Variable → Variable
or_this variable (Some other) = other
or_this variable None = variable

abbrev pub is_none : {A : Type 0} → Option A → Type 0
is_none None = Unit {0}
is_none (Some a) = ⊥

module _ (program : Program) (d : ℕ) (counts : Counts) (code : List Instruction) where
  abbrev S : ℕ → ℕ → ℕ → Rest → Type 0
  S pc h p k = Stands program d counts code pc h p k

  reads : (lvalue : LvalueExpression) (o : Option Variable) → o ≡ variable_of lvalue → (slot place from to : ℕ) (next : Rest) →
      ((middle : ℕ) (k : Rest) → Spans code from middle (place_code lvalue slot place) → S middle slot (suc place) k → S from slot place (locating program d lvalue k)) →
      Spans code from to (reading o slot place (place_code lvalue slot place)) → S to (suc slot) place next → S from slot place (evaluating program d (value_at lvalue) next)
  reads lvalue None e slot place from to next located spans after =
      let parts = split code from to (place_code lvalue slot place) (I.Load place slot ∷ []) spans in
      alike program d counts code from slot place (locating program d lvalue (effect program d (I.Load place slot) next)) (evaluating program d (value_at lvalue) next)
      (λ on s. sym (one_part (place_of program (stepping program d) lvalue) (looked_up program) (λ v. next (with_value v on)) s))
      (located parts.0 (effect program d (I.Load place slot) next) parts.1 (one program d counts code (I.Load place slot) parts.2 (refl, refl, refl, refl) (λ on s. refl) after))
  reads (identifier variable) (Some other) e slot place from to next located spans after =
      let same : other ≡ variable = ap (or_this other) e in
      one program d counts code (I.Read variable slot) (subst (λ v. Spans code from to (I.Read v slot ∷ [])) same spans) (refl, refl, refl) (λ on s. refl) after
  reads (element array index count size) (Some other) e slot place from to next located spans after = absurd (subst is_none (sym e) tt)
  reads (member aggregate field cell) (Some other) e slot place from to next located spans after = absurd (subst is_none (sym e) tt)
  reads (dereference pointer pointee) (Some other) e slot place from to next located spans after = absurd (subst is_none (sym e) tt)
  reads (subscript pointer index pointee size) (Some other) e slot place from to next located spans after = absurd (subst is_none (sym e) tt)
  reads (arrow pointer structure field cell) (Some other) e slot place from to next located spans after = absurd (subst is_none (sym e) tt)

  -- two operands and an operation on them
  two : (e a b : Expression) (op : Binary) (slot place from to : ℕ) (next : Rest) →
      ((s : State ℕ) → value_of program (stepping program d) e s ≡ and_then (value_of program (stepping program d) a) (λ v. and_then (value_of program (stepping program d) b) (λ w. unless_trapped (binary_result program op v w))) s) →
      ((middle : ℕ) (k : Rest) → Spans code from middle (value_code a slot place) → S middle (suc slot) place k → S from slot place (evaluating program d a k)) →
      ((start middle : ℕ) (k : Rest) → Spans code start middle (value_code b (suc slot) place) → S middle (suc (suc slot)) place k → S start (suc slot) place (evaluating program d b k)) →
      Spans code from to (value_code a slot place ++ (value_code b (suc slot) place ++ I.Binary op slot ∷ [])) → S to (suc slot) place next → S from slot place (evaluating program d e next)
  two e a b op slot place from to next is on_a on_b spans after =
      let first = split code from to (value_code a slot place) _ spans in
      let second = split code first.0 to (value_code b (suc slot) place) (I.Binary op slot ∷ []) first.2 in
      let last = effect program d (I.Binary op slot) next in
      alike program d counts code from slot place (evaluating program d a (evaluating program d b last)) (evaluating program d e next)
      (λ on s. ap (go_on (λ v. next (with_value v on))) (is s)
      ∙ sym (two_parts (value_of program (stepping program d) a) (value_of program (stepping program d) b) (λ v w. unless_trapped (binary_result program op v w)) (λ v. next (with_value v on)) s))
      (on_a first.0 (evaluating program d b last) first.1 (on_b first.0 second.0 last second.1 (one program d counts code (I.Binary op slot) second.2 (refl, refl, refl) (λ on s. refl) after)))

  -- one operand and an operation on it
  unary : (e a : Expression) (op : Unary) (slot place from to : ℕ) (next : Rest) →
      ((s : State ℕ) → value_of program (stepping program d) e s ≡ and_then (value_of program (stepping program d) a) (λ v. unless_trapped (unary_result program op v)) s) →
      ((middle : ℕ) (k : Rest) → Spans code from middle (value_code a slot place) → S middle (suc slot) place k → S from slot place (evaluating program d a k)) →
      Spans code from to (value_code a slot place ++ I.Unary op slot ∷ []) → S to (suc slot) place next → S from slot place (evaluating program d e next)
  unary e a op slot place from to next is on_a spans after =
      let first = split code from to (value_code a slot place) (I.Unary op slot ∷ []) spans in
      let last = effect program d (I.Unary op slot) next in
      alike program d counts code from slot place (evaluating program d a last) (evaluating program d e next)
      (λ on s. ap (go_on (λ v. next (with_value v on))) (is s)
      ∙ sym (one_part (value_of program (stepping program d) a) (λ v. unless_trapped (unary_result program op v)) (λ v. next (with_value v on)) s))
      (on_a first.0 last first.1 (one program d counts code (I.Unary op slot) first.2 (refl, refl, refl) (λ on s. refl) after))

  -- the value of a side of `&&` and `||` as a number
  truth_of : (b : Expression) (slot place from to : ℕ) (next : Rest) →
      ((middle : ℕ) (k : Rest) → Spans code from middle (value_code b slot place) → S middle (suc slot) place k → S from slot place (evaluating program d b k)) →
      Spans code from to (value_code b slot place ++ I.Unary One.Truth slot ∷ []) → S to (suc slot) place next → S from slot place (evaluating program d b (effect program d (I.Unary One.Truth slot) next))
  truth_of b slot place from to next on_b spans after =
      let first = split code from to (value_code b slot place) (I.Unary One.Truth slot ∷ []) spans in
      on_b first.0 (effect program d (I.Unary One.Truth slot) next) first.1 (one program d counts code (I.Unary One.Truth slot) first.2 (refl, refl, refl) (λ on s. refl) after)

  -- a call takes its arguments
  called : (function count : ℕ) (vs : List Value) (on : Operands) (next : Rest) (t : State ℕ) → length vs ≡ count →
      and_then (and_then ((stepping program d).call function vs) (λ result. give (result_value result))) (λ v. next (with_value v on)) t
      ≡ and_then ((stepping program d).call function (last_values count (with_values vs on))) (λ result. next (with_value (result_value result) (without_values count (with_values vs on)))) t
  called function count vs on next t number =
      sym (one_part ((stepping program d).call function vs) (λ result. give (result_value result)) (λ v. next (with_value v on)) t)
      ∙ ap (λ ws. and_then ((stepping program d).call function ws) (λ result. next (with_value (result_value result) on)) t) (sym (last_of vs on.values count number))
      ∙ ap (λ below. and_then ((stepping program d).call function (last_values count (with_values vs on))) (λ result. next (record { values = result_value result ∷ below; places = on.places; manner = on.manner; zeros = on.zeros })) t) (sym (below_of vs on.values count number))

  mutual
    pub place_stands : (l : LvalueExpression) (slot place from to : ℕ) (next : Rest) → Spans code from to (place_code l slot place) → S to slot (suc place) next → S from slot place (locating program d l next)
    place_stands (identifier variable) slot place from to next spans after = one program d counts code (I.Place variable place) spans (refl, refl, refl) (λ on s. refl) after
    place_stands (element array index count size) slot place from to next spans after =
        let first = split code from to (place_code array slot place) _ spans in
        let second = split code first.0 to (value_code index slot (suc place)) (I.Element count size place slot ∷ []) first.2 in
        let last = effect program d (I.Element count size place slot) next in
        alike program d counts code from slot place (locating program d array (evaluating program d index last)) (locating program d (element array index count size) next)
        (λ on s. sym (two_parts (place_of program (stepping program d) array) (value_of program (stepping program d) index) (λ q i. unless_trapped (element_at q (number_of i).value count size)) (λ q. next (with_place q on)) s))
        (place_stands array slot place from first.0 (evaluating program d index last) first.1
        (value_stands index slot (suc place) first.0 second.0 last second.1 (one program d counts code (I.Element count size place slot) second.2 (refl, refl, refl, refl) (λ on s. refl) after)))
    place_stands (member aggregate field cell) slot place from to next spans after =
        let first = split code from to (place_code aggregate slot place) (I.Member cell place ∷ []) spans in
        let last = effect program d (I.Member cell place) next in
        alike program d counts code from slot place (locating program d aggregate last) (locating program d (member aggregate field cell) next)
        (λ on s. sym (one_part (place_of program (stepping program d) aggregate) (λ q. give (beyond cell q)) (λ q. next (with_place q on)) s))
        (place_stands aggregate slot place from first.0 last first.1 (one program d counts code (I.Member cell place) first.2 (refl, refl, refl) (λ on s. refl) after))
    place_stands (dereference pointer pointee) slot place from to next spans after =
        let first = split code from to (value_code pointer slot place) (I.Aim pointee place slot ∷ []) spans in
        let last = effect program d (I.Aim pointee place slot) next in
        alike program d counts code from slot place (evaluating program d pointer last) (locating program d (dereference pointer pointee) next)
        (λ on s. sym (one_part (value_of program (stepping program d) pointer) (λ v. unless_trapped (target program pointee v)) (λ q. next (with_place q on)) s))
        (value_stands pointer slot place from first.0 last first.1 (one program d counts code (I.Aim pointee place slot) first.2 (refl, refl, refl, refl) (λ on s. refl) after))
    place_stands (subscript pointer index pointee size) slot place from to next spans after =
        let first = split code from to (value_code pointer slot place) _ spans in
        let second = split code first.0 to (value_code index (suc slot) place) (I.Binary (Two.Forward size) slot ∷ I.Aim pointee place slot ∷ []) first.2 in
        let third = split code second.0 to (I.Binary (Two.Forward size) slot ∷ []) (I.Aim pointee place slot ∷ []) second.2 in
        let last = effect program d (I.Aim pointee place slot) next in
        let moving = effect program d (I.Binary (Two.Forward size) slot) last in
        alike program d counts code from slot place (evaluating program d pointer (evaluating program d index moving)) (locating program d (subscript pointer index pointee size) next)
        (λ on s. sym (two_parts_and (value_of program (stepping program d) pointer) (value_of program (stepping program d) index) (λ v i. unless_trapped (moved program v (times i size))) (λ w. unless_trapped (target program pointee w)) (λ q. next (with_place q on)) s))
        (value_stands pointer slot place from first.0 (evaluating program d index moving) first.1
        (value_stands index (suc slot) place first.0 second.0 moving second.1
        (one program d counts code (I.Binary (Two.Forward size) slot) third.1 (refl, refl, refl) (λ on s. refl)
        (one program d counts code (I.Aim pointee place slot) third.2 (refl, refl, refl, refl) (λ on s. refl) after))))
    place_stands (arrow pointer structure field cell) slot place from to next spans after =
        let first = split code from to (value_code pointer slot place) (I.Aim (P.Struct structure) place slot ∷ I.Member cell place ∷ []) spans in
        let second = split code first.0 to (I.Aim (P.Struct structure) place slot ∷ []) (I.Member cell place ∷ []) first.2 in
        let last = effect program d (I.Member cell place) next in
        let aiming_at = effect program d (I.Aim (P.Struct structure) place slot) last in
        alike program d counts code from slot place (evaluating program d pointer aiming_at) (locating program d (arrow pointer structure field cell) next)
        (λ on s. sym (one_part_and (value_of program (stepping program d) pointer) (λ v. unless_trapped (target program (P.Struct structure) v)) (λ q. give (beyond cell q)) (λ q. next (with_place q on)) s))
        (value_stands pointer slot place from first.0 aiming_at first.1
        (one program d counts code (I.Aim (P.Struct structure) place slot) second.1 (refl, refl, refl, refl) (λ on s. refl)
        (one program d counts code (I.Member cell place) second.2 (refl, refl, refl) (λ on s. refl) after)))

    address_stands : (l : LvalueExpression) (slot place from to : ℕ) (next : Rest) → Spans code from to (address_code l slot place) → S to (suc slot) place next → S from slot place (addressing program d l next)
    address_stands (identifier variable) slot place from to next spans after =
        let first = split code from to (I.Place variable place ∷ []) (I.Point place slot ∷ []) spans in
        let last = effect program d (I.Point place slot) next in
        one program d counts code (I.Place variable place) first.1 (refl, refl, refl) (λ on s. refl) (one program d counts code {k = last} (I.Point place slot) first.2 (refl, refl, refl, refl) (λ on s. refl) after)
    address_stands (element array index count size) slot place from to next spans after =
        let first = split code from to (place_code array slot place) _ spans in
        let second = split code first.0 to (value_code index slot (suc place)) (I.ElementAddress size place slot ∷ []) first.2 in
        let last = effect program d (I.ElementAddress size place slot) next in
        alike program d counts code from slot place (locating program d array (evaluating program d index last)) (addressing program d (element array index count size) next)
        (λ on s. sym (two_parts (place_of program (stepping program d) array) (value_of program (stepping program d) index) (λ q i. unless_trapped (moved program (pointer_to q) (times i size))) (λ v. next (with_value v on)) s))
        (place_stands array slot place from first.0 (evaluating program d index last) first.1
        (value_stands index slot (suc place) first.0 second.0 last second.1 (one program d counts code (I.ElementAddress size place slot) second.2 (refl, refl, refl, refl) (λ on s. refl) after)))
    address_stands (member aggregate field cell) slot place from to next spans after =
        let first = split code from to (place_code aggregate slot place) (I.Member cell place ∷ I.Point place slot ∷ []) spans in
        let second = split code first.0 to (I.Member cell place ∷ []) (I.Point place slot ∷ []) first.2 in
        let last = effect program d (I.Point place slot) next in
        let further = effect program d (I.Member cell place) last in
        alike program d counts code from slot place (locating program d aggregate further) (addressing program d (member aggregate field cell) next)
        (λ on s. sym (one_part (place_of program (stepping program d) aggregate) (λ q. give (pointer_to (beyond cell q))) (λ v. next (with_value v on)) s))
        (place_stands aggregate slot place from first.0 further first.1
        (one program d counts code (I.Member cell place) second.1 (refl, refl, refl) (λ on s. refl)
        (one program d counts code (I.Point place slot) second.2 (refl, refl, refl, refl) (λ on s. refl) after)))
    address_stands (dereference pointer pointee) slot place from to next spans after = value_stands pointer slot place from to next spans after
    address_stands (subscript pointer index pointee size) slot place from to next spans after =
        let first = split code from to (value_code pointer slot place) _ spans in
        let second = split code first.0 to (value_code index (suc slot) place) (I.Binary (Two.Forward size) slot ∷ []) first.2 in
        let moving = effect program d (I.Binary (Two.Forward size) slot) next in
        alike program d counts code from slot place (evaluating program d pointer (evaluating program d index moving)) (addressing program d (subscript pointer index pointee size) next)
        (λ on s. sym (two_parts (value_of program (stepping program d) pointer) (value_of program (stepping program d) index) (λ v i. unless_trapped (moved program v (times i size))) (λ v. next (with_value v on)) s))
        (value_stands pointer slot place from first.0 (evaluating program d index moving) first.1
        (value_stands index (suc slot) place first.0 second.0 moving second.1 (one program d counts code (I.Binary (Two.Forward size) slot) second.2 (refl, refl, refl) (λ on s. refl) after)))
    address_stands (arrow pointer structure field cell) slot place from to next spans after =
        let first = split code from to (value_code pointer slot place) (I.Aim (P.Struct structure) place slot ∷ I.Member cell place ∷ I.Point place slot ∷ []) spans in
        let second = split code first.0 to (I.Aim (P.Struct structure) place slot ∷ []) (I.Member cell place ∷ I.Point place slot ∷ []) first.2 in
        let third = split code second.0 to (I.Member cell place ∷ []) (I.Point place slot ∷ []) second.2 in
        let last = effect program d (I.Point place slot) next in
        let further = effect program d (I.Member cell place) last in
        let aiming_at = effect program d (I.Aim (P.Struct structure) place slot) further in
        alike program d counts code from slot place (evaluating program d pointer aiming_at) (addressing program d (arrow pointer structure field cell) next)
        (λ on s. sym (one_part_and (value_of program (stepping program d) pointer) (λ v. unless_trapped (target program (P.Struct structure) v)) (λ q. give (pointer_to (beyond cell q))) (λ v. next (with_value v on)) s))
        (value_stands pointer slot place from first.0 aiming_at first.1
        (one program d counts code (I.Aim (P.Struct structure) place slot) second.1 (refl, refl, refl, refl) (λ on s. refl)
        (one program d counts code (I.Member cell place) third.1 (refl, refl, refl) (λ on s. refl)
        (one program d counts code (I.Point place slot) third.2 (refl, refl, refl, refl) (λ on s. refl) after))))

    pub value_stands : (e : Expression) (slot place from to : ℕ) (next : Rest) → Spans code from to (value_code e slot place) → S to (suc slot) place next → S from slot place (evaluating program d e next)
    value_stands (constant n) slot place from to next spans after = one program d counts code (I.Constant n slot) spans (refl, refl, refl) (λ on s. refl) after
    value_stands null_pointer slot place from to next spans after = one program d counts code (I.Null slot) spans (refl, refl, refl) (λ on s. refl) after
    value_stands (value_at lvalue) slot place from to next spans after =
        reads lvalue (variable_of lvalue) refl slot place from to next (λ middle k. place_stands lvalue slot place from middle k) spans after
    value_stands (address lvalue) slot place from to next spans after = address_stands lvalue slot place from to next spans after
    value_stands (decay lvalue) slot place from to next spans after =
        let first = split code from to (place_code lvalue slot place) (I.Point place slot ∷ []) spans in
        let last = effect program d (I.Point place slot) next in
        alike program d counts code from slot place (locating program d lvalue last) (evaluating program d (decay lvalue) next)
        (λ on s. sym (one_part (place_of program (stepping program d) lvalue) (λ q. give (pointer_to q)) (λ v. next (with_value v on)) s))
        (place_stands lvalue slot place from first.0 last first.1 (one program d counts code (I.Point place slot) first.2 (refl, refl, refl, refl) (λ on s. refl) after))
    value_stands (cast kind e) slot place from to next spans after =
        unary (cast kind e) e (One.Convert kind) slot place from to next (λ s. refl) (λ middle k. value_stands e slot place from middle k) spans after
    value_stands (plus e) slot place from to next spans after = value_stands e slot place from to next spans after
    value_stands (minus e) slot place from to next spans after =
        unary (minus e) e (One.Number U.Minus) slot place from to next (λ s. refl) (λ middle k. value_stands e slot place from middle k) spans after
    value_stands (complement e) slot place from to next spans after =
        unary (complement e) e (One.Number U.Flip) slot place from to next (λ s. refl) (λ middle k. value_stands e slot place from middle k) spans after
    value_stands (negation e) slot place from to next spans after =
        unary (negation e) e One.Not slot place from to next (λ s. refl) (λ middle k. value_stands e slot place from middle k) spans after
    value_stands (binary op a b) slot place from to next spans after =
        two (binary op a b) a b (Two.Numbers op) slot place from to next (λ s. refl) (λ middle k. value_stands a slot place from middle k) (λ start middle k. value_stands b (suc slot) place start middle k) spans after
    value_stands (equal_pointers a b) slot place from to next spans after =
        two (equal_pointers a b) a b Two.SamePointer slot place from to next (λ s. refl) (λ middle k. value_stands a slot place from middle k) (λ start middle k. value_stands b (suc slot) place start middle k) spans after
    value_stands (unequal_pointers a b) slot place from to next spans after =
        two (unequal_pointers a b) a b Two.OtherPointer slot place from to next (λ s. refl) (λ middle k. value_stands a slot place from middle k) (λ start middle k. value_stands b (suc slot) place start middle k) spans after
    value_stands (pointer_plus a b size) slot place from to next spans after =
        two (pointer_plus a b size) a b (Two.Forward size) slot place from to next (λ s. refl) (λ middle k. value_stands a slot place from middle k) (λ start middle k. value_stands b (suc slot) place start middle k) spans after
    value_stands (plus_pointer a b size) slot place from to next spans after =
        two (plus_pointer a b size) a b (Two.ForwardFrom size) slot place from to next (λ s. refl) (λ middle k. value_stands a slot place from middle k) (λ start middle k. value_stands b (suc slot) place start middle k) spans after
    value_stands (pointer_minus a b size) slot place from to next spans after =
        two (pointer_minus a b size) a b (Two.Backward size) slot place from to next (λ s. refl) (λ middle k. value_stands a slot place from middle k) (λ start middle k. value_stands b (suc slot) place start middle k) spans after
    value_stands (logical_and a b) slot place from to next spans after =
        let first = split code from to (value_code a slot place) (choosing slot (value_code b slot place ++ I.Unary One.Truth slot ∷ []) (truth_code 0 slot ∷ [])) spans in
        let near = evaluating program d b (effect program d (I.Unary One.Truth slot) next) in
        let far = effect program d (truth_code 0 slot) next in
        alike program d counts code from slot place (evaluating program d a (jumping (W.Unless slot) near far)) (evaluating program d (logical_and a b) next)
        (λ on s. sym (one_part (value_of program (stepping program d) a) _ (λ v. next (with_value v on)) s)
        ∙ then_alike (value_of program (stepping program d) a s) _ _ (λ v t. chosen (holds v) _ _ (λ v. next (with_value v on)) (near on) (far on) t (sym (one_part (value_of program (stepping program d) b) (λ w. give (truth_value (holds w))) (λ v. next (with_value v on)) t)) refl))
        (value_stands a slot place from first.0 (jumping (W.Unless slot) near far) first.1
        (choice program d counts code slot (suc slot) place first.0 to (value_code b slot place ++ I.Unary One.Truth slot ∷ []) (truth_code 0 slot ∷ []) near far next first.2
        (λ middle spans after. truth_of b slot place (suc first.0) middle next (λ m k. value_stands b slot place (suc first.0) m k) spans after)
        (λ middle spans. one program d counts code (truth_code 0 slot) spans (refl, refl, refl) (λ on s. refl) after) after))
    value_stands (logical_or a b) slot place from to next spans after =
        let first = split code from to (value_code a slot place) (choosing slot (truth_code 1 slot ∷ []) (value_code b slot place ++ I.Unary One.Truth slot ∷ [])) spans in
        let far = evaluating program d b (effect program d (I.Unary One.Truth slot) next) in
        let near = effect program d (truth_code 1 slot) next in
        alike program d counts code from slot place (evaluating program d a (jumping (W.Unless slot) near far)) (evaluating program d (logical_or a b) next)
        (λ on s. sym (one_part (value_of program (stepping program d) a) _ (λ v. next (with_value v on)) s)
        ∙ then_alike (value_of program (stepping program d) a s) _ _ (λ v t. chosen (holds v) _ _ (λ v. next (with_value v on)) (near on) (far on) t refl (sym (one_part (value_of program (stepping program d) b) (λ w. give (truth_value (holds w))) (λ v. next (with_value v on)) t))))
        (value_stands a slot place from first.0 (jumping (W.Unless slot) near far) first.1
        (choice program d counts code slot (suc slot) place first.0 to (truth_code 1 slot ∷ []) (value_code b slot place ++ I.Unary One.Truth slot ∷ []) near far next first.2
        (λ middle spans after. one program d counts code (truth_code 1 slot) spans (refl, refl, refl) (λ on s. refl) after)
        (λ middle spans. truth_of b slot place middle to next (λ m k. value_stands b slot place middle m k) spans after) after))
    value_stands (conditional test a b) slot place from to next spans after =
        let first = split code from to (value_code test slot place) (choosing slot (value_code a slot place) (value_code b slot place)) spans in
        let near = evaluating program d a next in
        let far = evaluating program d b next in
        alike program d counts code from slot place (evaluating program d test (jumping (W.Unless slot) near far)) (evaluating program d (conditional test a b) next)
        (λ on s. sym (one_part (value_of program (stepping program d) test) _ (λ v. next (with_value v on)) s)
        ∙ then_alike (value_of program (stepping program d) test s) _ _ (λ v t. chosen (holds v) _ _ (λ v. next (with_value v on)) (near on) (far on) t refl refl))
        (value_stands test slot place from first.0 (jumping (W.Unless slot) near far) first.1
        (choice program d counts code slot (suc slot) place first.0 to (value_code a slot place) (value_code b slot place) near far next first.2
        (λ middle spans after. value_stands a slot place (suc first.0) middle next spans after)
        (λ middle spans. value_stands b slot place middle to next spans after) after))
    value_stands (call function arguments) slot place from to next spans after =
        let first = split code from to (arguments_code arguments slot place) (I.Call function slot (argument_count arguments) ∷ []) spans in
        let last = effect program d (I.Call function slot (argument_count arguments)) next in
        alike program d counts code from slot place (passing program d arguments last) (evaluating program d (call function arguments) next)
        (λ on s. sym (one_part (values_of program (stepping program d) arguments) _ (λ v. next (with_value v on)) s)
        ∙ alike_where (λ vs. length vs ≡ argument_count arguments) (values_of program (stepping program d) arguments s) _ _ (as_many program d arguments s) (λ vs t number. called function (argument_count arguments) vs on next t number))
        (arguments_stand arguments slot place from first.0 last first.1 (one program d counts code (I.Call function slot (argument_count arguments)) first.2 (refl, refl, refl) (λ on s. refl) after))

    pub arguments_stand : (arguments : Arguments) (slot place from to : ℕ) (next : Rest) → Spans code from to (arguments_code arguments slot place) → S to (slot + argument_count arguments) place next → S from slot place (passing program d arguments next)
    arguments_stand no_arguments slot place from to next spans after =
        let level : slot + 0 ≡ slot = omega arith in
        subst (λ h. S from h place next) level (subst (λ n. S n (slot + 0) place next) (sym spans) after)
    arguments_stand (argument e rest) slot place from to next spans after =
        let first = split code from to (value_code e slot place) (arguments_code rest (suc slot) place) spans in
        let level : slot + suc (argument_count rest) ≡ suc slot + argument_count rest = omega arith in
        alike program d counts code from slot place (evaluating program d e (passing program d rest next)) (passing program d (argument e rest) next)
        (λ on s. sym (two_parts (value_of program (stepping program d) e) (values_of program (stepping program d) rest) (λ v vs. give (v ∷ vs)) (λ vs. next (with_values vs on)) s))
        (value_stands e slot place from first.0 (passing program d rest next) first.1
        (arguments_stand rest (suc slot) place first.0 to next first.2 (subst (λ h. S to h place next) level after)))
