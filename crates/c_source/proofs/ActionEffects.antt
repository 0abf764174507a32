-- Written by tools/effects.py: each action finds the values that it takes, and leaves those that it gives.
use Rattle.std.proofs.Common.{◌≡◌, ℕ, zero, suc, List, [], ◌∷◌, refl, ap, Option, Some, None}
use Rattle.rvt_tree.specs.declared.places.Place.{Place}
use Rattle.c_tokens.specs.declared.tokens.TokenClass.{TokenClass}
use Rattle.c_grammar.specs.declared.grammar.Action.{Action}
use Rattle.c_grammar.specs.declared.grammar.Action.TheVariants as action
use Rattle.stack_effects.specs.Effects.{less, more}
use Rattle.file_actions.specs.Made.{made}
use Rattle.file_actions.specs.Stacks.{Values}
use Rattle.c_source.specs.EffectsHold.{times, stack_number}
use Rattle.c_source.specs.Sizes.{count, size}
use Rattle.c_source.specs.StackEffects.{Stack, Kept, Expressions, Arguments, Types, Bases, Pointers, Dimensions, Declarators, Parameters, Statements, Declarations, Initializers, Braced, Parts, Actions, Starts, Tests, Steps, Groups, Labels, Label, taken, given}

-- what an action takes stands on the stacks, and this is left of them
abbrev pub Has : Action → Values → (Stack → ℕ) → Type 0
Has a v left = (i : Stack) → less (times i (taken a)) (size v i) ≡ Some (left i)

-- something was made, and the stacks hold so much
abbrev pub Gives : Option Values → (Stack → ℕ) → Type 0
Gives None after = ⊥
Gives (Some v) after = (i : Stack) → size v i ≡ after i

-- what an action gives stands on the stacks too
abbrev pub after : Action → (Stack → ℕ) → Stack → ℕ
after a left i = more (times i (given a)) (left i)

some_is : {X : Type 0} {x y : X} → Some x ≡ Some y → x ≡ y
some_is h = cc

by_stack : (f g : Stack → ℕ) → f Kept ≡ g Kept → f Expressions ≡ g Expressions → f Arguments ≡ g Arguments → f Types ≡ g Types → f Bases ≡ g Bases → f Pointers ≡ g Pointers → f Dimensions ≡ g Dimensions → f Declarators ≡ g Declarators → f Parameters ≡ g Parameters → f Statements ≡ g Statements → f Declarations ≡ g Declarations → f Initializers ≡ g Initializers → f Braced ≡ g Braced → f Parts ≡ g Parts → f Actions ≡ g Actions → f Starts ≡ g Starts → f Tests ≡ g Tests → f Steps ≡ g Steps → f Groups ≡ g Groups → f Labels ≡ g Labels → f Label ≡ g Label → (i : Stack) → f i ≡ g i
by_stack f g x0 x1 x2 x3 x4 x5 x6 x7 x8 x9 x10 x11 x12 x13 x14 x15 x16 x17 x18 x19 x20 Kept = x0
by_stack f g x0 x1 x2 x3 x4 x5 x6 x7 x8 x9 x10 x11 x12 x13 x14 x15 x16 x17 x18 x19 x20 Expressions = x1
by_stack f g x0 x1 x2 x3 x4 x5 x6 x7 x8 x9 x10 x11 x12 x13 x14 x15 x16 x17 x18 x19 x20 Arguments = x2
by_stack f g x0 x1 x2 x3 x4 x5 x6 x7 x8 x9 x10 x11 x12 x13 x14 x15 x16 x17 x18 x19 x20 Types = x3
by_stack f g x0 x1 x2 x3 x4 x5 x6 x7 x8 x9 x10 x11 x12 x13 x14 x15 x16 x17 x18 x19 x20 Bases = x4
by_stack f g x0 x1 x2 x3 x4 x5 x6 x7 x8 x9 x10 x11 x12 x13 x14 x15 x16 x17 x18 x19 x20 Pointers = x5
by_stack f g x0 x1 x2 x3 x4 x5 x6 x7 x8 x9 x10 x11 x12 x13 x14 x15 x16 x17 x18 x19 x20 Dimensions = x6
by_stack f g x0 x1 x2 x3 x4 x5 x6 x7 x8 x9 x10 x11 x12 x13 x14 x15 x16 x17 x18 x19 x20 Declarators = x7
by_stack f g x0 x1 x2 x3 x4 x5 x6 x7 x8 x9 x10 x11 x12 x13 x14 x15 x16 x17 x18 x19 x20 Parameters = x8
by_stack f g x0 x1 x2 x3 x4 x5 x6 x7 x8 x9 x10 x11 x12 x13 x14 x15 x16 x17 x18 x19 x20 Statements = x9
by_stack f g x0 x1 x2 x3 x4 x5 x6 x7 x8 x9 x10 x11 x12 x13 x14 x15 x16 x17 x18 x19 x20 Declarations = x10
by_stack f g x0 x1 x2 x3 x4 x5 x6 x7 x8 x9 x10 x11 x12 x13 x14 x15 x16 x17 x18 x19 x20 Initializers = x11
by_stack f g x0 x1 x2 x3 x4 x5 x6 x7 x8 x9 x10 x11 x12 x13 x14 x15 x16 x17 x18 x19 x20 Braced = x12
by_stack f g x0 x1 x2 x3 x4 x5 x6 x7 x8 x9 x10 x11 x12 x13 x14 x15 x16 x17 x18 x19 x20 Parts = x13
by_stack f g x0 x1 x2 x3 x4 x5 x6 x7 x8 x9 x10 x11 x12 x13 x14 x15 x16 x17 x18 x19 x20 Actions = x14
by_stack f g x0 x1 x2 x3 x4 x5 x6 x7 x8 x9 x10 x11 x12 x13 x14 x15 x16 x17 x18 x19 x20 Starts = x15
by_stack f g x0 x1 x2 x3 x4 x5 x6 x7 x8 x9 x10 x11 x12 x13 x14 x15 x16 x17 x18 x19 x20 Tests = x16
by_stack f g x0 x1 x2 x3 x4 x5 x6 x7 x8 x9 x10 x11 x12 x13 x14 x15 x16 x17 x18 x19 x20 Steps = x17
by_stack f g x0 x1 x2 x3 x4 x5 x6 x7 x8 x9 x10 x11 x12 x13 x14 x15 x16 x17 x18 x19 x20 Groups = x18
by_stack f g x0 x1 x2 x3 x4 x5 x6 x7 x8 x9 x10 x11 x12 x13 x14 x15 x16 x17 x18 x19 x20 Labels = x19
by_stack f g x0 x1 x2 x3 x4 x5 x6 x7 x8 x9 x10 x11 x12 x13 x14 x15 x16 x17 x18 x19 x20 Label = x20

-- a list with one, two or three members at least
record First {X : Type 0} (xs : List X) (n : ℕ) : Type 0 where
  one : X
  rest : List X
  is : xs ≡ one ∷ rest
  counted : count rest ≡ n

record Two {X : Type 0} (xs : List X) (n : ℕ) : Type 0 where
  one : X
  two : X
  rest : List X
  is : xs ≡ one ∷ two ∷ rest
  counted : count rest ≡ n

record Three {X : Type 0} (xs : List X) (n : ℕ) : Type 0 where
  one : X
  two : X
  three : X
  rest : List X
  is : xs ≡ one ∷ two ∷ three ∷ rest
  counted : count rest ≡ n

first_of : {X : Type 0} (xs : List X) (n : ℕ) → less 1 (count xs) ≡ Some n → First xs n
first_of [] n h = absurd cc
first_of (x ∷ xs) n h = record { one = x; rest = xs; is = refl; counted = some_is h }

two_of : {X : Type 0} (xs : List X) (n : ℕ) → less 2 (count xs) ≡ Some n → Two xs n
two_of [] n h = absurd cc
two_of (x ∷ []) n h = absurd cc
two_of (x ∷ y ∷ xs) n h = record { one = x; two = y; rest = xs; is = refl; counted = some_is h }

three_of : {X : Type 0} (xs : List X) (n : ℕ) → less 3 (count xs) ≡ Some n → Three xs n
three_of [] n h = absurd cc
three_of (x ∷ []) n h = absurd cc
three_of (x ∷ y ∷ []) n h = absurd cc
three_of (x ∷ y ∷ z ∷ xs) n h = record { one = x; two = y; three = z; rest = xs; is = refl; counted = some_is h }

pub on_Keep : (class : TokenClass) (text : List ℕ) (place : Place) (v : Values) (left : Stack → ℕ) → Has action.Keep v left → Gives (made action.Keep class text place v) (after action.Keep left)
unfolding times stack_number taken given
on_Keep class text place v left h =
    by_stack _ _ (ap suc (some_is (h Kept))) (some_is (h Expressions)) (some_is (h Arguments)) (some_is (h Types)) (some_is (h Bases)) (some_is (h Pointers)) (some_is (h Dimensions)) (some_is (h Declarators)) (some_is (h Parameters)) (some_is (h Statements)) (some_is (h Declarations)) (some_is (h Initializers)) (some_is (h Braced)) (some_is (h Parts)) (some_is (h Actions)) (some_is (h Starts)) (some_is (h Tests)) (some_is (h Steps)) (some_is (h Groups)) (some_is (h Labels)) (some_is (h Label))

pub on_Name : (class : TokenClass) (text : List ℕ) (place : Place) (v : Values) (left : Stack → ℕ) → Has action.Name v left → Gives (made action.Name class text place v) (after action.Name left)
unfolding times stack_number taken given
on_Name class text place v left h =
    let kept_now = first_of v.expressions.operands.kept (left Kept) (h Kept) in
    rw kept_now.is (by_stack _ _ kept_now.counted (ap suc (some_is (h Expressions))) (some_is (h Arguments)) (some_is (h Types)) (some_is (h Bases)) (some_is (h Pointers)) (some_is (h Dimensions)) (some_is (h Declarators)) (some_is (h Parameters)) (some_is (h Statements)) (some_is (h Declarations)) (some_is (h Initializers)) (some_is (h Braced)) (some_is (h Parts)) (some_is (h Actions)) (some_is (h Starts)) (some_is (h Tests)) (some_is (h Steps)) (some_is (h Groups)) (some_is (h Labels)) (some_is (h Label)))

pub on_Constant : (class : TokenClass) (text : List ℕ) (place : Place) (v : Values) (left : Stack → ℕ) → Has action.Constant v left → Gives (made action.Constant class text place v) (after action.Constant left)
unfolding times stack_number taken given
on_Constant class text place v left h =
    by_stack _ _ (some_is (h Kept)) (ap suc (some_is (h Expressions))) (some_is (h Arguments)) (some_is (h Types)) (some_is (h Bases)) (some_is (h Pointers)) (some_is (h Dimensions)) (some_is (h Declarators)) (some_is (h Parameters)) (some_is (h Statements)) (some_is (h Declarations)) (some_is (h Initializers)) (some_is (h Braced)) (some_is (h Parts)) (some_is (h Actions)) (some_is (h Starts)) (some_is (h Tests)) (some_is (h Steps)) (some_is (h Groups)) (some_is (h Labels)) (some_is (h Label))

pub on_NoArguments : (class : TokenClass) (text : List ℕ) (place : Place) (v : Values) (left : Stack → ℕ) → Has action.NoArguments v left → Gives (made action.NoArguments class text place v) (after action.NoArguments left)
unfolding times stack_number taken given
on_NoArguments class text place v left h =
    by_stack _ _ (some_is (h Kept)) (some_is (h Expressions)) (ap suc (some_is (h Arguments))) (some_is (h Types)) (some_is (h Bases)) (some_is (h Pointers)) (some_is (h Dimensions)) (some_is (h Declarators)) (some_is (h Parameters)) (some_is (h Statements)) (some_is (h Declarations)) (some_is (h Initializers)) (some_is (h Braced)) (some_is (h Parts)) (some_is (h Actions)) (some_is (h Starts)) (some_is (h Tests)) (some_is (h Steps)) (some_is (h Groups)) (some_is (h Labels)) (some_is (h Label))

pub on_AddArgument : (class : TokenClass) (text : List ℕ) (place : Place) (v : Values) (left : Stack → ℕ) → Has action.AddArgument v left → Gives (made action.AddArgument class text place v) (after action.AddArgument left)
unfolding times stack_number taken given
on_AddArgument class text place v left h =
    let expressions_now = first_of v.expressions.operands.expressions (left Expressions) (h Expressions) in
    let arguments_now = first_of v.expressions.operands.arguments (left Arguments) (h Arguments) in
    rw expressions_now.is (rw arguments_now.is (by_stack _ _ (some_is (h Kept)) expressions_now.counted (ap suc arguments_now.counted) (some_is (h Types)) (some_is (h Bases)) (some_is (h Pointers)) (some_is (h Dimensions)) (some_is (h Declarators)) (some_is (h Parameters)) (some_is (h Statements)) (some_is (h Declarations)) (some_is (h Initializers)) (some_is (h Braced)) (some_is (h Parts)) (some_is (h Actions)) (some_is (h Starts)) (some_is (h Tests)) (some_is (h Steps)) (some_is (h Groups)) (some_is (h Labels)) (some_is (h Label))))

pub on_Call : (class : TokenClass) (text : List ℕ) (place : Place) (v : Values) (left : Stack → ℕ) → Has action.Call v left → Gives (made action.Call class text place v) (after action.Call left)
unfolding times stack_number taken given
on_Call class text place v left h =
    let arguments_now = first_of v.expressions.operands.arguments (left Arguments) (h Arguments) in
    let kept_now = first_of v.expressions.operands.kept (left Kept) (h Kept) in
    rw arguments_now.is (rw kept_now.is (by_stack _ _ kept_now.counted (ap suc (some_is (h Expressions))) arguments_now.counted (some_is (h Types)) (some_is (h Bases)) (some_is (h Pointers)) (some_is (h Dimensions)) (some_is (h Declarators)) (some_is (h Parameters)) (some_is (h Statements)) (some_is (h Declarations)) (some_is (h Initializers)) (some_is (h Braced)) (some_is (h Parts)) (some_is (h Actions)) (some_is (h Starts)) (some_is (h Tests)) (some_is (h Steps)) (some_is (h Groups)) (some_is (h Labels)) (some_is (h Label))))

pub on_Paren : (class : TokenClass) (text : List ℕ) (place : Place) (v : Values) (left : Stack → ℕ) → Has action.Paren v left → Gives (made action.Paren class text place v) (after action.Paren left)
unfolding times stack_number taken given
on_Paren class text place v left h =
    let kept_now = first_of v.expressions.operands.kept (left Kept) (h Kept) in
    let expressions_now = first_of v.expressions.operands.expressions (left Expressions) (h Expressions) in
    rw kept_now.is (rw expressions_now.is (by_stack _ _ kept_now.counted (ap suc expressions_now.counted) (some_is (h Arguments)) (some_is (h Types)) (some_is (h Bases)) (some_is (h Pointers)) (some_is (h Dimensions)) (some_is (h Declarators)) (some_is (h Parameters)) (some_is (h Statements)) (some_is (h Declarations)) (some_is (h Initializers)) (some_is (h Braced)) (some_is (h Parts)) (some_is (h Actions)) (some_is (h Starts)) (some_is (h Tests)) (some_is (h Steps)) (some_is (h Groups)) (some_is (h Labels)) (some_is (h Label))))

pub on_Index : (class : TokenClass) (text : List ℕ) (place : Place) (v : Values) (left : Stack → ℕ) → Has action.Index v left → Gives (made action.Index class text place v) (after action.Index left)
unfolding times stack_number taken given
on_Index class text place v left h =
    let kept_now = first_of v.expressions.operands.kept (left Kept) (h Kept) in
    let expressions_now = two_of v.expressions.operands.expressions (left Expressions) (h Expressions) in
    rw kept_now.is (rw expressions_now.is (by_stack _ _ kept_now.counted (ap suc expressions_now.counted) (some_is (h Arguments)) (some_is (h Types)) (some_is (h Bases)) (some_is (h Pointers)) (some_is (h Dimensions)) (some_is (h Declarators)) (some_is (h Parameters)) (some_is (h Statements)) (some_is (h Declarations)) (some_is (h Initializers)) (some_is (h Braced)) (some_is (h Parts)) (some_is (h Actions)) (some_is (h Starts)) (some_is (h Tests)) (some_is (h Steps)) (some_is (h Groups)) (some_is (h Labels)) (some_is (h Label))))

pub on_Dot : (class : TokenClass) (text : List ℕ) (place : Place) (v : Values) (left : Stack → ℕ) → Has action.Dot v left → Gives (made action.Dot class text place v) (after action.Dot left)
unfolding times stack_number taken given
on_Dot class text place v left h =
    let kept_now = two_of v.expressions.operands.kept (left Kept) (h Kept) in
    let expressions_now = first_of v.expressions.operands.expressions (left Expressions) (h Expressions) in
    rw kept_now.is (rw expressions_now.is (by_stack _ _ kept_now.counted (ap suc expressions_now.counted) (some_is (h Arguments)) (some_is (h Types)) (some_is (h Bases)) (some_is (h Pointers)) (some_is (h Dimensions)) (some_is (h Declarators)) (some_is (h Parameters)) (some_is (h Statements)) (some_is (h Declarations)) (some_is (h Initializers)) (some_is (h Braced)) (some_is (h Parts)) (some_is (h Actions)) (some_is (h Starts)) (some_is (h Tests)) (some_is (h Steps)) (some_is (h Groups)) (some_is (h Labels)) (some_is (h Label))))

pub on_Arrow : (class : TokenClass) (text : List ℕ) (place : Place) (v : Values) (left : Stack → ℕ) → Has action.Arrow v left → Gives (made action.Arrow class text place v) (after action.Arrow left)
unfolding times stack_number taken given
on_Arrow class text place v left h =
    let kept_now = two_of v.expressions.operands.kept (left Kept) (h Kept) in
    let expressions_now = first_of v.expressions.operands.expressions (left Expressions) (h Expressions) in
    rw kept_now.is (rw expressions_now.is (by_stack _ _ kept_now.counted (ap suc expressions_now.counted) (some_is (h Arguments)) (some_is (h Types)) (some_is (h Bases)) (some_is (h Pointers)) (some_is (h Dimensions)) (some_is (h Declarators)) (some_is (h Parameters)) (some_is (h Statements)) (some_is (h Declarations)) (some_is (h Initializers)) (some_is (h Braced)) (some_is (h Parts)) (some_is (h Actions)) (some_is (h Starts)) (some_is (h Tests)) (some_is (h Steps)) (some_is (h Groups)) (some_is (h Labels)) (some_is (h Label))))

pub on_Unary : (class : TokenClass) (text : List ℕ) (place : Place) (v : Values) (left : Stack → ℕ) → Has action.Unary v left → Gives (made action.Unary class text place v) (after action.Unary left)
unfolding times stack_number taken given
on_Unary class text place v left h =
    let kept_now = first_of v.expressions.operands.kept (left Kept) (h Kept) in
    let expressions_now = first_of v.expressions.operands.expressions (left Expressions) (h Expressions) in
    rw kept_now.is (rw expressions_now.is (by_stack _ _ kept_now.counted (ap suc expressions_now.counted) (some_is (h Arguments)) (some_is (h Types)) (some_is (h Bases)) (some_is (h Pointers)) (some_is (h Dimensions)) (some_is (h Declarators)) (some_is (h Parameters)) (some_is (h Statements)) (some_is (h Declarations)) (some_is (h Initializers)) (some_is (h Braced)) (some_is (h Parts)) (some_is (h Actions)) (some_is (h Starts)) (some_is (h Tests)) (some_is (h Steps)) (some_is (h Groups)) (some_is (h Labels)) (some_is (h Label))))

pub on_Cast : (class : TokenClass) (text : List ℕ) (place : Place) (v : Values) (left : Stack → ℕ) → Has action.Cast v left → Gives (made action.Cast class text place v) (after action.Cast left)
unfolding times stack_number taken given
on_Cast class text place v left h =
    let kept_now = first_of v.expressions.operands.kept (left Kept) (h Kept) in
    let types_now = first_of v.expressions.types.names (left Types) (h Types) in
    let expressions_now = first_of v.expressions.operands.expressions (left Expressions) (h Expressions) in
    rw kept_now.is (rw types_now.is (rw expressions_now.is (by_stack _ _ kept_now.counted (ap suc expressions_now.counted) (some_is (h Arguments)) types_now.counted (some_is (h Bases)) (some_is (h Pointers)) (some_is (h Dimensions)) (some_is (h Declarators)) (some_is (h Parameters)) (some_is (h Statements)) (some_is (h Declarations)) (some_is (h Initializers)) (some_is (h Braced)) (some_is (h Parts)) (some_is (h Actions)) (some_is (h Starts)) (some_is (h Tests)) (some_is (h Steps)) (some_is (h Groups)) (some_is (h Labels)) (some_is (h Label)))))

pub on_Sizeof : (class : TokenClass) (text : List ℕ) (place : Place) (v : Values) (left : Stack → ℕ) → Has action.Sizeof v left → Gives (made action.Sizeof class text place v) (after action.Sizeof left)
unfolding times stack_number taken given
on_Sizeof class text place v left h =
    let kept_now = first_of v.expressions.operands.kept (left Kept) (h Kept) in
    let expressions_now = first_of v.expressions.operands.expressions (left Expressions) (h Expressions) in
    rw kept_now.is (rw expressions_now.is (by_stack _ _ kept_now.counted (ap suc expressions_now.counted) (some_is (h Arguments)) (some_is (h Types)) (some_is (h Bases)) (some_is (h Pointers)) (some_is (h Dimensions)) (some_is (h Declarators)) (some_is (h Parameters)) (some_is (h Statements)) (some_is (h Declarations)) (some_is (h Initializers)) (some_is (h Braced)) (some_is (h Parts)) (some_is (h Actions)) (some_is (h Starts)) (some_is (h Tests)) (some_is (h Steps)) (some_is (h Groups)) (some_is (h Labels)) (some_is (h Label))))

pub on_SizeofType : (class : TokenClass) (text : List ℕ) (place : Place) (v : Values) (left : Stack → ℕ) → Has action.SizeofType v left → Gives (made action.SizeofType class text place v) (after action.SizeofType left)
unfolding times stack_number taken given
on_SizeofType class text place v left h =
    let kept_now = two_of v.expressions.operands.kept (left Kept) (h Kept) in
    let types_now = first_of v.expressions.types.names (left Types) (h Types) in
    rw kept_now.is (rw types_now.is (by_stack _ _ kept_now.counted (ap suc (some_is (h Expressions))) (some_is (h Arguments)) types_now.counted (some_is (h Bases)) (some_is (h Pointers)) (some_is (h Dimensions)) (some_is (h Declarators)) (some_is (h Parameters)) (some_is (h Statements)) (some_is (h Declarations)) (some_is (h Initializers)) (some_is (h Braced)) (some_is (h Parts)) (some_is (h Actions)) (some_is (h Starts)) (some_is (h Tests)) (some_is (h Steps)) (some_is (h Groups)) (some_is (h Labels)) (some_is (h Label))))

pub on_Binary : (class : TokenClass) (text : List ℕ) (place : Place) (v : Values) (left : Stack → ℕ) → Has action.Binary v left → Gives (made action.Binary class text place v) (after action.Binary left)
unfolding times stack_number taken given
on_Binary class text place v left h =
    let kept_now = first_of v.expressions.operands.kept (left Kept) (h Kept) in
    let expressions_now = two_of v.expressions.operands.expressions (left Expressions) (h Expressions) in
    rw kept_now.is (rw expressions_now.is (by_stack _ _ kept_now.counted (ap suc expressions_now.counted) (some_is (h Arguments)) (some_is (h Types)) (some_is (h Bases)) (some_is (h Pointers)) (some_is (h Dimensions)) (some_is (h Declarators)) (some_is (h Parameters)) (some_is (h Statements)) (some_is (h Declarations)) (some_is (h Initializers)) (some_is (h Braced)) (some_is (h Parts)) (some_is (h Actions)) (some_is (h Starts)) (some_is (h Tests)) (some_is (h Steps)) (some_is (h Groups)) (some_is (h Labels)) (some_is (h Label))))

pub on_Conditional : (class : TokenClass) (text : List ℕ) (place : Place) (v : Values) (left : Stack → ℕ) → Has action.Conditional v left → Gives (made action.Conditional class text place v) (after action.Conditional left)
unfolding times stack_number taken given
on_Conditional class text place v left h =
    let kept_now = first_of v.expressions.operands.kept (left Kept) (h Kept) in
    let expressions_now = three_of v.expressions.operands.expressions (left Expressions) (h Expressions) in
    rw kept_now.is (rw expressions_now.is (by_stack _ _ kept_now.counted (ap suc expressions_now.counted) (some_is (h Arguments)) (some_is (h Types)) (some_is (h Bases)) (some_is (h Pointers)) (some_is (h Dimensions)) (some_is (h Declarators)) (some_is (h Parameters)) (some_is (h Statements)) (some_is (h Declarations)) (some_is (h Initializers)) (some_is (h Braced)) (some_is (h Parts)) (some_is (h Actions)) (some_is (h Starts)) (some_is (h Tests)) (some_is (h Steps)) (some_is (h Groups)) (some_is (h Labels)) (some_is (h Label))))

pub on_NewBase : (class : TokenClass) (text : List ℕ) (place : Place) (v : Values) (left : Stack → ℕ) → Has action.NewBase v left → Gives (made action.NewBase class text place v) (after action.NewBase left)
unfolding times stack_number taken given
on_NewBase class text place v left h =
    by_stack _ _ (some_is (h Kept)) (some_is (h Expressions)) (some_is (h Arguments)) (some_is (h Types)) (ap suc (some_is (h Bases))) (some_is (h Pointers)) (some_is (h Dimensions)) (some_is (h Declarators)) (some_is (h Parameters)) (some_is (h Statements)) (some_is (h Declarations)) (some_is (h Initializers)) (some_is (h Braced)) (some_is (h Parts)) (some_is (h Actions)) (some_is (h Starts)) (some_is (h Tests)) (some_is (h Steps)) (some_is (h Groups)) (some_is (h Labels)) (some_is (h Label))

pub on_Begin : (class : TokenClass) (text : List ℕ) (place : Place) (v : Values) (left : Stack → ℕ) → Has action.Begin v left → Gives (made action.Begin class text place v) (after action.Begin left)
unfolding times stack_number taken given
on_Begin class text place v left h =
    let bases_now = first_of v.expressions.types.bases (left Bases) (h Bases) in
    rw bases_now.is (by_stack _ _ (some_is (h Kept)) (some_is (h Expressions)) (some_is (h Arguments)) (some_is (h Types)) (ap suc bases_now.counted) (some_is (h Pointers)) (some_is (h Dimensions)) (some_is (h Declarators)) (some_is (h Parameters)) (some_is (h Statements)) (some_is (h Declarations)) (some_is (h Initializers)) (some_is (h Braced)) (some_is (h Parts)) (some_is (h Actions)) (some_is (h Starts)) (some_is (h Tests)) (some_is (h Steps)) (some_is (h Groups)) (some_is (h Labels)) (some_is (h Label)))

pub on_Const : (class : TokenClass) (text : List ℕ) (place : Place) (v : Values) (left : Stack → ℕ) → Has action.Const v left → Gives (made action.Const class text place v) (after action.Const left)
unfolding times stack_number taken given
on_Const class text place v left h =
    let bases_now = first_of v.expressions.types.bases (left Bases) (h Bases) in
    rw bases_now.is (by_stack _ _ (some_is (h Kept)) (some_is (h Expressions)) (some_is (h Arguments)) (some_is (h Types)) (ap suc bases_now.counted) (some_is (h Pointers)) (some_is (h Dimensions)) (some_is (h Declarators)) (some_is (h Parameters)) (some_is (h Statements)) (some_is (h Declarations)) (some_is (h Initializers)) (some_is (h Braced)) (some_is (h Parts)) (some_is (h Actions)) (some_is (h Starts)) (some_is (h Tests)) (some_is (h Steps)) (some_is (h Groups)) (some_is (h Labels)) (some_is (h Label)))

pub on_Void : (class : TokenClass) (text : List ℕ) (place : Place) (v : Values) (left : Stack → ℕ) → Has action.Void v left → Gives (made action.Void class text place v) (after action.Void left)
unfolding times stack_number taken given
on_Void class text place v left h =
    let bases_now = first_of v.expressions.types.bases (left Bases) (h Bases) in
    rw bases_now.is (by_stack _ _ (some_is (h Kept)) (some_is (h Expressions)) (some_is (h Arguments)) (some_is (h Types)) (ap suc bases_now.counted) (some_is (h Pointers)) (some_is (h Dimensions)) (some_is (h Declarators)) (some_is (h Parameters)) (some_is (h Statements)) (some_is (h Declarations)) (some_is (h Initializers)) (some_is (h Braced)) (some_is (h Parts)) (some_is (h Actions)) (some_is (h Starts)) (some_is (h Tests)) (some_is (h Steps)) (some_is (h Groups)) (some_is (h Labels)) (some_is (h Label)))

pub on_Word : (class : TokenClass) (text : List ℕ) (place : Place) (v : Values) (left : Stack → ℕ) → Has action.Word v left → Gives (made action.Word class text place v) (after action.Word left)
unfolding times stack_number taken given
on_Word class text place v left h =
    let bases_now = first_of v.expressions.types.bases (left Bases) (h Bases) in
    rw bases_now.is (by_stack _ _ (some_is (h Kept)) (some_is (h Expressions)) (some_is (h Arguments)) (some_is (h Types)) (ap suc bases_now.counted) (some_is (h Pointers)) (some_is (h Dimensions)) (some_is (h Declarators)) (some_is (h Parameters)) (some_is (h Statements)) (some_is (h Declarations)) (some_is (h Initializers)) (some_is (h Braced)) (some_is (h Parts)) (some_is (h Actions)) (some_is (h Starts)) (some_is (h Tests)) (some_is (h Steps)) (some_is (h Groups)) (some_is (h Labels)) (some_is (h Label)))

pub on_Named : (class : TokenClass) (text : List ℕ) (place : Place) (v : Values) (left : Stack → ℕ) → Has action.Named v left → Gives (made action.Named class text place v) (after action.Named left)
unfolding times stack_number taken given
on_Named class text place v left h =
    let bases_now = first_of v.expressions.types.bases (left Bases) (h Bases) in
    rw bases_now.is (by_stack _ _ (some_is (h Kept)) (some_is (h Expressions)) (some_is (h Arguments)) (some_is (h Types)) (ap suc bases_now.counted) (some_is (h Pointers)) (some_is (h Dimensions)) (some_is (h Declarators)) (some_is (h Parameters)) (some_is (h Statements)) (some_is (h Declarations)) (some_is (h Initializers)) (some_is (h Braced)) (some_is (h Parts)) (some_is (h Actions)) (some_is (h Starts)) (some_is (h Tests)) (some_is (h Steps)) (some_is (h Groups)) (some_is (h Labels)) (some_is (h Label)))

pub on_StructTag : (class : TokenClass) (text : List ℕ) (place : Place) (v : Values) (left : Stack → ℕ) → Has action.StructTag v left → Gives (made action.StructTag class text place v) (after action.StructTag left)
unfolding times stack_number taken given
on_StructTag class text place v left h =
    let bases_now = first_of v.expressions.types.bases (left Bases) (h Bases) in
    rw bases_now.is (by_stack _ _ (some_is (h Kept)) (some_is (h Expressions)) (some_is (h Arguments)) (some_is (h Types)) (ap suc bases_now.counted) (some_is (h Pointers)) (some_is (h Dimensions)) (some_is (h Declarators)) (some_is (h Parameters)) (some_is (h Statements)) (some_is (h Declarations)) (some_is (h Initializers)) (some_is (h Braced)) (some_is (h Parts)) (some_is (h Actions)) (some_is (h Starts)) (some_is (h Tests)) (some_is (h Steps)) (some_is (h Groups)) (some_is (h Labels)) (some_is (h Label)))

pub on_NoStructTag : (class : TokenClass) (text : List ℕ) (place : Place) (v : Values) (left : Stack → ℕ) → Has action.NoStructTag v left → Gives (made action.NoStructTag class text place v) (after action.NoStructTag left)
unfolding times stack_number taken given
on_NoStructTag class text place v left h =
    let bases_now = first_of v.expressions.types.bases (left Bases) (h Bases) in
    rw bases_now.is (by_stack _ _ (some_is (h Kept)) (some_is (h Expressions)) (some_is (h Arguments)) (some_is (h Types)) (ap suc bases_now.counted) (some_is (h Pointers)) (some_is (h Dimensions)) (some_is (h Declarators)) (some_is (h Parameters)) (some_is (h Statements)) (some_is (h Declarations)) (some_is (h Initializers)) (some_is (h Braced)) (some_is (h Parts)) (some_is (h Actions)) (some_is (h Starts)) (some_is (h Tests)) (some_is (h Steps)) (some_is (h Groups)) (some_is (h Labels)) (some_is (h Label)))

pub on_EnumTag : (class : TokenClass) (text : List ℕ) (place : Place) (v : Values) (left : Stack → ℕ) → Has action.EnumTag v left → Gives (made action.EnumTag class text place v) (after action.EnumTag left)
unfolding times stack_number taken given
on_EnumTag class text place v left h =
    let bases_now = first_of v.expressions.types.bases (left Bases) (h Bases) in
    rw bases_now.is (by_stack _ _ (some_is (h Kept)) (some_is (h Expressions)) (some_is (h Arguments)) (some_is (h Types)) (ap suc bases_now.counted) (some_is (h Pointers)) (some_is (h Dimensions)) (some_is (h Declarators)) (some_is (h Parameters)) (some_is (h Statements)) (some_is (h Declarations)) (some_is (h Initializers)) (some_is (h Braced)) (some_is (h Parts)) (some_is (h Actions)) (some_is (h Starts)) (some_is (h Tests)) (some_is (h Steps)) (some_is (h Groups)) (some_is (h Labels)) (some_is (h Label)))

pub on_NoEnumTag : (class : TokenClass) (text : List ℕ) (place : Place) (v : Values) (left : Stack → ℕ) → Has action.NoEnumTag v left → Gives (made action.NoEnumTag class text place v) (after action.NoEnumTag left)
unfolding times stack_number taken given
on_NoEnumTag class text place v left h =
    let bases_now = first_of v.expressions.types.bases (left Bases) (h Bases) in
    rw bases_now.is (by_stack _ _ (some_is (h Kept)) (some_is (h Expressions)) (some_is (h Arguments)) (some_is (h Types)) (ap suc bases_now.counted) (some_is (h Pointers)) (some_is (h Dimensions)) (some_is (h Declarators)) (some_is (h Parameters)) (some_is (h Statements)) (some_is (h Declarations)) (some_is (h Initializers)) (some_is (h Braced)) (some_is (h Parts)) (some_is (h Actions)) (some_is (h Starts)) (some_is (h Tests)) (some_is (h Steps)) (some_is (h Groups)) (some_is (h Labels)) (some_is (h Label)))

pub on_Pointer : (class : TokenClass) (text : List ℕ) (place : Place) (v : Values) (left : Stack → ℕ) → Has action.Pointer v left → Gives (made action.Pointer class text place v) (after action.Pointer left)
unfolding times stack_number taken given
on_Pointer class text place v left h =
    by_stack _ _ (some_is (h Kept)) (some_is (h Expressions)) (some_is (h Arguments)) (some_is (h Types)) (some_is (h Bases)) (ap suc (some_is (h Pointers))) (some_is (h Dimensions)) (some_is (h Declarators)) (some_is (h Parameters)) (some_is (h Statements)) (some_is (h Declarations)) (some_is (h Initializers)) (some_is (h Braced)) (some_is (h Parts)) (some_is (h Actions)) (some_is (h Starts)) (some_is (h Tests)) (some_is (h Steps)) (some_is (h Groups)) (some_is (h Labels)) (some_is (h Label))

pub on_NoPointer : (class : TokenClass) (text : List ℕ) (place : Place) (v : Values) (left : Stack → ℕ) → Has action.NoPointer v left → Gives (made action.NoPointer class text place v) (after action.NoPointer left)
unfolding times stack_number taken given
on_NoPointer class text place v left h =
    by_stack _ _ (some_is (h Kept)) (some_is (h Expressions)) (some_is (h Arguments)) (some_is (h Types)) (some_is (h Bases)) (ap suc (some_is (h Pointers))) (some_is (h Dimensions)) (some_is (h Declarators)) (some_is (h Parameters)) (some_is (h Statements)) (some_is (h Declarations)) (some_is (h Initializers)) (some_is (h Braced)) (some_is (h Parts)) (some_is (h Actions)) (some_is (h Starts)) (some_is (h Tests)) (some_is (h Steps)) (some_is (h Groups)) (some_is (h Labels)) (some_is (h Label))

pub on_PointerConst : (class : TokenClass) (text : List ℕ) (place : Place) (v : Values) (left : Stack → ℕ) → Has action.PointerConst v left → Gives (made action.PointerConst class text place v) (after action.PointerConst left)
unfolding times stack_number taken given
on_PointerConst class text place v left h =
    let pointers_now = first_of v.expressions.types.pointers (left Pointers) (h Pointers) in
    rw pointers_now.is (by_stack _ _ (some_is (h Kept)) (some_is (h Expressions)) (some_is (h Arguments)) (some_is (h Types)) (some_is (h Bases)) (ap suc pointers_now.counted) (some_is (h Dimensions)) (some_is (h Declarators)) (some_is (h Parameters)) (some_is (h Statements)) (some_is (h Declarations)) (some_is (h Initializers)) (some_is (h Braced)) (some_is (h Parts)) (some_is (h Actions)) (some_is (h Starts)) (some_is (h Tests)) (some_is (h Steps)) (some_is (h Groups)) (some_is (h Labels)) (some_is (h Label)))

pub on_NoDims : (class : TokenClass) (text : List ℕ) (place : Place) (v : Values) (left : Stack → ℕ) → Has action.NoDims v left → Gives (made action.NoDims class text place v) (after action.NoDims left)
unfolding times stack_number taken given
on_NoDims class text place v left h =
    by_stack _ _ (some_is (h Kept)) (some_is (h Expressions)) (some_is (h Arguments)) (some_is (h Types)) (some_is (h Bases)) (some_is (h Pointers)) (ap suc (some_is (h Dimensions))) (some_is (h Declarators)) (some_is (h Parameters)) (some_is (h Statements)) (some_is (h Declarations)) (some_is (h Initializers)) (some_is (h Braced)) (some_is (h Parts)) (some_is (h Actions)) (some_is (h Starts)) (some_is (h Tests)) (some_is (h Steps)) (some_is (h Groups)) (some_is (h Labels)) (some_is (h Label))

pub on_Dim : (class : TokenClass) (text : List ℕ) (place : Place) (v : Values) (left : Stack → ℕ) → Has action.Dim v left → Gives (made action.Dim class text place v) (after action.Dim left)
unfolding times stack_number taken given
on_Dim class text place v left h =
    let kept_now = first_of v.expressions.operands.kept (left Kept) (h Kept) in
    let expressions_now = first_of v.expressions.operands.expressions (left Expressions) (h Expressions) in
    let dimensions_now = first_of v.expressions.types.dims (left Dimensions) (h Dimensions) in
    rw kept_now.is (rw expressions_now.is (rw dimensions_now.is (by_stack _ _ kept_now.counted expressions_now.counted (some_is (h Arguments)) (some_is (h Types)) (some_is (h Bases)) (some_is (h Pointers)) (ap suc dimensions_now.counted) (some_is (h Declarators)) (some_is (h Parameters)) (some_is (h Statements)) (some_is (h Declarations)) (some_is (h Initializers)) (some_is (h Braced)) (some_is (h Parts)) (some_is (h Actions)) (some_is (h Starts)) (some_is (h Tests)) (some_is (h Steps)) (some_is (h Groups)) (some_is (h Labels)) (some_is (h Label)))))

pub on_OpenDim : (class : TokenClass) (text : List ℕ) (place : Place) (v : Values) (left : Stack → ℕ) → Has action.OpenDim v left → Gives (made action.OpenDim class text place v) (after action.OpenDim left)
unfolding times stack_number taken given
on_OpenDim class text place v left h =
    let kept_now = first_of v.expressions.operands.kept (left Kept) (h Kept) in
    let dimensions_now = first_of v.expressions.types.dims (left Dimensions) (h Dimensions) in
    rw kept_now.is (rw dimensions_now.is (by_stack _ _ kept_now.counted (some_is (h Expressions)) (some_is (h Arguments)) (some_is (h Types)) (some_is (h Bases)) (some_is (h Pointers)) (ap suc dimensions_now.counted) (some_is (h Declarators)) (some_is (h Parameters)) (some_is (h Statements)) (some_is (h Declarations)) (some_is (h Initializers)) (some_is (h Braced)) (some_is (h Parts)) (some_is (h Actions)) (some_is (h Starts)) (some_is (h Tests)) (some_is (h Steps)) (some_is (h Groups)) (some_is (h Labels)) (some_is (h Label))))

pub on_Type : (class : TokenClass) (text : List ℕ) (place : Place) (v : Values) (left : Stack → ℕ) → Has action.Type v left → Gives (made action.Type class text place v) (after action.Type left)
unfolding times stack_number taken given
on_Type class text place v left h =
    let bases_now = first_of v.expressions.types.bases (left Bases) (h Bases) in
    let pointers_now = first_of v.expressions.types.pointers (left Pointers) (h Pointers) in
    let dimensions_now = first_of v.expressions.types.dims (left Dimensions) (h Dimensions) in
    rw bases_now.is (rw pointers_now.is (rw dimensions_now.is (by_stack _ _ (some_is (h Kept)) (some_is (h Expressions)) (some_is (h Arguments)) (ap suc (some_is (h Types))) bases_now.counted pointers_now.counted dimensions_now.counted (some_is (h Declarators)) (some_is (h Parameters)) (some_is (h Statements)) (some_is (h Declarations)) (some_is (h Initializers)) (some_is (h Braced)) (some_is (h Parts)) (some_is (h Actions)) (some_is (h Starts)) (some_is (h Tests)) (some_is (h Steps)) (some_is (h Groups)) (some_is (h Labels)) (some_is (h Label)))))

pub on_Declarator : (class : TokenClass) (text : List ℕ) (place : Place) (v : Values) (left : Stack → ℕ) → Has action.Declarator v left → Gives (made action.Declarator class text place v) (after action.Declarator left)
unfolding times stack_number taken given
on_Declarator class text place v left h =
    let kept_now = first_of v.expressions.operands.kept (left Kept) (h Kept) in
    let pointers_now = first_of v.expressions.types.pointers (left Pointers) (h Pointers) in
    let dimensions_now = first_of v.expressions.types.dims (left Dimensions) (h Dimensions) in
    rw kept_now.is (rw pointers_now.is (rw dimensions_now.is (by_stack _ _ kept_now.counted (some_is (h Expressions)) (some_is (h Arguments)) (some_is (h Types)) (some_is (h Bases)) pointers_now.counted dimensions_now.counted (ap suc (some_is (h Declarators))) (some_is (h Parameters)) (some_is (h Statements)) (some_is (h Declarations)) (some_is (h Initializers)) (some_is (h Braced)) (some_is (h Parts)) (some_is (h Actions)) (some_is (h Starts)) (some_is (h Tests)) (some_is (h Steps)) (some_is (h Groups)) (some_is (h Labels)) (some_is (h Label)))))

pub on_AddDeclarator : (class : TokenClass) (text : List ℕ) (place : Place) (v : Values) (left : Stack → ℕ) → Has action.AddDeclarator v left → Gives (made action.AddDeclarator class text place v) (after action.AddDeclarator left)
unfolding times stack_number taken given
on_AddDeclarator class text place v left h =
    let declarators_now = first_of v.declarations.declarators (left Declarators) (h Declarators) in
    rw declarators_now.is (by_stack _ _ (some_is (h Kept)) (some_is (h Expressions)) (some_is (h Arguments)) (some_is (h Types)) (some_is (h Bases)) (some_is (h Pointers)) (some_is (h Dimensions)) declarators_now.counted (some_is (h Parameters)) (some_is (h Statements)) (some_is (h Declarations)) (some_is (h Initializers)) (some_is (h Braced)) (some_is (h Parts)) (some_is (h Actions)) (some_is (h Starts)) (some_is (h Tests)) (some_is (h Steps)) (some_is (h Groups)) (some_is (h Labels)) (some_is (h Label)))

pub on_NamedParam : (class : TokenClass) (text : List ℕ) (place : Place) (v : Values) (left : Stack → ℕ) → Has action.NamedParam v left → Gives (made action.NamedParam class text place v) (after action.NamedParam left)
unfolding times stack_number taken given
on_NamedParam class text place v left h =
    let bases_now = first_of v.expressions.types.bases (left Bases) (h Bases) in
    let kept_now = first_of v.expressions.operands.kept (left Kept) (h Kept) in
    let pointers_now = first_of v.expressions.types.pointers (left Pointers) (h Pointers) in
    let dimensions_now = first_of v.expressions.types.dims (left Dimensions) (h Dimensions) in
    rw bases_now.is (rw kept_now.is (rw pointers_now.is (rw dimensions_now.is (by_stack _ _ kept_now.counted (some_is (h Expressions)) (some_is (h Arguments)) (some_is (h Types)) bases_now.counted pointers_now.counted dimensions_now.counted (some_is (h Declarators)) (some_is (h Parameters)) (some_is (h Statements)) (some_is (h Declarations)) (some_is (h Initializers)) (some_is (h Braced)) (some_is (h Parts)) (some_is (h Actions)) (some_is (h Starts)) (some_is (h Tests)) (some_is (h Steps)) (some_is (h Groups)) (some_is (h Labels)) (some_is (h Label))))))

pub on_BareParam : (class : TokenClass) (text : List ℕ) (place : Place) (v : Values) (left : Stack → ℕ) → Has action.BareParam v left → Gives (made action.BareParam class text place v) (after action.BareParam left)
unfolding times stack_number taken given
on_BareParam class text place v left h =
    let bases_now = first_of v.expressions.types.bases (left Bases) (h Bases) in
    let pointers_now = first_of v.expressions.types.pointers (left Pointers) (h Pointers) in
    let dimensions_now = first_of v.expressions.types.dims (left Dimensions) (h Dimensions) in
    rw bases_now.is (rw pointers_now.is (rw dimensions_now.is (by_stack _ _ (some_is (h Kept)) (some_is (h Expressions)) (some_is (h Arguments)) (some_is (h Types)) bases_now.counted pointers_now.counted dimensions_now.counted (some_is (h Declarators)) (some_is (h Parameters)) (some_is (h Statements)) (some_is (h Declarations)) (some_is (h Initializers)) (some_is (h Braced)) (some_is (h Parts)) (some_is (h Actions)) (some_is (h Starts)) (some_is (h Tests)) (some_is (h Steps)) (some_is (h Groups)) (some_is (h Labels)) (some_is (h Label)))))

pub on_NoParams : (class : TokenClass) (text : List ℕ) (place : Place) (v : Values) (left : Stack → ℕ) → Has action.NoParams v left → Gives (made action.NoParams class text place v) (after action.NoParams left)
unfolding times stack_number taken given
on_NoParams class text place v left h =
    by_stack _ _ (some_is (h Kept)) (some_is (h Expressions)) (some_is (h Arguments)) (some_is (h Types)) (some_is (h Bases)) (some_is (h Pointers)) (some_is (h Dimensions)) (some_is (h Declarators)) (ap suc (some_is (h Parameters))) (some_is (h Statements)) (some_is (h Declarations)) (some_is (h Initializers)) (some_is (h Braced)) (some_is (h Parts)) (some_is (h Actions)) (some_is (h Starts)) (some_is (h Tests)) (some_is (h Steps)) (some_is (h Groups)) (some_is (h Labels)) (some_is (h Label))

pub on_LoneVoid : (class : TokenClass) (text : List ℕ) (place : Place) (v : Values) (left : Stack → ℕ) → Has action.LoneVoid v left → Gives (made action.LoneVoid class text place v) (after action.LoneVoid left)
unfolding times stack_number taken given
on_LoneVoid class text place v left h =
    let bases_now = first_of v.expressions.types.bases (left Bases) (h Bases) in
    rw bases_now.is (by_stack _ _ (some_is (h Kept)) (some_is (h Expressions)) (some_is (h Arguments)) (some_is (h Types)) bases_now.counted (some_is (h Pointers)) (some_is (h Dimensions)) (some_is (h Declarators)) (ap suc (some_is (h Parameters))) (some_is (h Statements)) (some_is (h Declarations)) (some_is (h Initializers)) (some_is (h Braced)) (some_is (h Parts)) (some_is (h Actions)) (some_is (h Starts)) (some_is (h Tests)) (some_is (h Steps)) (some_is (h Groups)) (some_is (h Labels)) (some_is (h Label)))

pub on_Params : (class : TokenClass) (text : List ℕ) (place : Place) (v : Values) (left : Stack → ℕ) → Has action.Params v left → Gives (made action.Params class text place v) (after action.Params left)
unfolding times stack_number taken given
on_Params class text place v left h =
    by_stack _ _ (some_is (h Kept)) (some_is (h Expressions)) (some_is (h Arguments)) (some_is (h Types)) (some_is (h Bases)) (some_is (h Pointers)) (some_is (h Dimensions)) (some_is (h Declarators)) (ap suc (some_is (h Parameters))) (some_is (h Statements)) (some_is (h Declarations)) (some_is (h Initializers)) (some_is (h Braced)) (some_is (h Parts)) (some_is (h Actions)) (some_is (h Starts)) (some_is (h Tests)) (some_is (h Steps)) (some_is (h Groups)) (some_is (h Labels)) (some_is (h Label))

pub on_Prototype : (class : TokenClass) (text : List ℕ) (place : Place) (v : Values) (left : Stack → ℕ) → Has action.Prototype v left → Gives (made action.Prototype class text place v) (after action.Prototype left)
unfolding times stack_number taken given
on_Prototype class text place v left h =
    let parameters_now = first_of v.externals.lists (left Parameters) (h Parameters) in
    let kept_now = first_of v.expressions.operands.kept (left Kept) (h Kept) in
    let bases_now = first_of v.expressions.types.bases (left Bases) (h Bases) in
    rw parameters_now.is (rw kept_now.is (rw bases_now.is (by_stack _ _ kept_now.counted (some_is (h Expressions)) (some_is (h Arguments)) (some_is (h Types)) bases_now.counted (some_is (h Pointers)) (some_is (h Dimensions)) (some_is (h Declarators)) parameters_now.counted (some_is (h Statements)) (some_is (h Declarations)) (some_is (h Initializers)) (some_is (h Braced)) (some_is (h Parts)) (some_is (h Actions)) (some_is (h Starts)) (some_is (h Tests)) (some_is (h Steps)) (some_is (h Groups)) (some_is (h Labels)) (some_is (h Label)))))

pub on_Function : (class : TokenClass) (text : List ℕ) (place : Place) (v : Values) (left : Stack → ℕ) → Has action.Function v left → Gives (made action.Function class text place v) (after action.Function left)
unfolding times stack_number taken given
on_Function class text place v left h =
    let statements_now = first_of v.statements.statements (left Statements) (h Statements) in
    let parameters_now = first_of v.externals.lists (left Parameters) (h Parameters) in
    let kept_now = first_of v.expressions.operands.kept (left Kept) (h Kept) in
    let bases_now = first_of v.expressions.types.bases (left Bases) (h Bases) in
    rw statements_now.is (rw parameters_now.is (rw kept_now.is (rw bases_now.is (by_stack _ _ kept_now.counted (some_is (h Expressions)) (some_is (h Arguments)) (some_is (h Types)) bases_now.counted (some_is (h Pointers)) (some_is (h Dimensions)) (some_is (h Declarators)) parameters_now.counted statements_now.counted (some_is (h Declarations)) (some_is (h Initializers)) (some_is (h Braced)) (some_is (h Parts)) (some_is (h Actions)) (some_is (h Starts)) (some_is (h Tests)) (some_is (h Steps)) (some_is (h Groups)) (some_is (h Labels)) (some_is (h Label))))))

pub on_BaseAlone : (class : TokenClass) (text : List ℕ) (place : Place) (v : Values) (left : Stack → ℕ) → Has action.BaseAlone v left → Gives (made action.BaseAlone class text place v) (after action.BaseAlone left)
unfolding times stack_number taken given
on_BaseAlone class text place v left h =
    let bases_now = first_of v.expressions.types.bases (left Bases) (h Bases) in
    rw bases_now.is (by_stack _ _ (some_is (h Kept)) (some_is (h Expressions)) (some_is (h Arguments)) (some_is (h Types)) bases_now.counted (some_is (h Pointers)) (some_is (h Dimensions)) (some_is (h Declarators)) (some_is (h Parameters)) (some_is (h Statements)) (some_is (h Declarations)) (some_is (h Initializers)) (some_is (h Braced)) (some_is (h Parts)) (some_is (h Actions)) (some_is (h Starts)) (some_is (h Tests)) (some_is (h Steps)) (some_is (h Groups)) (some_is (h Labels)) (some_is (h Label)))

pub on_Objects : (class : TokenClass) (text : List ℕ) (place : Place) (v : Values) (left : Stack → ℕ) → Has action.Objects v left → Gives (made action.Objects class text place v) (after action.Objects left)
unfolding times stack_number taken given
on_Objects class text place v left h =
    let declarations_now = first_of v.declarations.declarations (left Declarations) (h Declarations) in
    rw declarations_now.is (by_stack _ _ (some_is (h Kept)) (some_is (h Expressions)) (some_is (h Arguments)) (some_is (h Types)) (some_is (h Bases)) (some_is (h Pointers)) (some_is (h Dimensions)) (some_is (h Declarators)) (some_is (h Parameters)) (some_is (h Statements)) declarations_now.counted (some_is (h Initializers)) (some_is (h Braced)) (some_is (h Parts)) (some_is (h Actions)) (some_is (h Starts)) (some_is (h Tests)) (some_is (h Steps)) (some_is (h Groups)) (some_is (h Labels)) (some_is (h Label)))

pub on_Typedef : (class : TokenClass) (text : List ℕ) (place : Place) (v : Values) (left : Stack → ℕ) → Has action.Typedef v left → Gives (made action.Typedef class text place v) (after action.Typedef left)
unfolding times stack_number taken given
on_Typedef class text place v left h =
    let bases_now = first_of v.expressions.types.bases (left Bases) (h Bases) in
    rw bases_now.is (by_stack _ _ (some_is (h Kept)) (some_is (h Expressions)) (some_is (h Arguments)) (some_is (h Types)) bases_now.counted (some_is (h Pointers)) (some_is (h Dimensions)) (some_is (h Declarators)) (some_is (h Parameters)) (some_is (h Statements)) (some_is (h Declarations)) (some_is (h Initializers)) (some_is (h Braced)) (some_is (h Parts)) (some_is (h Actions)) (some_is (h Starts)) (some_is (h Tests)) (some_is (h Steps)) (some_is (h Groups)) (some_is (h Labels)) (some_is (h Label)))

pub on_Field : (class : TokenClass) (text : List ℕ) (place : Place) (v : Values) (left : Stack → ℕ) → Has action.Field v left → Gives (made action.Field class text place v) (after action.Field left)
unfolding times stack_number taken given
on_Field class text place v left h =
    let bases_now = first_of v.expressions.types.bases (left Bases) (h Bases) in
    rw bases_now.is (by_stack _ _ (some_is (h Kept)) (some_is (h Expressions)) (some_is (h Arguments)) (some_is (h Types)) bases_now.counted (some_is (h Pointers)) (some_is (h Dimensions)) (some_is (h Declarators)) (some_is (h Parameters)) (some_is (h Statements)) (some_is (h Declarations)) (some_is (h Initializers)) (some_is (h Braced)) (some_is (h Parts)) (some_is (h Actions)) (some_is (h Starts)) (some_is (h Tests)) (some_is (h Steps)) (some_is (h Groups)) (some_is (h Labels)) (some_is (h Label)))

pub on_Fields : (class : TokenClass) (text : List ℕ) (place : Place) (v : Values) (left : Stack → ℕ) → Has action.Fields v left → Gives (made action.Fields class text place v) (after action.Fields left)
unfolding times stack_number taken given
on_Fields class text place v left h =
    let bases_now = first_of v.expressions.types.bases (left Bases) (h Bases) in
    rw bases_now.is (by_stack _ _ (some_is (h Kept)) (some_is (h Expressions)) (some_is (h Arguments)) (some_is (h Types)) (ap suc bases_now.counted) (some_is (h Pointers)) (some_is (h Dimensions)) (some_is (h Declarators)) (some_is (h Parameters)) (some_is (h Statements)) (some_is (h Declarations)) (some_is (h Initializers)) (some_is (h Braced)) (some_is (h Parts)) (some_is (h Actions)) (some_is (h Starts)) (some_is (h Tests)) (some_is (h Steps)) (some_is (h Groups)) (some_is (h Labels)) (some_is (h Label)))

pub on_EnumeratorWith : (class : TokenClass) (text : List ℕ) (place : Place) (v : Values) (left : Stack → ℕ) → Has action.EnumeratorWith v left → Gives (made action.EnumeratorWith class text place v) (after action.EnumeratorWith left)
unfolding times stack_number taken given
on_EnumeratorWith class text place v left h =
    let kept_now = first_of v.expressions.operands.kept (left Kept) (h Kept) in
    let expressions_now = first_of v.expressions.operands.expressions (left Expressions) (h Expressions) in
    rw kept_now.is (rw expressions_now.is (by_stack _ _ kept_now.counted expressions_now.counted (some_is (h Arguments)) (some_is (h Types)) (some_is (h Bases)) (some_is (h Pointers)) (some_is (h Dimensions)) (some_is (h Declarators)) (some_is (h Parameters)) (some_is (h Statements)) (some_is (h Declarations)) (some_is (h Initializers)) (some_is (h Braced)) (some_is (h Parts)) (some_is (h Actions)) (some_is (h Starts)) (some_is (h Tests)) (some_is (h Steps)) (some_is (h Groups)) (some_is (h Labels)) (some_is (h Label))))

pub on_EnumeratorBare : (class : TokenClass) (text : List ℕ) (place : Place) (v : Values) (left : Stack → ℕ) → Has action.EnumeratorBare v left → Gives (made action.EnumeratorBare class text place v) (after action.EnumeratorBare left)
unfolding times stack_number taken given
on_EnumeratorBare class text place v left h =
    let kept_now = first_of v.expressions.operands.kept (left Kept) (h Kept) in
    rw kept_now.is (by_stack _ _ kept_now.counted (some_is (h Expressions)) (some_is (h Arguments)) (some_is (h Types)) (some_is (h Bases)) (some_is (h Pointers)) (some_is (h Dimensions)) (some_is (h Declarators)) (some_is (h Parameters)) (some_is (h Statements)) (some_is (h Declarations)) (some_is (h Initializers)) (some_is (h Braced)) (some_is (h Parts)) (some_is (h Actions)) (some_is (h Starts)) (some_is (h Tests)) (some_is (h Steps)) (some_is (h Groups)) (some_is (h Labels)) (some_is (h Label)))

pub on_Enumerators : (class : TokenClass) (text : List ℕ) (place : Place) (v : Values) (left : Stack → ℕ) → Has action.Enumerators v left → Gives (made action.Enumerators class text place v) (after action.Enumerators left)
unfolding times stack_number taken given
on_Enumerators class text place v left h =
    let bases_now = first_of v.expressions.types.bases (left Bases) (h Bases) in
    rw bases_now.is (by_stack _ _ (some_is (h Kept)) (some_is (h Expressions)) (some_is (h Arguments)) (some_is (h Types)) (ap suc bases_now.counted) (some_is (h Pointers)) (some_is (h Dimensions)) (some_is (h Declarators)) (some_is (h Parameters)) (some_is (h Statements)) (some_is (h Declarations)) (some_is (h Initializers)) (some_is (h Braced)) (some_is (h Parts)) (some_is (h Actions)) (some_is (h Starts)) (some_is (h Tests)) (some_is (h Steps)) (some_is (h Groups)) (some_is (h Labels)) (some_is (h Label)))

pub on_InitWith : (class : TokenClass) (text : List ℕ) (place : Place) (v : Values) (left : Stack → ℕ) → Has action.InitWith v left → Gives (made action.InitWith class text place v) (after action.InitWith left)
unfolding times stack_number taken given
on_InitWith class text place v left h =
    let initializers_now = first_of v.declarations.values (left Initializers) (h Initializers) in
    let declarators_now = first_of v.declarations.declarators (left Declarators) (h Declarators) in
    rw initializers_now.is (rw declarators_now.is (by_stack _ _ (some_is (h Kept)) (some_is (h Expressions)) (some_is (h Arguments)) (some_is (h Types)) (some_is (h Bases)) (some_is (h Pointers)) (some_is (h Dimensions)) declarators_now.counted (some_is (h Parameters)) (some_is (h Statements)) (some_is (h Declarations)) initializers_now.counted (some_is (h Braced)) (some_is (h Parts)) (some_is (h Actions)) (some_is (h Starts)) (some_is (h Tests)) (some_is (h Steps)) (some_is (h Groups)) (some_is (h Labels)) (some_is (h Label))))

pub on_InitBare : (class : TokenClass) (text : List ℕ) (place : Place) (v : Values) (left : Stack → ℕ) → Has action.InitBare v left → Gives (made action.InitBare class text place v) (after action.InitBare left)
unfolding times stack_number taken given
on_InitBare class text place v left h =
    let declarators_now = first_of v.declarations.declarators (left Declarators) (h Declarators) in
    rw declarators_now.is (by_stack _ _ (some_is (h Kept)) (some_is (h Expressions)) (some_is (h Arguments)) (some_is (h Types)) (some_is (h Bases)) (some_is (h Pointers)) (some_is (h Dimensions)) declarators_now.counted (some_is (h Parameters)) (some_is (h Statements)) (some_is (h Declarations)) (some_is (h Initializers)) (some_is (h Braced)) (some_is (h Parts)) (some_is (h Actions)) (some_is (h Starts)) (some_is (h Tests)) (some_is (h Steps)) (some_is (h Groups)) (some_is (h Labels)) (some_is (h Label)))

pub on_Declaration : (class : TokenClass) (text : List ℕ) (place : Place) (v : Values) (left : Stack → ℕ) → Has action.Declaration v left → Gives (made action.Declaration class text place v) (after action.Declaration left)
unfolding times stack_number taken given
on_Declaration class text place v left h =
    let bases_now = first_of v.expressions.types.bases (left Bases) (h Bases) in
    rw bases_now.is (by_stack _ _ (some_is (h Kept)) (some_is (h Expressions)) (some_is (h Arguments)) (some_is (h Types)) bases_now.counted (some_is (h Pointers)) (some_is (h Dimensions)) (some_is (h Declarators)) (some_is (h Parameters)) (some_is (h Statements)) (ap suc (some_is (h Declarations))) (some_is (h Initializers)) (some_is (h Braced)) (some_is (h Parts)) (some_is (h Actions)) (some_is (h Starts)) (some_is (h Tests)) (some_is (h Steps)) (some_is (h Groups)) (some_is (h Labels)) (some_is (h Label)))

pub on_CondValue : (class : TokenClass) (text : List ℕ) (place : Place) (v : Values) (left : Stack → ℕ) → Has action.CondValue v left → Gives (made action.CondValue class text place v) (after action.CondValue left)
unfolding times stack_number taken given
on_CondValue class text place v left h =
    let expressions_now = first_of v.expressions.operands.expressions (left Expressions) (h Expressions) in
    rw expressions_now.is (by_stack _ _ (some_is (h Kept)) expressions_now.counted (some_is (h Arguments)) (some_is (h Types)) (some_is (h Bases)) (some_is (h Pointers)) (some_is (h Dimensions)) (some_is (h Declarators)) (some_is (h Parameters)) (some_is (h Statements)) (some_is (h Declarations)) (ap suc (some_is (h Initializers))) (some_is (h Braced)) (some_is (h Parts)) (some_is (h Actions)) (some_is (h Starts)) (some_is (h Tests)) (some_is (h Steps)) (some_is (h Groups)) (some_is (h Labels)) (some_is (h Label)))

pub on_NoValues : (class : TokenClass) (text : List ℕ) (place : Place) (v : Values) (left : Stack → ℕ) → Has action.NoValues v left → Gives (made action.NoValues class text place v) (after action.NoValues left)
unfolding times stack_number taken given
on_NoValues class text place v left h =
    by_stack _ _ (some_is (h Kept)) (some_is (h Expressions)) (some_is (h Arguments)) (some_is (h Types)) (some_is (h Bases)) (some_is (h Pointers)) (some_is (h Dimensions)) (some_is (h Declarators)) (some_is (h Parameters)) (some_is (h Statements)) (some_is (h Declarations)) (some_is (h Initializers)) (ap suc (some_is (h Braced))) (some_is (h Parts)) (some_is (h Actions)) (some_is (h Starts)) (some_is (h Tests)) (some_is (h Steps)) (some_is (h Groups)) (some_is (h Labels)) (some_is (h Label))

pub on_AddValue : (class : TokenClass) (text : List ℕ) (place : Place) (v : Values) (left : Stack → ℕ) → Has action.AddValue v left → Gives (made action.AddValue class text place v) (after action.AddValue left)
unfolding times stack_number taken given
on_AddValue class text place v left h =
    let initializers_now = first_of v.declarations.values (left Initializers) (h Initializers) in
    let braced_now = first_of v.declarations.braced (left Braced) (h Braced) in
    rw initializers_now.is (rw braced_now.is (by_stack _ _ (some_is (h Kept)) (some_is (h Expressions)) (some_is (h Arguments)) (some_is (h Types)) (some_is (h Bases)) (some_is (h Pointers)) (some_is (h Dimensions)) (some_is (h Declarators)) (some_is (h Parameters)) (some_is (h Statements)) (some_is (h Declarations)) initializers_now.counted (ap suc braced_now.counted) (some_is (h Parts)) (some_is (h Actions)) (some_is (h Starts)) (some_is (h Tests)) (some_is (h Steps)) (some_is (h Groups)) (some_is (h Labels)) (some_is (h Label))))

pub on_Braces : (class : TokenClass) (text : List ℕ) (place : Place) (v : Values) (left : Stack → ℕ) → Has action.Braces v left → Gives (made action.Braces class text place v) (after action.Braces left)
unfolding times stack_number taken given
on_Braces class text place v left h =
    let kept_now = first_of v.expressions.operands.kept (left Kept) (h Kept) in
    let braced_now = first_of v.declarations.braced (left Braced) (h Braced) in
    rw kept_now.is (rw braced_now.is (by_stack _ _ kept_now.counted (some_is (h Expressions)) (some_is (h Arguments)) (some_is (h Types)) (some_is (h Bases)) (some_is (h Pointers)) (some_is (h Dimensions)) (some_is (h Declarators)) (some_is (h Parameters)) (some_is (h Statements)) (some_is (h Declarations)) (ap suc (some_is (h Initializers))) braced_now.counted (some_is (h Parts)) (some_is (h Actions)) (some_is (h Starts)) (some_is (h Tests)) (some_is (h Steps)) (some_is (h Groups)) (some_is (h Labels)) (some_is (h Label))))

pub on_NoParts : (class : TokenClass) (text : List ℕ) (place : Place) (v : Values) (left : Stack → ℕ) → Has action.NoParts v left → Gives (made action.NoParts class text place v) (after action.NoParts left)
unfolding times stack_number taken given
on_NoParts class text place v left h =
    by_stack _ _ (some_is (h Kept)) (some_is (h Expressions)) (some_is (h Arguments)) (some_is (h Types)) (some_is (h Bases)) (some_is (h Pointers)) (some_is (h Dimensions)) (some_is (h Declarators)) (some_is (h Parameters)) (some_is (h Statements)) (some_is (h Declarations)) (some_is (h Initializers)) (some_is (h Braced)) (ap suc (some_is (h Parts))) (some_is (h Actions)) (some_is (h Starts)) (some_is (h Tests)) (some_is (h Steps)) (some_is (h Groups)) (some_is (h Labels)) (some_is (h Label))

pub on_AddLocal : (class : TokenClass) (text : List ℕ) (place : Place) (v : Values) (left : Stack → ℕ) → Has action.AddLocal v left → Gives (made action.AddLocal class text place v) (after action.AddLocal left)
unfolding times stack_number taken given
on_AddLocal class text place v left h =
    let declarations_now = first_of v.declarations.declarations (left Declarations) (h Declarations) in
    let parts_now = first_of v.statements.blocks (left Parts) (h Parts) in
    rw declarations_now.is (rw parts_now.is (by_stack _ _ (some_is (h Kept)) (some_is (h Expressions)) (some_is (h Arguments)) (some_is (h Types)) (some_is (h Bases)) (some_is (h Pointers)) (some_is (h Dimensions)) (some_is (h Declarators)) (some_is (h Parameters)) (some_is (h Statements)) declarations_now.counted (some_is (h Initializers)) (some_is (h Braced)) (ap suc parts_now.counted) (some_is (h Actions)) (some_is (h Starts)) (some_is (h Tests)) (some_is (h Steps)) (some_is (h Groups)) (some_is (h Labels)) (some_is (h Label))))

pub on_AddStmt : (class : TokenClass) (text : List ℕ) (place : Place) (v : Values) (left : Stack → ℕ) → Has action.AddStmt v left → Gives (made action.AddStmt class text place v) (after action.AddStmt left)
unfolding times stack_number taken given
on_AddStmt class text place v left h =
    let statements_now = first_of v.statements.statements (left Statements) (h Statements) in
    let parts_now = first_of v.statements.blocks (left Parts) (h Parts) in
    rw statements_now.is (rw parts_now.is (by_stack _ _ (some_is (h Kept)) (some_is (h Expressions)) (some_is (h Arguments)) (some_is (h Types)) (some_is (h Bases)) (some_is (h Pointers)) (some_is (h Dimensions)) (some_is (h Declarators)) (some_is (h Parameters)) statements_now.counted (some_is (h Declarations)) (some_is (h Initializers)) (some_is (h Braced)) (ap suc parts_now.counted) (some_is (h Actions)) (some_is (h Starts)) (some_is (h Tests)) (some_is (h Steps)) (some_is (h Groups)) (some_is (h Labels)) (some_is (h Label))))

pub on_Block : (class : TokenClass) (text : List ℕ) (place : Place) (v : Values) (left : Stack → ℕ) → Has action.Block v left → Gives (made action.Block class text place v) (after action.Block left)
unfolding times stack_number taken given
on_Block class text place v left h =
    let kept_now = first_of v.expressions.operands.kept (left Kept) (h Kept) in
    let parts_now = first_of v.statements.blocks (left Parts) (h Parts) in
    rw kept_now.is (rw parts_now.is (by_stack _ _ kept_now.counted (some_is (h Expressions)) (some_is (h Arguments)) (some_is (h Types)) (some_is (h Bases)) (some_is (h Pointers)) (some_is (h Dimensions)) (some_is (h Declarators)) (some_is (h Parameters)) (ap suc (some_is (h Statements))) (some_is (h Declarations)) (some_is (h Initializers)) (some_is (h Braced)) parts_now.counted (some_is (h Actions)) (some_is (h Starts)) (some_is (h Tests)) (some_is (h Steps)) (some_is (h Groups)) (some_is (h Labels)) (some_is (h Label))))

pub on_Empty : (class : TokenClass) (text : List ℕ) (place : Place) (v : Values) (left : Stack → ℕ) → Has action.Empty v left → Gives (made action.Empty class text place v) (after action.Empty left)
unfolding times stack_number taken given
on_Empty class text place v left h =
    by_stack _ _ (some_is (h Kept)) (some_is (h Expressions)) (some_is (h Arguments)) (some_is (h Types)) (some_is (h Bases)) (some_is (h Pointers)) (some_is (h Dimensions)) (some_is (h Declarators)) (some_is (h Parameters)) (ap suc (some_is (h Statements))) (some_is (h Declarations)) (some_is (h Initializers)) (some_is (h Braced)) (some_is (h Parts)) (some_is (h Actions)) (some_is (h Starts)) (some_is (h Tests)) (some_is (h Steps)) (some_is (h Groups)) (some_is (h Labels)) (some_is (h Label))

pub on_ActStmt : (class : TokenClass) (text : List ℕ) (place : Place) (v : Values) (left : Stack → ℕ) → Has action.ActStmt v left → Gives (made action.ActStmt class text place v) (after action.ActStmt left)
unfolding times stack_number taken given
on_ActStmt class text place v left h =
    let actions_now = first_of v.statements.acts (left Actions) (h Actions) in
    rw actions_now.is (by_stack _ _ (some_is (h Kept)) (some_is (h Expressions)) (some_is (h Arguments)) (some_is (h Types)) (some_is (h Bases)) (some_is (h Pointers)) (some_is (h Dimensions)) (some_is (h Declarators)) (some_is (h Parameters)) (ap suc (some_is (h Statements))) (some_is (h Declarations)) (some_is (h Initializers)) (some_is (h Braced)) (some_is (h Parts)) actions_now.counted (some_is (h Starts)) (some_is (h Tests)) (some_is (h Steps)) (some_is (h Groups)) (some_is (h Labels)) (some_is (h Label)))

pub on_Break : (class : TokenClass) (text : List ℕ) (place : Place) (v : Values) (left : Stack → ℕ) → Has action.Break v left → Gives (made action.Break class text place v) (after action.Break left)
unfolding times stack_number taken given
on_Break class text place v left h =
    by_stack _ _ (some_is (h Kept)) (some_is (h Expressions)) (some_is (h Arguments)) (some_is (h Types)) (some_is (h Bases)) (some_is (h Pointers)) (some_is (h Dimensions)) (some_is (h Declarators)) (some_is (h Parameters)) (ap suc (some_is (h Statements))) (some_is (h Declarations)) (some_is (h Initializers)) (some_is (h Braced)) (some_is (h Parts)) (some_is (h Actions)) (some_is (h Starts)) (some_is (h Tests)) (some_is (h Steps)) (some_is (h Groups)) (some_is (h Labels)) (some_is (h Label))

pub on_Continue : (class : TokenClass) (text : List ℕ) (place : Place) (v : Values) (left : Stack → ℕ) → Has action.Continue v left → Gives (made action.Continue class text place v) (after action.Continue left)
unfolding times stack_number taken given
on_Continue class text place v left h =
    by_stack _ _ (some_is (h Kept)) (some_is (h Expressions)) (some_is (h Arguments)) (some_is (h Types)) (some_is (h Bases)) (some_is (h Pointers)) (some_is (h Dimensions)) (some_is (h Declarators)) (some_is (h Parameters)) (ap suc (some_is (h Statements))) (some_is (h Declarations)) (some_is (h Initializers)) (some_is (h Braced)) (some_is (h Parts)) (some_is (h Actions)) (some_is (h Starts)) (some_is (h Tests)) (some_is (h Steps)) (some_is (h Groups)) (some_is (h Labels)) (some_is (h Label))

pub on_Return : (class : TokenClass) (text : List ℕ) (place : Place) (v : Values) (left : Stack → ℕ) → Has action.Return v left → Gives (made action.Return class text place v) (after action.Return left)
unfolding times stack_number taken given
on_Return class text place v left h =
    let kept_now = first_of v.expressions.operands.kept (left Kept) (h Kept) in
    rw kept_now.is (by_stack _ _ kept_now.counted (some_is (h Expressions)) (some_is (h Arguments)) (some_is (h Types)) (some_is (h Bases)) (some_is (h Pointers)) (some_is (h Dimensions)) (some_is (h Declarators)) (some_is (h Parameters)) (ap suc (some_is (h Statements))) (some_is (h Declarations)) (some_is (h Initializers)) (some_is (h Braced)) (some_is (h Parts)) (some_is (h Actions)) (some_is (h Starts)) (some_is (h Tests)) (some_is (h Steps)) (some_is (h Groups)) (some_is (h Labels)) (some_is (h Label)))

pub on_ReturnValue : (class : TokenClass) (text : List ℕ) (place : Place) (v : Values) (left : Stack → ℕ) → Has action.ReturnValue v left → Gives (made action.ReturnValue class text place v) (after action.ReturnValue left)
unfolding times stack_number taken given
on_ReturnValue class text place v left h =
    let kept_now = first_of v.expressions.operands.kept (left Kept) (h Kept) in
    let expressions_now = first_of v.expressions.operands.expressions (left Expressions) (h Expressions) in
    rw kept_now.is (rw expressions_now.is (by_stack _ _ kept_now.counted expressions_now.counted (some_is (h Arguments)) (some_is (h Types)) (some_is (h Bases)) (some_is (h Pointers)) (some_is (h Dimensions)) (some_is (h Declarators)) (some_is (h Parameters)) (ap suc (some_is (h Statements))) (some_is (h Declarations)) (some_is (h Initializers)) (some_is (h Braced)) (some_is (h Parts)) (some_is (h Actions)) (some_is (h Starts)) (some_is (h Tests)) (some_is (h Steps)) (some_is (h Groups)) (some_is (h Labels)) (some_is (h Label))))

pub on_If : (class : TokenClass) (text : List ℕ) (place : Place) (v : Values) (left : Stack → ℕ) → Has action.If v left → Gives (made action.If class text place v) (after action.If left)
unfolding times stack_number taken given
on_If class text place v left h =
    let kept_now = first_of v.expressions.operands.kept (left Kept) (h Kept) in
    let expressions_now = first_of v.expressions.operands.expressions (left Expressions) (h Expressions) in
    let statements_now = first_of v.statements.statements (left Statements) (h Statements) in
    rw kept_now.is (rw expressions_now.is (rw statements_now.is (by_stack _ _ kept_now.counted expressions_now.counted (some_is (h Arguments)) (some_is (h Types)) (some_is (h Bases)) (some_is (h Pointers)) (some_is (h Dimensions)) (some_is (h Declarators)) (some_is (h Parameters)) (ap suc statements_now.counted) (some_is (h Declarations)) (some_is (h Initializers)) (some_is (h Braced)) (some_is (h Parts)) (some_is (h Actions)) (some_is (h Starts)) (some_is (h Tests)) (some_is (h Steps)) (some_is (h Groups)) (some_is (h Labels)) (some_is (h Label)))))

pub on_IfElse : (class : TokenClass) (text : List ℕ) (place : Place) (v : Values) (left : Stack → ℕ) → Has action.IfElse v left → Gives (made action.IfElse class text place v) (after action.IfElse left)
unfolding times stack_number taken given
on_IfElse class text place v left h =
    let kept_now = first_of v.expressions.operands.kept (left Kept) (h Kept) in
    let expressions_now = first_of v.expressions.operands.expressions (left Expressions) (h Expressions) in
    let statements_now = two_of v.statements.statements (left Statements) (h Statements) in
    rw kept_now.is (rw expressions_now.is (rw statements_now.is (by_stack _ _ kept_now.counted expressions_now.counted (some_is (h Arguments)) (some_is (h Types)) (some_is (h Bases)) (some_is (h Pointers)) (some_is (h Dimensions)) (some_is (h Declarators)) (some_is (h Parameters)) (ap suc statements_now.counted) (some_is (h Declarations)) (some_is (h Initializers)) (some_is (h Braced)) (some_is (h Parts)) (some_is (h Actions)) (some_is (h Starts)) (some_is (h Tests)) (some_is (h Steps)) (some_is (h Groups)) (some_is (h Labels)) (some_is (h Label)))))

pub on_While : (class : TokenClass) (text : List ℕ) (place : Place) (v : Values) (left : Stack → ℕ) → Has action.While v left → Gives (made action.While class text place v) (after action.While left)
unfolding times stack_number taken given
on_While class text place v left h =
    let kept_now = first_of v.expressions.operands.kept (left Kept) (h Kept) in
    let expressions_now = first_of v.expressions.operands.expressions (left Expressions) (h Expressions) in
    let statements_now = first_of v.statements.statements (left Statements) (h Statements) in
    rw kept_now.is (rw expressions_now.is (rw statements_now.is (by_stack _ _ kept_now.counted expressions_now.counted (some_is (h Arguments)) (some_is (h Types)) (some_is (h Bases)) (some_is (h Pointers)) (some_is (h Dimensions)) (some_is (h Declarators)) (some_is (h Parameters)) (ap suc statements_now.counted) (some_is (h Declarations)) (some_is (h Initializers)) (some_is (h Braced)) (some_is (h Parts)) (some_is (h Actions)) (some_is (h Starts)) (some_is (h Tests)) (some_is (h Steps)) (some_is (h Groups)) (some_is (h Labels)) (some_is (h Label)))))

pub on_Do : (class : TokenClass) (text : List ℕ) (place : Place) (v : Values) (left : Stack → ℕ) → Has action.Do v left → Gives (made action.Do class text place v) (after action.Do left)
unfolding times stack_number taken given
on_Do class text place v left h =
    let kept_now = first_of v.expressions.operands.kept (left Kept) (h Kept) in
    let expressions_now = first_of v.expressions.operands.expressions (left Expressions) (h Expressions) in
    let statements_now = first_of v.statements.statements (left Statements) (h Statements) in
    rw kept_now.is (rw expressions_now.is (rw statements_now.is (by_stack _ _ kept_now.counted expressions_now.counted (some_is (h Arguments)) (some_is (h Types)) (some_is (h Bases)) (some_is (h Pointers)) (some_is (h Dimensions)) (some_is (h Declarators)) (some_is (h Parameters)) (ap suc statements_now.counted) (some_is (h Declarations)) (some_is (h Initializers)) (some_is (h Braced)) (some_is (h Parts)) (some_is (h Actions)) (some_is (h Starts)) (some_is (h Tests)) (some_is (h Steps)) (some_is (h Groups)) (some_is (h Labels)) (some_is (h Label)))))

pub on_For : (class : TokenClass) (text : List ℕ) (place : Place) (v : Values) (left : Stack → ℕ) → Has action.For v left → Gives (made action.For class text place v) (after action.For left)
unfolding times stack_number taken given
on_For class text place v left h =
    let kept_now = first_of v.expressions.operands.kept (left Kept) (h Kept) in
    let starts_now = first_of v.statements.starts (left Starts) (h Starts) in
    let tests_now = first_of v.statements.tests (left Tests) (h Tests) in
    let steps_now = first_of v.statements.lasts (left Steps) (h Steps) in
    let statements_now = first_of v.statements.statements (left Statements) (h Statements) in
    rw kept_now.is (rw starts_now.is (rw tests_now.is (rw steps_now.is (rw statements_now.is (by_stack _ _ kept_now.counted (some_is (h Expressions)) (some_is (h Arguments)) (some_is (h Types)) (some_is (h Bases)) (some_is (h Pointers)) (some_is (h Dimensions)) (some_is (h Declarators)) (some_is (h Parameters)) (ap suc statements_now.counted) (some_is (h Declarations)) (some_is (h Initializers)) (some_is (h Braced)) (some_is (h Parts)) (some_is (h Actions)) starts_now.counted tests_now.counted steps_now.counted (some_is (h Groups)) (some_is (h Labels)) (some_is (h Label)))))))

pub on_Switch : (class : TokenClass) (text : List ℕ) (place : Place) (v : Values) (left : Stack → ℕ) → Has action.Switch v left → Gives (made action.Switch class text place v) (after action.Switch left)
unfolding times stack_number taken given
on_Switch class text place v left h =
    let kept_now = first_of v.expressions.operands.kept (left Kept) (h Kept) in
    let expressions_now = first_of v.expressions.operands.expressions (left Expressions) (h Expressions) in
    let groups_now = first_of v.statements.groups (left Groups) (h Groups) in
    rw kept_now.is (rw expressions_now.is (rw groups_now.is (by_stack _ _ kept_now.counted expressions_now.counted (some_is (h Arguments)) (some_is (h Types)) (some_is (h Bases)) (some_is (h Pointers)) (some_is (h Dimensions)) (some_is (h Declarators)) (some_is (h Parameters)) (ap suc (some_is (h Statements))) (some_is (h Declarations)) (some_is (h Initializers)) (some_is (h Braced)) (some_is (h Parts)) (some_is (h Actions)) (some_is (h Starts)) (some_is (h Tests)) (some_is (h Steps)) groups_now.counted (some_is (h Labels)) (some_is (h Label)))))

pub on_ForLocal : (class : TokenClass) (text : List ℕ) (place : Place) (v : Values) (left : Stack → ℕ) → Has action.ForLocal v left → Gives (made action.ForLocal class text place v) (after action.ForLocal left)
unfolding times stack_number taken given
on_ForLocal class text place v left h =
    let declarations_now = first_of v.declarations.declarations (left Declarations) (h Declarations) in
    rw declarations_now.is (by_stack _ _ (some_is (h Kept)) (some_is (h Expressions)) (some_is (h Arguments)) (some_is (h Types)) (some_is (h Bases)) (some_is (h Pointers)) (some_is (h Dimensions)) (some_is (h Declarators)) (some_is (h Parameters)) (some_is (h Statements)) declarations_now.counted (some_is (h Initializers)) (some_is (h Braced)) (some_is (h Parts)) (some_is (h Actions)) (ap suc (some_is (h Starts))) (some_is (h Tests)) (some_is (h Steps)) (some_is (h Groups)) (some_is (h Labels)) (some_is (h Label)))

pub on_ForActs : (class : TokenClass) (text : List ℕ) (place : Place) (v : Values) (left : Stack → ℕ) → Has action.ForActs v left → Gives (made action.ForActs class text place v) (after action.ForActs left)
unfolding times stack_number taken given
on_ForActs class text place v left h =
    by_stack _ _ (some_is (h Kept)) (some_is (h Expressions)) (some_is (h Arguments)) (some_is (h Types)) (some_is (h Bases)) (some_is (h Pointers)) (some_is (h Dimensions)) (some_is (h Declarators)) (some_is (h Parameters)) (some_is (h Statements)) (some_is (h Declarations)) (some_is (h Initializers)) (some_is (h Braced)) (some_is (h Parts)) (some_is (h Actions)) (ap suc (some_is (h Starts))) (some_is (h Tests)) (some_is (h Steps)) (some_is (h Groups)) (some_is (h Labels)) (some_is (h Label))

pub on_ForNothing : (class : TokenClass) (text : List ℕ) (place : Place) (v : Values) (left : Stack → ℕ) → Has action.ForNothing v left → Gives (made action.ForNothing class text place v) (after action.ForNothing left)
unfolding times stack_number taken given
on_ForNothing class text place v left h =
    by_stack _ _ (some_is (h Kept)) (some_is (h Expressions)) (some_is (h Arguments)) (some_is (h Types)) (some_is (h Bases)) (some_is (h Pointers)) (some_is (h Dimensions)) (some_is (h Declarators)) (some_is (h Parameters)) (some_is (h Statements)) (some_is (h Declarations)) (some_is (h Initializers)) (some_is (h Braced)) (some_is (h Parts)) (some_is (h Actions)) (ap suc (some_is (h Starts))) (some_is (h Tests)) (some_is (h Steps)) (some_is (h Groups)) (some_is (h Labels)) (some_is (h Label))

pub on_ForCond : (class : TokenClass) (text : List ℕ) (place : Place) (v : Values) (left : Stack → ℕ) → Has action.ForCond v left → Gives (made action.ForCond class text place v) (after action.ForCond left)
unfolding times stack_number taken given
on_ForCond class text place v left h =
    let expressions_now = first_of v.expressions.operands.expressions (left Expressions) (h Expressions) in
    rw expressions_now.is (by_stack _ _ (some_is (h Kept)) expressions_now.counted (some_is (h Arguments)) (some_is (h Types)) (some_is (h Bases)) (some_is (h Pointers)) (some_is (h Dimensions)) (some_is (h Declarators)) (some_is (h Parameters)) (some_is (h Statements)) (some_is (h Declarations)) (some_is (h Initializers)) (some_is (h Braced)) (some_is (h Parts)) (some_is (h Actions)) (some_is (h Starts)) (ap suc (some_is (h Tests))) (some_is (h Steps)) (some_is (h Groups)) (some_is (h Labels)) (some_is (h Label)))

pub on_ForEver : (class : TokenClass) (text : List ℕ) (place : Place) (v : Values) (left : Stack → ℕ) → Has action.ForEver v left → Gives (made action.ForEver class text place v) (after action.ForEver left)
unfolding times stack_number taken given
on_ForEver class text place v left h =
    by_stack _ _ (some_is (h Kept)) (some_is (h Expressions)) (some_is (h Arguments)) (some_is (h Types)) (some_is (h Bases)) (some_is (h Pointers)) (some_is (h Dimensions)) (some_is (h Declarators)) (some_is (h Parameters)) (some_is (h Statements)) (some_is (h Declarations)) (some_is (h Initializers)) (some_is (h Braced)) (some_is (h Parts)) (some_is (h Actions)) (some_is (h Starts)) (ap suc (some_is (h Tests))) (some_is (h Steps)) (some_is (h Groups)) (some_is (h Labels)) (some_is (h Label))

pub on_ForStep : (class : TokenClass) (text : List ℕ) (place : Place) (v : Values) (left : Stack → ℕ) → Has action.ForStep v left → Gives (made action.ForStep class text place v) (after action.ForStep left)
unfolding times stack_number taken given
on_ForStep class text place v left h =
    by_stack _ _ (some_is (h Kept)) (some_is (h Expressions)) (some_is (h Arguments)) (some_is (h Types)) (some_is (h Bases)) (some_is (h Pointers)) (some_is (h Dimensions)) (some_is (h Declarators)) (some_is (h Parameters)) (some_is (h Statements)) (some_is (h Declarations)) (some_is (h Initializers)) (some_is (h Braced)) (some_is (h Parts)) (some_is (h Actions)) (some_is (h Starts)) (some_is (h Tests)) (ap suc (some_is (h Steps))) (some_is (h Groups)) (some_is (h Labels)) (some_is (h Label))

pub on_NoStep : (class : TokenClass) (text : List ℕ) (place : Place) (v : Values) (left : Stack → ℕ) → Has action.NoStep v left → Gives (made action.NoStep class text place v) (after action.NoStep left)
unfolding times stack_number taken given
on_NoStep class text place v left h =
    by_stack _ _ (some_is (h Kept)) (some_is (h Expressions)) (some_is (h Arguments)) (some_is (h Types)) (some_is (h Bases)) (some_is (h Pointers)) (some_is (h Dimensions)) (some_is (h Declarators)) (some_is (h Parameters)) (some_is (h Statements)) (some_is (h Declarations)) (some_is (h Initializers)) (some_is (h Braced)) (some_is (h Parts)) (some_is (h Actions)) (some_is (h Starts)) (some_is (h Tests)) (ap suc (some_is (h Steps))) (some_is (h Groups)) (some_is (h Labels)) (some_is (h Label))

pub on_NoGroups : (class : TokenClass) (text : List ℕ) (place : Place) (v : Values) (left : Stack → ℕ) → Has action.NoGroups v left → Gives (made action.NoGroups class text place v) (after action.NoGroups left)
unfolding times stack_number taken given
on_NoGroups class text place v left h =
    by_stack _ _ (some_is (h Kept)) (some_is (h Expressions)) (some_is (h Arguments)) (some_is (h Types)) (some_is (h Bases)) (some_is (h Pointers)) (some_is (h Dimensions)) (some_is (h Declarators)) (some_is (h Parameters)) (some_is (h Statements)) (some_is (h Declarations)) (some_is (h Initializers)) (some_is (h Braced)) (some_is (h Parts)) (some_is (h Actions)) (some_is (h Starts)) (some_is (h Tests)) (some_is (h Steps)) (ap suc (some_is (h Groups))) (some_is (h Labels)) (some_is (h Label))

pub on_NoLabels : (class : TokenClass) (text : List ℕ) (place : Place) (v : Values) (left : Stack → ℕ) → Has action.NoLabels v left → Gives (made action.NoLabels class text place v) (after action.NoLabels left)
unfolding times stack_number taken given
on_NoLabels class text place v left h =
    by_stack _ _ (some_is (h Kept)) (some_is (h Expressions)) (some_is (h Arguments)) (some_is (h Types)) (some_is (h Bases)) (some_is (h Pointers)) (some_is (h Dimensions)) (some_is (h Declarators)) (some_is (h Parameters)) (some_is (h Statements)) (some_is (h Declarations)) (some_is (h Initializers)) (some_is (h Braced)) (some_is (h Parts)) (some_is (h Actions)) (some_is (h Starts)) (some_is (h Tests)) (some_is (h Steps)) (some_is (h Groups)) (ap suc (some_is (h Labels))) (some_is (h Label))

pub on_AddLabel : (class : TokenClass) (text : List ℕ) (place : Place) (v : Values) (left : Stack → ℕ) → Has action.AddLabel v left → Gives (made action.AddLabel class text place v) (after action.AddLabel left)
unfolding times stack_number taken given
on_AddLabel class text place v left h =
    let label_now = first_of v.statements.label (left Label) (h Label) in
    let labels_now = first_of v.statements.labels (left Labels) (h Labels) in
    rw label_now.is (rw labels_now.is (by_stack _ _ (some_is (h Kept)) (some_is (h Expressions)) (some_is (h Arguments)) (some_is (h Types)) (some_is (h Bases)) (some_is (h Pointers)) (some_is (h Dimensions)) (some_is (h Declarators)) (some_is (h Parameters)) (some_is (h Statements)) (some_is (h Declarations)) (some_is (h Initializers)) (some_is (h Braced)) (some_is (h Parts)) (some_is (h Actions)) (some_is (h Starts)) (some_is (h Tests)) (some_is (h Steps)) (some_is (h Groups)) (ap suc labels_now.counted) label_now.counted))

pub on_AddGroup : (class : TokenClass) (text : List ℕ) (place : Place) (v : Values) (left : Stack → ℕ) → Has action.AddGroup v left → Gives (made action.AddGroup class text place v) (after action.AddGroup left)
unfolding times stack_number taken given
on_AddGroup class text place v left h =
    let labels_now = first_of v.statements.labels (left Labels) (h Labels) in
    let parts_now = first_of v.statements.blocks (left Parts) (h Parts) in
    let groups_now = first_of v.statements.groups (left Groups) (h Groups) in
    rw labels_now.is (rw parts_now.is (rw groups_now.is (by_stack _ _ (some_is (h Kept)) (some_is (h Expressions)) (some_is (h Arguments)) (some_is (h Types)) (some_is (h Bases)) (some_is (h Pointers)) (some_is (h Dimensions)) (some_is (h Declarators)) (some_is (h Parameters)) (some_is (h Statements)) (some_is (h Declarations)) (some_is (h Initializers)) (some_is (h Braced)) parts_now.counted (some_is (h Actions)) (some_is (h Starts)) (some_is (h Tests)) (some_is (h Steps)) (ap suc groups_now.counted) labels_now.counted (some_is (h Label)))))

pub on_Case : (class : TokenClass) (text : List ℕ) (place : Place) (v : Values) (left : Stack → ℕ) → Has action.Case v left → Gives (made action.Case class text place v) (after action.Case left)
unfolding times stack_number taken given
on_Case class text place v left h =
    let kept_now = first_of v.expressions.operands.kept (left Kept) (h Kept) in
    let expressions_now = first_of v.expressions.operands.expressions (left Expressions) (h Expressions) in
    rw kept_now.is (rw expressions_now.is (by_stack _ _ kept_now.counted expressions_now.counted (some_is (h Arguments)) (some_is (h Types)) (some_is (h Bases)) (some_is (h Pointers)) (some_is (h Dimensions)) (some_is (h Declarators)) (some_is (h Parameters)) (some_is (h Statements)) (some_is (h Declarations)) (some_is (h Initializers)) (some_is (h Braced)) (some_is (h Parts)) (some_is (h Actions)) (some_is (h Starts)) (some_is (h Tests)) (some_is (h Steps)) (some_is (h Groups)) (some_is (h Labels)) (ap suc (some_is (h Label)))))

pub on_Default : (class : TokenClass) (text : List ℕ) (place : Place) (v : Values) (left : Stack → ℕ) → Has action.Default v left → Gives (made action.Default class text place v) (after action.Default left)
unfolding times stack_number taken given
on_Default class text place v left h =
    by_stack _ _ (some_is (h Kept)) (some_is (h Expressions)) (some_is (h Arguments)) (some_is (h Types)) (some_is (h Bases)) (some_is (h Pointers)) (some_is (h Dimensions)) (some_is (h Declarators)) (some_is (h Parameters)) (some_is (h Statements)) (some_is (h Declarations)) (some_is (h Initializers)) (some_is (h Braced)) (some_is (h Parts)) (some_is (h Actions)) (some_is (h Starts)) (some_is (h Tests)) (some_is (h Steps)) (some_is (h Groups)) (some_is (h Labels)) (ap suc (some_is (h Label)))

pub on_AddAct : (class : TokenClass) (text : List ℕ) (place : Place) (v : Values) (left : Stack → ℕ) → Has action.AddAct v left → Gives (made action.AddAct class text place v) (after action.AddAct left)
unfolding times stack_number taken given
on_AddAct class text place v left h =
    let actions_now = first_of v.statements.acts (left Actions) (h Actions) in
    rw actions_now.is (by_stack _ _ (some_is (h Kept)) (some_is (h Expressions)) (some_is (h Arguments)) (some_is (h Types)) (some_is (h Bases)) (some_is (h Pointers)) (some_is (h Dimensions)) (some_is (h Declarators)) (some_is (h Parameters)) (some_is (h Statements)) (some_is (h Declarations)) (some_is (h Initializers)) (some_is (h Braced)) (some_is (h Parts)) actions_now.counted (some_is (h Starts)) (some_is (h Tests)) (some_is (h Steps)) (some_is (h Groups)) (some_is (h Labels)) (some_is (h Label)))

pub on_StepBefore : (class : TokenClass) (text : List ℕ) (place : Place) (v : Values) (left : Stack → ℕ) → Has action.StepBefore v left → Gives (made action.StepBefore class text place v) (after action.StepBefore left)
unfolding times stack_number taken given
on_StepBefore class text place v left h =
    let kept_now = first_of v.expressions.operands.kept (left Kept) (h Kept) in
    let expressions_now = first_of v.expressions.operands.expressions (left Expressions) (h Expressions) in
    rw kept_now.is (rw expressions_now.is (by_stack _ _ kept_now.counted expressions_now.counted (some_is (h Arguments)) (some_is (h Types)) (some_is (h Bases)) (some_is (h Pointers)) (some_is (h Dimensions)) (some_is (h Declarators)) (some_is (h Parameters)) (some_is (h Statements)) (some_is (h Declarations)) (some_is (h Initializers)) (some_is (h Braced)) (some_is (h Parts)) (ap suc (some_is (h Actions))) (some_is (h Starts)) (some_is (h Tests)) (some_is (h Steps)) (some_is (h Groups)) (some_is (h Labels)) (some_is (h Label))))

pub on_StepAfter : (class : TokenClass) (text : List ℕ) (place : Place) (v : Values) (left : Stack → ℕ) → Has action.StepAfter v left → Gives (made action.StepAfter class text place v) (after action.StepAfter left)
unfolding times stack_number taken given
on_StepAfter class text place v left h =
    let expressions_now = first_of v.expressions.operands.expressions (left Expressions) (h Expressions) in
    rw expressions_now.is (by_stack _ _ (some_is (h Kept)) expressions_now.counted (some_is (h Arguments)) (some_is (h Types)) (some_is (h Bases)) (some_is (h Pointers)) (some_is (h Dimensions)) (some_is (h Declarators)) (some_is (h Parameters)) (some_is (h Statements)) (some_is (h Declarations)) (some_is (h Initializers)) (some_is (h Braced)) (some_is (h Parts)) (ap suc (some_is (h Actions))) (some_is (h Starts)) (some_is (h Tests)) (some_is (h Steps)) (some_is (h Groups)) (some_is (h Labels)) (some_is (h Label)))

pub on_Discard : (class : TokenClass) (text : List ℕ) (place : Place) (v : Values) (left : Stack → ℕ) → Has action.Discard v left → Gives (made action.Discard class text place v) (after action.Discard left)
unfolding times stack_number taken given
on_Discard class text place v left h =
    let kept_now = first_of v.expressions.operands.kept (left Kept) (h Kept) in
    let expressions_now = first_of v.expressions.operands.expressions (left Expressions) (h Expressions) in
    rw kept_now.is (rw expressions_now.is (by_stack _ _ kept_now.counted expressions_now.counted (some_is (h Arguments)) (some_is (h Types)) (some_is (h Bases)) (some_is (h Pointers)) (some_is (h Dimensions)) (some_is (h Declarators)) (some_is (h Parameters)) (some_is (h Statements)) (some_is (h Declarations)) (some_is (h Initializers)) (some_is (h Braced)) (some_is (h Parts)) (ap suc (some_is (h Actions))) (some_is (h Starts)) (some_is (h Tests)) (some_is (h Steps)) (some_is (h Groups)) (some_is (h Labels)) (some_is (h Label))))

pub on_Assign : (class : TokenClass) (text : List ℕ) (place : Place) (v : Values) (left : Stack → ℕ) → Has action.Assign v left → Gives (made action.Assign class text place v) (after action.Assign left)
unfolding times stack_number taken given
on_Assign class text place v left h =
    let kept_now = first_of v.expressions.operands.kept (left Kept) (h Kept) in
    let expressions_now = two_of v.expressions.operands.expressions (left Expressions) (h Expressions) in
    rw kept_now.is (rw expressions_now.is (by_stack _ _ kept_now.counted expressions_now.counted (some_is (h Arguments)) (some_is (h Types)) (some_is (h Bases)) (some_is (h Pointers)) (some_is (h Dimensions)) (some_is (h Declarators)) (some_is (h Parameters)) (some_is (h Statements)) (some_is (h Declarations)) (some_is (h Initializers)) (some_is (h Braced)) (some_is (h Parts)) (ap suc (some_is (h Actions))) (some_is (h Starts)) (some_is (h Tests)) (some_is (h Steps)) (some_is (h Groups)) (some_is (h Labels)) (some_is (h Label))))

pub on_Evaluate : (class : TokenClass) (text : List ℕ) (place : Place) (v : Values) (left : Stack → ℕ) → Has action.Evaluate v left → Gives (made action.Evaluate class text place v) (after action.Evaluate left)
unfolding times stack_number taken given
on_Evaluate class text place v left h =
    let expressions_now = first_of v.expressions.operands.expressions (left Expressions) (h Expressions) in
    rw expressions_now.is (by_stack _ _ (some_is (h Kept)) expressions_now.counted (some_is (h Arguments)) (some_is (h Types)) (some_is (h Bases)) (some_is (h Pointers)) (some_is (h Dimensions)) (some_is (h Declarators)) (some_is (h Parameters)) (some_is (h Statements)) (some_is (h Declarations)) (some_is (h Initializers)) (some_is (h Braced)) (some_is (h Parts)) (ap suc (some_is (h Actions))) (some_is (h Starts)) (some_is (h Tests)) (some_is (h Steps)) (some_is (h Groups)) (some_is (h Labels)) (some_is (h Label)))
