-- No action lacks its values: the steps of a file make its items.
use Rattle.std.proofs.Common.{◌≡◌, ℕ, List, [], ◌∷◌, length, refl, sym, ap, Option, Some, None}
use Rattle.std.specs.Prelude.{option_map}
use Rattle.std.specs.Option.{option_and_then}
use Rattle.rvt_tree.specs.declared.places.Place.{Place}
use Rattle.c_tokens.specs.declared.tokens.TokenClass.{TokenClass}
use Rattle.c_tokens.specs.declared.tokens.TokenClass.TheVariants as T
use Rattle.c_lexer.specs.Texts.{text_of}
use Rattle.c_lexer.specs.declared.tokens.Token.{Token}
use Rattle.c_parser.specs.declared.symbol.Step.{Step}
use Rattle.c_parser.specs.declared.symbol.Step.TheVariants as S
use Rattle.c_parser.specs.File.{IsFile}
use Rattle.c_parser.specs.Rules.{Row, OneOf}
use Rattle.c_grammar.specs.declared.grammar.Action.{Action}
use Rattle.c_grammar.specs.declared.grammar.Action.TheVariants as action
use Rattle.c_grammar.specs.declared.grammar.Class.{Class}
use Rattle.c_grammar.specs.declared.grammar.Line.{Line}
use Rattle.c_grammar.specs.Grammar.{rules, table}
use Rattle.c_grammar.specs.GrammarHolds.{is_right}
use Rattle.c_grammar.specs.Terminals.{terminals_of}
use Rattle.c_grammar.proofs.Refusing.{as_many}
use Rattle.stack_effects.specs.Effects.{less, more, after_row, Acts, after_steps as steps_make}
use Rattle.stack_effects.proofs.EffectLemmas.{makes, balanced_by}
use Rattle.file_actions.specs.Made.{made}
use Rattle.file_actions.specs.Stacks.{Values, nothing_read}
use Rattle.file_actions.specs.Tree.{after_steps, items_of, tree_place}
use Rattle.c_source.specs.EffectsHold.{effects, times, stack_number, stack_at, holds}
use Rattle.c_source.specs.Sizes.{count, size}
use Rattle.c_source.specs.StackEffects.{Stack, Kept, Expressions, Arguments, Types, Bases, Pointers, Dimensions, Declarators, Parameters, Statements, Declarations, Initializers, Braced, Parts, Actions, Starts, Tests, Steps, Groups, Labels, Label, stacks, taken, given, needed, left}
use Rattle.c_source.proofs.ActionEffects as effect
use Rattle.c_source.proofs.ActionEffects.{Gives, after}

-- what an action sees of the token that was read last
record Seen : Type 0 where
  class : TokenClass
  text : List ℕ
  place : Place

abbrev seen : List ℕ → Token → Seen
seen bytes t = record { class = t.class; text = text_of bytes t; place = tree_place t.place }

abbrev make : Action → Seen → Values → Option Values
make a x v = made a x.class x.text x.place v

-- ---- each action finds its values

found : (o : Option Values) (f : Stack → ℕ) → Gives o f → (v : Values) × (o ≡ Some v) × ((i : Stack) → size v i ≡ f i)
found None f h = absurd h
found (Some v) f h = (v, refl, h)

acts : Acts effects make size
unfolding effects
acts action.Keep x v left h = found (made action.Keep x.class x.text x.place v) (after action.Keep left) (effect.on_Keep x.class x.text x.place v left h)
acts action.Name x v left h = found (made action.Name x.class x.text x.place v) (after action.Name left) (effect.on_Name x.class x.text x.place v left h)
acts action.Constant x v left h = found (made action.Constant x.class x.text x.place v) (after action.Constant left) (effect.on_Constant x.class x.text x.place v left h)
acts action.NoArguments x v left h = found (made action.NoArguments x.class x.text x.place v) (after action.NoArguments left) (effect.on_NoArguments x.class x.text x.place v left h)
acts action.AddArgument x v left h = found (made action.AddArgument x.class x.text x.place v) (after action.AddArgument left) (effect.on_AddArgument x.class x.text x.place v left h)
acts action.Call x v left h = found (made action.Call x.class x.text x.place v) (after action.Call left) (effect.on_Call x.class x.text x.place v left h)
acts action.Paren x v left h = found (made action.Paren x.class x.text x.place v) (after action.Paren left) (effect.on_Paren x.class x.text x.place v left h)
acts action.Index x v left h = found (made action.Index x.class x.text x.place v) (after action.Index left) (effect.on_Index x.class x.text x.place v left h)
acts action.Dot x v left h = found (made action.Dot x.class x.text x.place v) (after action.Dot left) (effect.on_Dot x.class x.text x.place v left h)
acts action.Arrow x v left h = found (made action.Arrow x.class x.text x.place v) (after action.Arrow left) (effect.on_Arrow x.class x.text x.place v left h)
acts action.Unary x v left h = found (made action.Unary x.class x.text x.place v) (after action.Unary left) (effect.on_Unary x.class x.text x.place v left h)
acts action.Cast x v left h = found (made action.Cast x.class x.text x.place v) (after action.Cast left) (effect.on_Cast x.class x.text x.place v left h)
acts action.Sizeof x v left h = found (made action.Sizeof x.class x.text x.place v) (after action.Sizeof left) (effect.on_Sizeof x.class x.text x.place v left h)
acts action.SizeofType x v left h = found (made action.SizeofType x.class x.text x.place v) (after action.SizeofType left) (effect.on_SizeofType x.class x.text x.place v left h)
acts action.Binary x v left h = found (made action.Binary x.class x.text x.place v) (after action.Binary left) (effect.on_Binary x.class x.text x.place v left h)
acts action.Conditional x v left h = found (made action.Conditional x.class x.text x.place v) (after action.Conditional left) (effect.on_Conditional x.class x.text x.place v left h)
acts action.NewBase x v left h = found (made action.NewBase x.class x.text x.place v) (after action.NewBase left) (effect.on_NewBase x.class x.text x.place v left h)
acts action.Begin x v left h = found (made action.Begin x.class x.text x.place v) (after action.Begin left) (effect.on_Begin x.class x.text x.place v left h)
acts action.Const x v left h = found (made action.Const x.class x.text x.place v) (after action.Const left) (effect.on_Const x.class x.text x.place v left h)
acts action.Void x v left h = found (made action.Void x.class x.text x.place v) (after action.Void left) (effect.on_Void x.class x.text x.place v left h)
acts action.Word x v left h = found (made action.Word x.class x.text x.place v) (after action.Word left) (effect.on_Word x.class x.text x.place v left h)
acts action.Named x v left h = found (made action.Named x.class x.text x.place v) (after action.Named left) (effect.on_Named x.class x.text x.place v left h)
acts action.StructTag x v left h = found (made action.StructTag x.class x.text x.place v) (after action.StructTag left) (effect.on_StructTag x.class x.text x.place v left h)
acts action.NoStructTag x v left h = found (made action.NoStructTag x.class x.text x.place v) (after action.NoStructTag left) (effect.on_NoStructTag x.class x.text x.place v left h)
acts action.EnumTag x v left h = found (made action.EnumTag x.class x.text x.place v) (after action.EnumTag left) (effect.on_EnumTag x.class x.text x.place v left h)
acts action.NoEnumTag x v left h = found (made action.NoEnumTag x.class x.text x.place v) (after action.NoEnumTag left) (effect.on_NoEnumTag x.class x.text x.place v left h)
acts action.Pointer x v left h = found (made action.Pointer x.class x.text x.place v) (after action.Pointer left) (effect.on_Pointer x.class x.text x.place v left h)
acts action.NoPointer x v left h = found (made action.NoPointer x.class x.text x.place v) (after action.NoPointer left) (effect.on_NoPointer x.class x.text x.place v left h)
acts action.PointerConst x v left h = found (made action.PointerConst x.class x.text x.place v) (after action.PointerConst left) (effect.on_PointerConst x.class x.text x.place v left h)
acts action.NoDims x v left h = found (made action.NoDims x.class x.text x.place v) (after action.NoDims left) (effect.on_NoDims x.class x.text x.place v left h)
acts action.Dim x v left h = found (made action.Dim x.class x.text x.place v) (after action.Dim left) (effect.on_Dim x.class x.text x.place v left h)
acts action.OpenDim x v left h = found (made action.OpenDim x.class x.text x.place v) (after action.OpenDim left) (effect.on_OpenDim x.class x.text x.place v left h)
acts action.Type x v left h = found (made action.Type x.class x.text x.place v) (after action.Type left) (effect.on_Type x.class x.text x.place v left h)
acts action.Declarator x v left h = found (made action.Declarator x.class x.text x.place v) (after action.Declarator left) (effect.on_Declarator x.class x.text x.place v left h)
acts action.AddDeclarator x v left h = found (made action.AddDeclarator x.class x.text x.place v) (after action.AddDeclarator left) (effect.on_AddDeclarator x.class x.text x.place v left h)
acts action.NamedParam x v left h = found (made action.NamedParam x.class x.text x.place v) (after action.NamedParam left) (effect.on_NamedParam x.class x.text x.place v left h)
acts action.BareParam x v left h = found (made action.BareParam x.class x.text x.place v) (after action.BareParam left) (effect.on_BareParam x.class x.text x.place v left h)
acts action.NoParams x v left h = found (made action.NoParams x.class x.text x.place v) (after action.NoParams left) (effect.on_NoParams x.class x.text x.place v left h)
acts action.LoneVoid x v left h = found (made action.LoneVoid x.class x.text x.place v) (after action.LoneVoid left) (effect.on_LoneVoid x.class x.text x.place v left h)
acts action.Params x v left h = found (made action.Params x.class x.text x.place v) (after action.Params left) (effect.on_Params x.class x.text x.place v left h)
acts action.Prototype x v left h = found (made action.Prototype x.class x.text x.place v) (after action.Prototype left) (effect.on_Prototype x.class x.text x.place v left h)
acts action.Function x v left h = found (made action.Function x.class x.text x.place v) (after action.Function left) (effect.on_Function x.class x.text x.place v left h)
acts action.BaseAlone x v left h = found (made action.BaseAlone x.class x.text x.place v) (after action.BaseAlone left) (effect.on_BaseAlone x.class x.text x.place v left h)
acts action.Objects x v left h = found (made action.Objects x.class x.text x.place v) (after action.Objects left) (effect.on_Objects x.class x.text x.place v left h)
acts action.Typedef x v left h = found (made action.Typedef x.class x.text x.place v) (after action.Typedef left) (effect.on_Typedef x.class x.text x.place v left h)
acts action.Field x v left h = found (made action.Field x.class x.text x.place v) (after action.Field left) (effect.on_Field x.class x.text x.place v left h)
acts action.Fields x v left h = found (made action.Fields x.class x.text x.place v) (after action.Fields left) (effect.on_Fields x.class x.text x.place v left h)
acts action.EnumeratorWith x v left h = found (made action.EnumeratorWith x.class x.text x.place v) (after action.EnumeratorWith left) (effect.on_EnumeratorWith x.class x.text x.place v left h)
acts action.EnumeratorBare x v left h = found (made action.EnumeratorBare x.class x.text x.place v) (after action.EnumeratorBare left) (effect.on_EnumeratorBare x.class x.text x.place v left h)
acts action.Enumerators x v left h = found (made action.Enumerators x.class x.text x.place v) (after action.Enumerators left) (effect.on_Enumerators x.class x.text x.place v left h)
acts action.InitWith x v left h = found (made action.InitWith x.class x.text x.place v) (after action.InitWith left) (effect.on_InitWith x.class x.text x.place v left h)
acts action.InitBare x v left h = found (made action.InitBare x.class x.text x.place v) (after action.InitBare left) (effect.on_InitBare x.class x.text x.place v left h)
acts action.Declaration x v left h = found (made action.Declaration x.class x.text x.place v) (after action.Declaration left) (effect.on_Declaration x.class x.text x.place v left h)
acts action.CondValue x v left h = found (made action.CondValue x.class x.text x.place v) (after action.CondValue left) (effect.on_CondValue x.class x.text x.place v left h)
acts action.NoValues x v left h = found (made action.NoValues x.class x.text x.place v) (after action.NoValues left) (effect.on_NoValues x.class x.text x.place v left h)
acts action.AddValue x v left h = found (made action.AddValue x.class x.text x.place v) (after action.AddValue left) (effect.on_AddValue x.class x.text x.place v left h)
acts action.Braces x v left h = found (made action.Braces x.class x.text x.place v) (after action.Braces left) (effect.on_Braces x.class x.text x.place v left h)
acts action.NoParts x v left h = found (made action.NoParts x.class x.text x.place v) (after action.NoParts left) (effect.on_NoParts x.class x.text x.place v left h)
acts action.AddLocal x v left h = found (made action.AddLocal x.class x.text x.place v) (after action.AddLocal left) (effect.on_AddLocal x.class x.text x.place v left h)
acts action.AddStmt x v left h = found (made action.AddStmt x.class x.text x.place v) (after action.AddStmt left) (effect.on_AddStmt x.class x.text x.place v left h)
acts action.Block x v left h = found (made action.Block x.class x.text x.place v) (after action.Block left) (effect.on_Block x.class x.text x.place v left h)
acts action.Empty x v left h = found (made action.Empty x.class x.text x.place v) (after action.Empty left) (effect.on_Empty x.class x.text x.place v left h)
acts action.ActStmt x v left h = found (made action.ActStmt x.class x.text x.place v) (after action.ActStmt left) (effect.on_ActStmt x.class x.text x.place v left h)
acts action.Break x v left h = found (made action.Break x.class x.text x.place v) (after action.Break left) (effect.on_Break x.class x.text x.place v left h)
acts action.Continue x v left h = found (made action.Continue x.class x.text x.place v) (after action.Continue left) (effect.on_Continue x.class x.text x.place v left h)
acts action.Return x v left h = found (made action.Return x.class x.text x.place v) (after action.Return left) (effect.on_Return x.class x.text x.place v left h)
acts action.ReturnValue x v left h = found (made action.ReturnValue x.class x.text x.place v) (after action.ReturnValue left) (effect.on_ReturnValue x.class x.text x.place v left h)
acts action.If x v left h = found (made action.If x.class x.text x.place v) (after action.If left) (effect.on_If x.class x.text x.place v left h)
acts action.IfElse x v left h = found (made action.IfElse x.class x.text x.place v) (after action.IfElse left) (effect.on_IfElse x.class x.text x.place v left h)
acts action.While x v left h = found (made action.While x.class x.text x.place v) (after action.While left) (effect.on_While x.class x.text x.place v left h)
acts action.Do x v left h = found (made action.Do x.class x.text x.place v) (after action.Do left) (effect.on_Do x.class x.text x.place v left h)
acts action.For x v left h = found (made action.For x.class x.text x.place v) (after action.For left) (effect.on_For x.class x.text x.place v left h)
acts action.Switch x v left h = found (made action.Switch x.class x.text x.place v) (after action.Switch left) (effect.on_Switch x.class x.text x.place v left h)
acts action.ForLocal x v left h = found (made action.ForLocal x.class x.text x.place v) (after action.ForLocal left) (effect.on_ForLocal x.class x.text x.place v left h)
acts action.ForActs x v left h = found (made action.ForActs x.class x.text x.place v) (after action.ForActs left) (effect.on_ForActs x.class x.text x.place v left h)
acts action.ForNothing x v left h = found (made action.ForNothing x.class x.text x.place v) (after action.ForNothing left) (effect.on_ForNothing x.class x.text x.place v left h)
acts action.ForCond x v left h = found (made action.ForCond x.class x.text x.place v) (after action.ForCond left) (effect.on_ForCond x.class x.text x.place v left h)
acts action.ForEver x v left h = found (made action.ForEver x.class x.text x.place v) (after action.ForEver left) (effect.on_ForEver x.class x.text x.place v left h)
acts action.ForStep x v left h = found (made action.ForStep x.class x.text x.place v) (after action.ForStep left) (effect.on_ForStep x.class x.text x.place v left h)
acts action.NoStep x v left h = found (made action.NoStep x.class x.text x.place v) (after action.NoStep left) (effect.on_NoStep x.class x.text x.place v left h)
acts action.NoGroups x v left h = found (made action.NoGroups x.class x.text x.place v) (after action.NoGroups left) (effect.on_NoGroups x.class x.text x.place v left h)
acts action.NoLabels x v left h = found (made action.NoLabels x.class x.text x.place v) (after action.NoLabels left) (effect.on_NoLabels x.class x.text x.place v left h)
acts action.AddLabel x v left h = found (made action.AddLabel x.class x.text x.place v) (after action.AddLabel left) (effect.on_AddLabel x.class x.text x.place v left h)
acts action.AddGroup x v left h = found (made action.AddGroup x.class x.text x.place v) (after action.AddGroup left) (effect.on_AddGroup x.class x.text x.place v left h)
acts action.Case x v left h = found (made action.Case x.class x.text x.place v) (after action.Case left) (effect.on_Case x.class x.text x.place v left h)
acts action.Default x v left h = found (made action.Default x.class x.text x.place v) (after action.Default left) (effect.on_Default x.class x.text x.place v left h)
acts action.AddAct x v left h = found (made action.AddAct x.class x.text x.place v) (after action.AddAct left) (effect.on_AddAct x.class x.text x.place v left h)
acts action.StepBefore x v left h = found (made action.StepBefore x.class x.text x.place v) (after action.StepBefore left) (effect.on_StepBefore x.class x.text x.place v left h)
acts action.StepAfter x v left h = found (made action.StepAfter x.class x.text x.place v) (after action.StepAfter left) (effect.on_StepAfter x.class x.text x.place v left h)
acts action.Discard x v left h = found (made action.Discard x.class x.text x.place v) (after action.Discard left) (effect.on_Discard x.class x.text x.place v left h)
acts action.Assign x v left h = found (made action.Assign x.class x.text x.place v) (after action.Assign left) (effect.on_Assign x.class x.text x.place v left h)
acts action.Evaluate x v left h = found (made action.Evaluate x.class x.text x.place v) (after action.Evaluate left) (effect.on_Evaluate x.class x.text x.place v left h)

-- ---- the two ways to follow steps are one

alike_by : (f g : Values → Option Values) → ((v : Values) → f v ≡ g v) → (o : Option Values) → option_and_then f o ≡ option_and_then g o
alike_by f g same None = refl
alike_by f g same (Some v) = same v

alike : (bytes : List ℕ) (tokens : List Token) (class : TokenClass) (text : List ℕ) (place : Place) (steps : List (Step Action)) (v : Values)
    → after_steps bytes tokens class text place steps v ≡ steps_make (seen bytes) make tokens (record { class = class; text = text; place = place }) steps v
alike bytes tokens class text place [] v = refl
alike bytes [] class text place (S.Token ∷ steps) v = refl
alike bytes (t ∷ tokens) class text place (S.Token ∷ steps) v = alike bytes tokens t.class (text_of bytes t) (tree_place t.place) steps v
alike bytes tokens class text place (S.Make a ∷ steps) v =
    alike_by (after_steps bytes tokens class text place steps) (steps_make (seen bytes) make tokens (record { class = class; text = text; place = place }) steps)
    (alike bytes tokens class text place steps) (made a class text place v)

-- ---- so the steps of a file make something

balanced : (l : Line) (body : Row Class Line Action) → OneOf body (rules.lines l) → (i : Stack) → after_row effects i body (effects.needs l i) ≡ Some (effects.leaves l i)
balanced = balanced_by effects rules table stacks stack_number stack_at is_right.line_at holds

nothing_needed : (i : Stack) → size nothing_read i ≡ effects.needs rules.start i
unfolding effects times stack_number needed rules
nothing_needed Kept = refl
nothing_needed Expressions = refl
nothing_needed Arguments = refl
nothing_needed Types = refl
nothing_needed Bases = refl
nothing_needed Pointers = refl
nothing_needed Dimensions = refl
nothing_needed Declarators = refl
nothing_needed Parameters = refl
nothing_needed Statements = refl
nothing_needed Declarations = refl
nothing_needed Initializers = refl
nothing_needed Braced = refl
nothing_needed Parts = refl
nothing_needed Actions = refl
nothing_needed Starts = refl
nothing_needed Tests = refl
nothing_needed Steps = refl
nothing_needed Groups = refl
nothing_needed Labels = refl
nothing_needed Label = refl

some_items : (o : Option Values) (v : Values) → o ≡ Some v → option_map (λ (w : Values). w.externals.items) o ≡ None → ⊥
some_items o v is none = both_ways (option_map (λ (w : Values). w.externals.items) o) (ap (option_map (λ (w : Values). w.externals.items)) is) none where
  both_ways : {X : Type 0} {x : X} (p : Option X) → p ≡ Some x → p ≡ None → ⊥
  both_ways None h k = cc
  both_ways (Some y) h k = cc

pub never_missing : (bytes : List ℕ) (tokens : List Token) (steps : List (Step Action)) (limit : ℕ) → IsFile rules limit (terminals_of bytes tokens) steps → items_of bytes tokens steps ≡ None → ⊥
never_missing bytes tokens steps limit file missing =
    let first : Seen = record { class = T.Word; text = []; place = record { line = 1; column = 1 } } in
    let done = makes effects rules (seen bytes) make size acts balanced file tokens (sym (as_many bytes tokens)) first nothing_read nothing_needed in
    some_items (after_steps bytes tokens T.Word [] (record { line = 1; column = 1 }) steps nothing_read) done.0 (rw (alike bytes tokens T.Word [] (record { line = 1; column = 1 }) steps nothing_read) done.1) missing
