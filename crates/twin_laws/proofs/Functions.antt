-- The functions of a closed set of twins have the same runs, and so have their loops.
use Rattle.std.proofs.Common.{◌≡◌, ℕ, zero, suc, List, [], ◌∷◌, ◌++◌, map, Bool, All, Option, Some, None, option_map, slice_get, refl, ap, ap₂, ◌∙◌}
use Rattle.std.proofs.lemmas.List.Elements.{All-nil, All-cons, All-append, All-set, All-head, All-tail}
use Rattle.rvt_num.specs.declared.kinds.Kind.{Kind}
use Rattle.rvt_num.specs.declared.values.Value.{Value}
use Rattle.rvt_tree.specs.declared.types.CType.{CType}
use Rattle.rvt_tree.specs.declared.statements.Stmt.{Stmt}
use Rattle.rvt_tree.specs.declared.pairings.Pairing.{Pairing}
use Rattle.rvt_tree.specs.declared.programs.Program.{Program}
use Rattle.rvt_tree.specs.declared.programs.Function.{Function}
use Rattle.rvt_tree.specs.declared.programs.Local.{Local}
use Rattle.rvt_tree.specs.Views.{stmt_view}
use Rattle.rvt_tree.specs.Same.{ArePaired}
use Rattle.c_types.specs.Layout.{Plan, plan_of}
use Rattle.c_meaning.specs.Outcomes.{State, Outcome, Done, Returning, Trapped, Cut, Deep, Doing, Answers, Manner, Normally}
use Rattle.c_meaning.specs.Stores.{with_object}
use Rattle.c_meaning.specs.Runs.{zero_cell, zero_cells, unless_object, first_cells, parameter_cells, opened, with_argument, with_arguments, not_returned, entered, back, finished, body_of, call_in, turns, nested, calls, running, stop_of_call, run}
use Rattle.c_meaning.specs.Tables.{put_at}
use Rattle.c_meaning.specs.Loops.{Loop, loop_of, zero_locals, loop_locals, stop_of_loop, looped, run_loop}
use Rattle.c_meaning.specs.Twins.{SameObjectNumber, SameLocals, SameResult, SameBody, SameFunction, AreTwins, IsClosed}
use Rattle.body_pointees.specs.Pointees.{body_pointees}
use Rattle.twin_laws.specs.Touches.{FunctionTouchesPaired, TouchOnlyPaired}
use Rattle.twin_laws.specs.Laws.{AreTwinsUnder}
use Rattle.twin_laws.proofs.Alike.{each_of, Anything, IsHeld, Leaves, Alike, give_alike, spend_alike, turns_alike}
use Rattle.twin_laws.proofs.Objects.{OneTable, zeros_same, opened_same, closed_same, with_object_same, with_object_open, opened_open, closed_open}
use Rattle.twin_laws.proofs.Trees.{Opens, Touch, meaning_alike}
use Rattle.twin_laws.proofs.Loops.{SameLoops, loop_in_function_same}

module _ (pairing : Pairing) (program program' : Program) (one : OneTable pairing program program') where
  abbrev Open : Value → Type 0
  Open = Opens pairing program program' one

  -- ---- the entry

  unless_object_same : (a b : Option ℕ) (cells cells' : List Value) → SameObjectNumber pairing a b → cells ≡ cells' → unless_object a cells ≡ unless_object b cells'
  unless_object_same None None cells cells' h e = e
  unless_object_same None (Some b) cells cells' h e = absurd h
  unless_object_same (Some a) None cells cells' h e = absurd h
  unless_object_same (Some a) (Some b) cells cells' h e = refl

  unless_object_open : (a : Option ℕ) (cells : List Value) → All Open cells → All Open (unless_object a cells)
  unless_object_open None cells h = h
  unless_object_open (Some a) cells h = All-nil Open

  zeros_in_open : (kinds : List (Option Kind)) → All Open (map zero_cell kinds)
  zeros_in_open [] = All-nil Open
  zeros_in_open (Some kind ∷ kinds) = All-cons Open (zero_cell (Some kind)) (map zero_cell kinds) tt (zeros_in_open kinds)
  zeros_in_open (None ∷ kinds) = All-cons Open (zero_cell None) (map zero_cell kinds) tt (zeros_in_open kinds)

  zeros_open : (plan : Option Plan) → All Open (zero_cells plan)
  zeros_open None = All-nil Open
  zeros_open (Some plan) = zeros_in_open plan.cells

  first_cells_same : (a b : List Local) → SameLocals pairing a b → map (first_cells program.structs) a ≡ map (first_cells program'.structs) b
  first_cells_same [] [] h = refl
  first_cells_same [] (b ∷ locals') h = absurd h
  first_cells_same (a ∷ locals) [] h = absurd h
  first_cells_same (a ∷ locals) (b ∷ locals') h =
      ap₂ (λ x y. x ∷ y) (unless_object_same a.object b.object _ _ h.0.object (zeros_same pairing program program' one a.ty b.ty h.0.type)) (first_cells_same locals locals' h.1)

  first_cells_open : (a : List Local) → All (All Open) (map (first_cells program.structs) a)
  first_cells_open [] = All-nil (All Open)
  first_cells_open (a ∷ locals) =
      All-cons (All Open) (first_cells program.structs a) (map (first_cells program.structs) locals)
      (unless_object_open a.object _ (zeros_open (plan_of program.structs a.ty))) (first_cells_open locals)

  parameters_same : (a b : List Local) → SameLocals pairing a b → (arguments : List Value) → parameter_cells a arguments ≡ parameter_cells b arguments
  parameters_same [] [] h arguments = refl
  parameters_same [] (b ∷ locals') h arguments = absurd h
  parameters_same (a ∷ locals) [] h arguments = absurd h
  parameters_same (a ∷ locals) (b ∷ locals') h [] = ap (λ rest. [] ∷ rest) (parameters_same locals locals' h.1 [])
  parameters_same (a ∷ locals) (b ∷ locals') h (v ∷ arguments) =
      ap₂ (λ x y. x ∷ y) (unless_object_same a.object b.object _ _ h.0.object refl) (parameters_same locals locals' h.1 arguments)

  parameters_open : (a : List Local) (arguments : List Value) → All Open arguments → All (All Open) (parameter_cells a arguments)
  parameters_open [] arguments all = All-nil (All Open)
  parameters_open (a ∷ locals) [] all = All-cons (All Open) [] (parameter_cells locals []) (All-nil Open) (parameters_open locals [] all)
  parameters_open (a ∷ locals) (v ∷ arguments) all =
      All-cons (All Open) (unless_object a.object (v ∷ [])) (parameter_cells locals arguments)
      (unless_object_open a.object (v ∷ []) (All-cons Open v [] (All-head Open v arguments all) (All-nil Open))) (parameters_open locals arguments (All-tail Open v arguments all))

  with_argument_same : (a b : Option ℕ) → SameObjectNumber pairing a b → (v : Value) (store : List Value) → with_argument program a v store ≡ with_argument program' b v store
  with_argument_same None None h v store = refl
  with_argument_same None (Some b) h v store = absurd h
  with_argument_same (Some a) None h v store = absurd h
  with_argument_same (Some a) (Some b) h v store =
      with_object_same pairing program program' one store a (v ∷ []) ∙ ap (λ k. with_object program' store k (v ∷ [])) (one.objects a b h)

  with_argument_open : (a : Option ℕ) (v : Value) (store : List Value) → Open v → All Open store → All Open (with_argument program a v store)
  with_argument_open None v store o held = held
  with_argument_open (Some a) v store o held = with_object_open pairing program program' one store a (v ∷ []) (All-cons Open v [] o (All-nil Open)) held

  with_arguments_same : (a b : List Local) → SameLocals pairing a b → (arguments store : List Value) → with_arguments program a arguments store ≡ with_arguments program' b arguments store
  with_arguments_same [] [] h arguments store = refl
  with_arguments_same [] (b ∷ locals') h arguments store = absurd h
  with_arguments_same (a ∷ locals) [] h arguments store = absurd h
  with_arguments_same (a ∷ locals) (b ∷ locals') h [] store = refl
  with_arguments_same (a ∷ locals) (b ∷ locals') h (v ∷ arguments) store =
      with_arguments_same locals locals' h.1 arguments (with_argument program a.object v store)
      ∙ ap (with_arguments program' locals' arguments) (with_argument_same a.object b.object h.0.object v store)

  with_arguments_open : (a : List Local) (arguments store : List Value) → All Open arguments → All Open store → All Open (with_arguments program a arguments store)
  with_arguments_open [] arguments store all held = held
  with_arguments_open (a ∷ locals) [] store all held = held
  with_arguments_open (a ∷ locals) (v ∷ arguments) store all held =
      with_arguments_open locals arguments (with_argument program a.object v store) (All-tail Open v arguments all)
      (with_argument_open a.object v store (All-head Open v arguments all) held)

  module _ (f g : ℕ) (paired : ArePaired pairing.functions f g) where
    entered_same : {X : Type 0} (a b : Function) → SameFunction pairing a b → (arguments : List Value) (s : State X) → entered program f a arguments s ≡ entered program' g b arguments s
    entered_same a b h arguments s =
        ap₂ (λ locals store. record { locals = locals; store = store; kept = s.kept })
        (ap₂ (λ x y. x ++ y) (parameters_same a.params b.params h.params arguments) (first_cells_same a.locals b.locals h.locals))
        (with_arguments_same a.params b.params h.params arguments (opened program f s.store)
        ∙ ap (with_arguments program' b.params arguments) (opened_same pairing program program' one f g paired s.store))

    entered_held : {X : Type 0} (a : Function) (arguments : List Value) (s : State X) → All Open arguments → IsHeld Open s → IsHeld Open (entered program f a arguments s)
    entered_held a arguments s all held = record {
      locals = All-append (All Open) (parameter_cells a.params arguments) (map (first_cells program.structs) a.locals) (parameters_open a.params arguments all) (first_cells_open a.locals);
      store = with_arguments_open a.params arguments (opened program f s.store) all (opened_open pairing program program' one f s.store held.store);
    }

    -- ---- the return

    not_returned_same : {X : Type 0} (a b : Option CType) → SameResult pairing a b → (s : State X) → not_returned a s ≡ not_returned b s
    not_returned_same None None h s = refl
    not_returned_same None (Some b) h s = absurd h
    not_returned_same (Some a) None h s = absurd h
    not_returned_same (Some a) (Some b) h s = refl

    not_returned_leaves : {X : Type 0} (a : Option CType) (s : State X) → IsHeld Open s → Leaves Open Anything (not_returned a s)
    not_returned_leaves None s held = (tt, held)
    not_returned_leaves (Some a) s held = tt

    back_same : {X : Type 0} (caller : State X) (store : List Value) (x : X) → back program f caller store x ≡ back program' g caller store x
    back_same caller store x = ap (λ after. record { locals = caller.locals; store = after; kept = x }) (closed_same pairing program program' one f g paired caller.store store)

    back_held : {X : Type 0} (caller : State X) (store : List Value) (x : X) → IsHeld Open caller → All Open store → IsHeld Open (back program f caller store x)
    back_held caller store x held h = record { locals = held.locals; store = closed_open pairing program program' one f caller.store store held.store h }

    finished_same : {X : Type 0} (a b : Option CType) → SameResult pairing a b → (caller : State X) (r : Outcome X Manner) → finished program f a caller r ≡ finished program' g b caller r
    finished_same a b h caller (Done manner s) = ap (not_returned a) (back_same caller s.store s.kept) ∙ not_returned_same a b h (back program' g caller s.store s.kept)
    finished_same a b h caller (Returning n store x) = ap (Done n) (back_same caller store x)
    finished_same a b h caller (Trapped why x) = refl
    finished_same a b h caller Cut = refl
    finished_same a b h caller Deep = refl

    finished_leaves : {X : Type 0} (a : Option CType) (caller : State X) (r : Outcome X Manner) → IsHeld Open caller → Leaves Open Anything r → Leaves Open Anything (finished program f a caller r)
    finished_leaves a caller (Done manner s) held h = not_returned_leaves a (back program f caller s.store s.kept) (back_held caller s.store s.kept held h.1.store)
    finished_leaves a caller (Returning n store x) held h = (tt, back_held caller store x held h)
    finished_leaves a caller (Trapped why x) held h = tt
    finished_leaves a caller Cut held h = tt
    finished_leaves a caller Deep held h = tt

  -- ---- calls

  module _ {X : Type 0} (answers answers' : Answers X)
      (calls_alike : (f g : ℕ) → ArePaired pairing.functions f g → (arguments : List Value) → All Open arguments → Alike Open Anything (answers.call f arguments) (answers'.call g arguments))
      (loops_alike : (number : ℕ) (first : Bool) (test test' : Doing X Bool) (round round' : Doing X Manner) → Alike Open Anything test test' → Alike Open Anything round round' →
      Alike Open Anything (answers.loop number first test round) (answers'.loop number first test' round')) where
    body_alike : (a b : Option Stmt) → SameBody pairing a b → All (Touch pairing program program' one) (body_pointees (option_map stmt_view a)) → Alike Open Anything (body_of program answers a) (body_of program' answers' b)
    body_alike None None h t = give_alike Open Anything Normally Normally refl tt
    body_alike None (Some b) h t = absurd h
    body_alike (Some a) None h t = absurd h
    body_alike (Some a) (Some b) h t =
        meaning_alike pairing program program' one answers answers' calls_alike loops_alike (stmt_view a) (stmt_view b) h (each_of (Touch pairing program program' one) (body_pointees (option_map stmt_view (Some a))) t)

    call_in_alike : (f g : ℕ) → ArePaired pairing.functions f g → (a b : Option Function) → AreTwins pairing a b → FunctionTouchesPaired pairing program a → (arguments : List Value) → All Open arguments →
        Alike Open Anything (call_in program answers f a arguments) (call_in program' answers' g b arguments)
    call_in_alike f g paired None b h t arguments all = absurd h
    call_in_alike f g paired (Some a) None h t arguments all = absurd h
    call_in_alike f g paired (Some a) (Some b) h t arguments all =
        let body = body_alike a.body b.body h.body t in
        record {
          same = λ s held.
              ap (finished program f a.result s) (body.same (entered program f a arguments s) (entered_held f g paired a arguments s all held))
              ∙ ap (λ start. finished program f a.result s (body_of program' answers' b.body start)) (entered_same f g paired a b h arguments s)
              ∙ finished_same f g paired a.result b.result h.result s _;
          leaves = λ s held.
              finished_leaves f g paired a.result s _ held (body.leaves (entered program f a arguments s) (entered_held f g paired a arguments s all held));
        }

  module _ (closed : IsClosed pairing program program') (touch : TouchOnlyPaired pairing program) where
    nested_alike : {A : Type 0} (Gives : A → Type 0) (d : ℕ) (body body' : ℕ → Doing ℕ A) → ((e : ℕ) → Alike Open Gives (body e) (body' e)) → Alike Open Gives (nested d body) (nested d body')
    nested_alike Gives zero body body' h = record { same = λ s held. refl; leaves = λ s held. tt }
    nested_alike Gives (suc d) body body' h = h d

    calls_alike : (n d f g : ℕ) → ArePaired pairing.functions f g → (arguments : List Value) → All Open arguments → Alike Open Anything (calls program n d f arguments) (calls program' n d g arguments)
    calls_alike zero d f g paired arguments all = record { same = λ s held. refl; leaves = λ s held. tt }
    calls_alike (suc n) d f g paired arguments all =
        spend_alike Open Anything _ _ (nested_alike Anything d _ _ (λ e.
        call_in_alike (running program n e) (running program' n e) (λ f' g' paired' arguments' all'. calls_alike n e f' g' paired' arguments' all')
        (λ number first test test' round round' t r. turns_alike Open (suc n) first test test' round round' t r)
        f g paired _ _ (closed f g paired) (touch f g paired) arguments all))

    pub runs_same : (f g : ℕ) → ArePaired pairing.functions f g → (arguments store : List Value) → All Open arguments → All Open store → (n d : ℕ) → run program f arguments store n d ≡ run program' g arguments store n d
    runs_same f g paired arguments store all held n d =
        ap (stop_of_call n) ((calls_alike n d f g paired arguments all).same (record { locals = []; store = store; kept = n }) (record { locals = All-nil (All Open); store = held }))

    -- ---- loops

    looped_same : (n d number : ℕ) (a b : Option (Loop ℕ)) → SameLoops pairing program program' one a b → (s : State ℕ) → IsHeld Open s → looped (running program n d) number a s ≡ looped (running program' n d) number b s
    looped_same n d number None None h s held = refl
    looped_same n d number None (Some b) h s held = absurd h
    looped_same n d number (Some a) None h s held = absurd h
    looped_same n d number (Some a) (Some b) h s held =
        (turns_alike Open (suc n) a.round_first a.test b.test a.round b.round h.test h.round).same s held ∙ ap (λ first. turns (suc n) first b.test b.round s) h.first

    zero_locals_same : (a b : Option Function) → AreTwins pairing a b → zero_locals program a ≡ zero_locals program' b
    zero_locals_same None b h = absurd h
    zero_locals_same (Some a) None h = absurd h
    zero_locals_same (Some a) (Some b) h = ap₂ (λ x y. x ++ y) (first_cells_same a.params b.params h.params) (first_cells_same a.locals b.locals h.locals)

    zero_locals_open : (a : Option Function) → All (All Open) (zero_locals program a)
    zero_locals_open None = All-nil (All Open)
    zero_locals_open (Some a) = All-append (All Open) (map (first_cells program.structs) a.params) (map (first_cells program.structs) a.locals) (first_cells_open a.params) (first_cells_open a.locals)

    put_at_open : (places : List ℕ) (given locals : List (List Value)) → All (All Open) given → All (All Open) locals → All (All Open) (put_at places given locals)
    put_at_open [] given locals h held = held
    put_at_open (place ∷ places) [] locals h held = held
    put_at_open (place ∷ places) (cells ∷ given) locals h held =
        put_at_open places given _ (All-tail (All Open) cells given h) (All-set (All Open) locals place cells (All-head (All Open) cells given h) held)

    pub loop_runs_same : (f g : ℕ) → ArePaired pairing.functions f g → (number : ℕ) (interface : List ℕ) (given : List (List Value)) (store : List Value) → All (All Open) given → All Open store → (n d : ℕ) →
        run_loop program f number interface given store n d ≡ run_loop program' g number interface given store n d
    loop_runs_same f g paired number interface given store all held n d =
        let loops = loop_in_function_same pairing program program' one (running program n d) (running program' n d) (λ f' g' paired' arguments all'. calls_alike n d f' g' paired' arguments all')
        (λ k first test test' round round' t r. turns_alike Open (suc n) first test test' round round' t r) number _ _ (closed f g paired) (touch f g paired) in
        let before : State ℕ = record { locals = loop_locals program f interface given; store = store; kept = n } in
        ap (stop_of_loop n interface) (looped_same n d number _ _ loops before (record { locals = put_at_open interface given _ all (zero_locals_open (slice_get program.functions f)); store = held }))
        ∙ ap (λ zeros. stop_of_loop n interface (looped (running program' n d) number (loop_of program' (running program' n d) g number) (record { locals = put_at interface given zeros; store = store; kept = n })))
        (zero_locals_same _ _ (closed f g paired))

pub one_table : (pairing : Pairing) (program program' : Program) → AreTwinsUnder pairing program program' → OneTable pairing program program'
one_table pairing program program' twins = record { objects = twins.stand.objects; contents = twins.contents; table = twins.stand.table; structs = twins.stand.structs }
