-- The functions of a closed set of twins have the same runs.
use Rattle.std.proofs.Common.{◌≡◌, ℕ, zero, suc, List, [], ◌∷◌, ◌++◌, map, Bool, Option, Some, None, refl, sym, ap, ap₂, ◌∙◌, subst}
use mathlib.Core.Path.{fun_ext}
use Rattle.rvt_num.specs.declared.values.Value.{Value}
use Rattle.rvt_tree.specs.declared.types.CType.{CType}
use Rattle.rvt_tree.specs.declared.statements.Stmt.{Stmt}
use Rattle.rvt_tree.specs.declared.pairings.Pairing.{Pairing}
use Rattle.rvt_tree.specs.declared.programs.Program.{Program}
use Rattle.rvt_tree.specs.declared.programs.Function.{Function}
use Rattle.rvt_tree.specs.declared.programs.Local.{Local}
use Rattle.rvt_tree.specs.declared.programs.Object.{Object}
use Rattle.rvt_tree.specs.Views.{stmt_view}
use Rattle.rvt_tree.specs.Same.{ArePaired}
use Rattle.c_meaning.specs.Outcomes.{State, Outcome, Done, Returning, Trapped, Cut, Deep, Doing, Answers, Manner}
use Rattle.c_meaning.specs.Stores.{objects_of, with_object}
use Rattle.c_meaning.specs.Runs.{unless_object, first_cells, parameter_cells, opened, with_argument, with_arguments, not_returned, entered, back, finished, body_of, call_in, called, spend, turns, nested, calls, running, stop_of_call, run}
use Rattle.c_meaning.specs.Tables.{put_at}
use Rattle.c_meaning.specs.Loops.{Loop, loop_of, zero_locals, loop_locals, stop_of_loop, looped, run_loop}
use Rattle.c_meaning.specs.Promises.{Part, AFunction, ALoop, Start, flat, run_part, Full, function_versions, loop_versions}
use Rattle.c_meaning.specs.Twins.{SameObjects, StandOverOneTable, SameObjectNumber, SameLocals, SameResult, SameBody, SameFunction, AreTwins, IsClosed}
use Rattle.c_meaning.proofs.OneTable.{zeros_same, opened_same, closed_same, with_object_same}
use Rattle.c_meaning.proofs.TwinTrees.{same_meaning}
use Rattle.c_meaning.proofs.TwinLoops.{same_loop_in_function}
use Rattle.c_meaning.proofs.Exact.{one as one_of_part}

module _ (pairing : Pairing) (program program' : Program) (one : StandOverOneTable pairing program program') where
  unless_object_same : (a b : Option ℕ) (cells cells' : List Value) → SameObjectNumber pairing a b → cells ≡ cells' → unless_object a cells ≡ unless_object b cells'
  unless_object_same None None cells cells' h e = e
  unless_object_same None (Some b) cells cells' h e = absurd h
  unless_object_same (Some a) None cells cells' h e = absurd h
  unless_object_same (Some a) (Some b) cells cells' h e = refl

  pub first_cells_same : (a b : List Local) → SameLocals pairing a b → map (first_cells program.structs) a ≡ map (first_cells program'.structs) b
  first_cells_same [] [] h = refl
  first_cells_same [] (b ∷ locals') h = absurd h
  first_cells_same (a ∷ locals) [] h = absurd h
  first_cells_same (a ∷ locals) (b ∷ locals') h =
      ap₂ (λ x y. x ∷ y) (unless_object_same a.object b.object _ _ h.0.object (zeros_same pairing program program' one a.ty b.ty h.0.type)) (first_cells_same locals locals' h.1)

  parameters_same : (a b : List Local) → SameLocals pairing a b → (arguments : List Value) → parameter_cells a arguments ≡ parameter_cells b arguments
  parameters_same [] [] h arguments = refl
  parameters_same [] (b ∷ locals') h arguments = absurd h
  parameters_same (a ∷ locals) [] h arguments = absurd h
  parameters_same (a ∷ locals) (b ∷ locals') h [] = ap (λ rest. [] ∷ rest) (parameters_same locals locals' h.1 [])
  parameters_same (a ∷ locals) (b ∷ locals') h (v ∷ arguments) =
      ap₂ (λ x y. x ∷ y) (unless_object_same a.object b.object _ _ h.0.object refl) (parameters_same locals locals' h.1 arguments)

  with_argument_same : (a b : Option ℕ) → SameObjectNumber pairing a b → (v : Value) (store : List Value) → with_argument program a v store ≡ with_argument program' b v store
  with_argument_same None None h v store = refl
  with_argument_same None (Some b) h v store = absurd h
  with_argument_same (Some a) None h v store = absurd h
  with_argument_same (Some a) (Some b) h v store =
      with_object_same pairing program program' one store a (v ∷ []) ∙ ap (λ k. with_object program' store k (v ∷ [])) (one.objects a b h)

  with_arguments_same : (a b : List Local) → SameLocals pairing a b → (arguments store : List Value) → with_arguments program a arguments store ≡ with_arguments program' b arguments store
  with_arguments_same [] [] h arguments store = refl
  with_arguments_same [] (b ∷ locals') h arguments store = absurd h
  with_arguments_same (a ∷ locals) [] h arguments store = absurd h
  with_arguments_same (a ∷ locals) (b ∷ locals') h [] store = refl
  with_arguments_same (a ∷ locals) (b ∷ locals') h (v ∷ arguments) store =
      with_arguments_same locals locals' h.1 arguments (with_argument program a.object v store)
      ∙ ap (with_arguments program' locals' arguments) (with_argument_same a.object b.object h.0.object v store)

  not_returned_same : {X : Type 0} (a b : Option CType) → SameResult pairing a b → (s : State X) → not_returned a s ≡ not_returned b s
  not_returned_same None None h s = refl
  not_returned_same None (Some b) h s = absurd h
  not_returned_same (Some a) None h s = absurd h
  not_returned_same (Some a) (Some b) h s = refl

  module _ (f g : ℕ) (paired : ArePaired pairing.functions f g) where
    entered_same : {X : Type 0} (a b : Function) → SameFunction pairing a b → (arguments : List Value) (s : State X) → entered program f a arguments s ≡ entered program' g b arguments s
    entered_same a b h arguments s =
        ap₂ (λ locals store. record { locals = locals; store = store; kept = s.kept })
        (ap₂ (λ x y. x ++ y) (parameters_same a.params b.params h.params arguments) (first_cells_same a.locals b.locals h.locals))
        (with_arguments_same a.params b.params h.params arguments (opened program f s.store)
        ∙ ap (with_arguments program' b.params arguments) (opened_same pairing program program' one f g paired s.store))

    back_same : {X : Type 0} (caller : State X) (store : List Value) (x : X) → back program f caller store x ≡ back program' g caller store x
    back_same caller store x = ap (λ after. record { locals = caller.locals; store = after; kept = x }) (closed_same pairing program program' one f g paired caller.store store)

    finished_same : {X : Type 0} (a b : Option CType) → SameResult pairing a b → (caller : State X) (r : Outcome X Manner) → finished program f a caller r ≡ finished program' g b caller r
    finished_same a b h caller (Done manner s) = ap (not_returned a) (back_same caller s.store s.kept) ∙ not_returned_same a b h (back program' g caller s.store s.kept)
    finished_same a b h caller (Returning n store x) = ap (Done n) (back_same caller store x)
    finished_same a b h caller (Trapped why x) = refl
    finished_same a b h caller Cut = refl
    finished_same a b h caller Deep = refl

  module _ {X : Type 0} (answers answers' : Answers X)
      (calls_alike : (f g : ℕ) → ArePaired pairing.functions f g → (arguments : List Value) → answers.call f arguments ≡ answers'.call g arguments)
      (loops_alike : (number : ℕ) (first : Bool) (test : Doing X Bool) (round : Doing X Manner) → answers.loop number first test round ≡ answers'.loop number first test round) where
    body_same : (a b : Option Stmt) → SameBody pairing a b → body_of program answers a ≡ body_of program' answers' b
    body_same None None h = refl
    body_same None (Some b) h = absurd h
    body_same (Some a) None h = absurd h
    body_same (Some a) (Some b) h = same_meaning pairing program program' one answers answers' calls_alike loops_alike (stmt_view a) (stmt_view b) h

    call_in_same : (f g : ℕ) → ArePaired pairing.functions f g → (a b : Option Function) → AreTwins pairing a b → (arguments : List Value) → call_in program answers f a arguments ≡ call_in program' answers' g b arguments
    call_in_same f g paired None b h arguments = absurd h
    call_in_same f g paired (Some a) None h arguments = absurd h
    call_in_same f g paired (Some a) (Some b) h arguments =
        fun_ext (λ s.
        ap (λ start. finished program f a.result s (body_of program answers a.body start)) (entered_same f g paired a b h arguments s)
        ∙ ap (λ m. finished program f a.result s (m (entered program' g b arguments s))) (body_same a.body b.body h.body)
        ∙ finished_same f g paired a.result b.result h.result s _)

    -- the bodies of two twins, where the functions that they call answer alike
    pub called_same : IsClosed pairing program program' → (f g : ℕ) → ArePaired pairing.functions f g → (arguments : List Value) → called program answers f arguments ≡ called program' answers' g arguments
    called_same closed f g paired arguments = call_in_same f g paired _ _ (closed f g paired) arguments

  module _ (closed : IsClosed pairing program program') where
    nested_same : {A : Type 0} (d : ℕ) (body body' : ℕ → Doing ℕ A) → ((e : ℕ) → body e ≡ body' e) → nested d body ≡ nested d body'
    nested_same zero body body' h = refl
    nested_same (suc d) body body' h = h d

    pub calls_same : (n d f g : ℕ) → ArePaired pairing.functions f g → (arguments : List Value) → calls program n d f arguments ≡ calls program' n d g arguments
    calls_same zero d f g paired arguments = refl
    calls_same (suc n) d f g paired arguments =
        ap spend (nested_same d _ _ (λ e.
        called_same (record { call = calls program n e; loop = λ number. turns (suc n) }) (record { call = calls program' n e; loop = λ number. turns (suc n) })
        (λ f' g' paired' arguments'. calls_same n e f' g' paired' arguments') (λ number first test round. refl) closed f g paired arguments))

    pub runs_same : (f g : ℕ) → ArePaired pairing.functions f g → (arguments store : List Value) (n d : ℕ) → run program f arguments store n d ≡ run program' g arguments store n d
    runs_same f g paired arguments store n d =
        ap (λ m. stop_of_call n (m (record { locals = []; store = store; kept = n }))) (calls_same n d f g paired arguments)

    -- the loop statements of two twins as units
    looped_alike : (n d number : ℕ) (l : Option (Loop ℕ)) (s : State ℕ) → looped (running program n d) number l s ≡ looped (running program' n d) number l s
    looped_alike n d number None s = refl
    looped_alike n d number (Some l) s = refl

    zero_locals_same : (a b : Option Function) → AreTwins pairing a b → zero_locals program a ≡ zero_locals program' b
    zero_locals_same None b h = absurd h
    zero_locals_same (Some a) None h = absurd h
    zero_locals_same (Some a) (Some b) h = ap₂ (λ x y. x ++ y) (first_cells_same a.params b.params h.params) (first_cells_same a.locals b.locals h.locals)

    pub loop_runs_same : (f g : ℕ) → ArePaired pairing.functions f g → (number : ℕ) (interface : List ℕ) (given : List (List Value)) (store : List Value) (n d : ℕ) →
        run_loop program f number interface given store n d ≡ run_loop program' g number interface given store n d
    loop_runs_same f g paired number interface given store n d =
        let loops = same_loop_in_function pairing program program' one (running program n d) (running program' n d) (λ f' g' paired' arguments. calls_same n d f' g' paired' arguments)
        (λ k first test round. refl) number _ _ (closed f g paired) in
        let before : State ℕ = record { locals = loop_locals program f interface given; store = store; kept = n } in
        ap (λ l. stop_of_loop n interface (looped (running program n d) number l before)) loops
        ∙ ap (stop_of_loop n interface) (looped_alike n d number (loop_of program' (running program' n d) g number) before)
        ∙ ap (λ zeros. stop_of_loop n interface (looped (running program' n d) number (loop_of program' (running program' n d) g number) (record { locals = put_at interface given zeros; store = store; kept = n })))
        (zero_locals_same _ _ (closed f g paired))

-- parts that have the same runs are fully equivalent
alike_full : (program program' : Program) (part part' : Part) → ((start : Start) (n d : ℕ) → run_part program part start n d ≡ run_part program' part' start n d) →
    (reached reached' : ℕ → Bool) → Full (record { old = record { program = program; part = part; reached = reached }; new_side = record { program = program'; part = part'; reached = reached' } })
alike_full program program' part part' same reached reached' =
    record {
      partial = λ start input end end' old new.
          (one_of_part program' part' start old.0 old.1 new.0 new.1 end end' old.2 new.2 (sym (same start old.0 old.1) ∙ old.3) new.3).0;
      old_ends_too = λ start input end new. (end, (new.0, new.1, new.2, same start new.0 new.1 ∙ new.3));
      new_ends_too = λ start input end old. (end, (old.0, old.1, old.2, sym (same start old.0 old.1) ∙ old.3));
    }

module _ (pairing : Pairing) (program program' : Program) (one : StandOverOneTable pairing program program') (closed : IsClosed pairing program program') where
  pub twins_full : (f g : ℕ) → ArePaired pairing.functions f g → (reached reached' : ℕ → Bool) → Full (function_versions program program' f g reached reached')
  twins_full f g paired =
      alike_full program program' (AFunction f) (AFunction g) (λ start n d. runs_same pairing program program' one closed f g paired (flat start.given) start.store n d)

  pub loop_twins_full : (f g : ℕ) → ArePaired pairing.functions f g → (number : ℕ) (interface : List ℕ) (reached reached' : ℕ → Bool) → Full (loop_versions program program' f g number interface reached reached')
  loop_twins_full f g paired number interface =
      alike_full program program' (ALoop f number interface) (ALoop g number interface)
      (λ start n d. loop_runs_same pairing program program' one closed f g paired number interface start.given start.store n d)

-- ---- programs without objects, under a pairing of functions alone

none_paired : (list : List (Option ℕ)) (a b : ℕ) → list ≡ [] → ArePaired list a b → ⊥
none_paired list a b e h = let none : None ≡ Some (Some b) = subst (λ l. ArePaired l a b) e h in absurd (cc)

no_objects : (pairing : Pairing) (program program' : Program) (objects objects' : List Object) → objects ≡ [] → objects' ≡ [] → SameObjects pairing program program' objects objects'
no_objects pairing program program' objects objects' e e' =
    subst (λ l. SameObjects pairing program program' l objects') (sym e) (subst (λ l. SameObjects pairing program program' [] l) (sym e') tt)

pub plain_table : (pairing : Pairing) (program program' : Program) → pairing.objects ≡ [] → pairing.structs ≡ [] → objects_of program ≡ [] → objects_of program' ≡ [] → StandOverOneTable pairing program program'
plain_table pairing program program' no_pairs no_structs none none' =
    record {
      objects = λ a b h. absurd (none_paired pairing.objects a b no_pairs h);
      table = no_objects pairing program program' _ _ none none';
      structs = λ a b h. absurd (none_paired pairing.structs a b no_structs h);
    }
