-- The pointers of an input are into addressable objects, so that twins are fully equivalent.
use Rattle.std.proofs.Common.{◌≡◌, ℕ, List, [], ◌∷◌, Bool, true, false, All, Option, Some, None, sym, ap, ◌∙◌}
use Rattle.std.proofs.lemmas.List.Elements.{All-nil, All-cons, All-append}
use Rattle.rvt_num.specs.declared.kinds.Kind.{Kind}
use Rattle.rvt_num.specs.declared.values.Value.{Value}
use Rattle.rvt_num.specs.declared.values.Value.TheVariants.{Num, Null, At}
use Rattle.rvt_tree.specs.declared.types.CType.{CType}
use Rattle.rvt_tree.specs.declared.types.CType.TheVariants as C
use Rattle.rvt_tree.specs.declared.pairings.Pairing.{Pairing}
use Rattle.rvt_tree.specs.declared.programs.Program.{Program}
use Rattle.rvt_tree.specs.Same.{ArePaired}
use Rattle.c_types.specs.Layout.{Plan, plan_of}
use Rattle.c_meaning.specs.Stores.{objects_of}
use Rattle.c_meaning.specs.Laws.{OneEnd}
use Rattle.c_meaning.specs.Promises.{Part, AFunction, ALoop, Start, flat, run_part, IsNumberOf, IsPointerInto, AreNumbersOf, AreOfPlan, IsOnly, IsOfType, AreOfTypes, AreOfKinds, mutable_cells, types_of, IsInputOf, Full, function_versions, loop_versions}
use Rattle.twin_laws.specs.Touches.{is_addressable, PointsOpenly}
use Rattle.twin_laws.specs.Laws.{AreTwinsUnder}
use Rattle.twin_laws.proofs.Functions.{one_table, runs_same, loop_runs_same}

-- ---- what an input holds

module _ (pairing : Pairing) (program : Program) where
  abbrev Open : Value → Type 0
  Open = PointsOpenly pairing program

  number_open : (kind : Kind) (v : Value) → IsNumberOf kind v → Open v
  number_open kind (Num n) h = tt
  number_open kind Null h = absurd h
  number_open kind (At number cell) h = absurd h

  numbers_open : (kinds : List (Option Kind)) (cells : List Value) → AreNumbersOf kinds cells → All Open cells
  numbers_open [] [] h = All-nil Open
  numbers_open [] (v ∷ cells) h = absurd h
  numbers_open (None ∷ kinds) cells h = absurd h
  numbers_open (Some kind ∷ kinds) [] h = absurd h
  numbers_open (Some kind ∷ kinds) (v ∷ cells) h = All-cons Open v cells (number_open kind v h.0) (numbers_open kinds cells h.1)

  planned_open : (plan : Option Plan) (cells : List Value) → AreOfPlan plan cells → All Open cells
  planned_open None cells h = absurd h
  planned_open (Some plan) cells h = numbers_open plan.cells cells h

  pointer_open : (reached : ℕ → Bool) (to_constant : Bool) (v : Value) → IsPointerInto program reached to_constant v → Open v
  pointer_open reached to_constant (Num n) h = tt
  pointer_open reached to_constant Null h = tt
  pointer_open reached to_constant (At number cell) h = λ hidden. absurd (let no : true ≡ false = sym (ap is_addressable h.1 ∙ h.2.addressable) ∙ hidden in cc)

  only_open : (Is : Value → Type 0) (cells : List Value) → ((v : Value) → Is v → Open v) → IsOnly Is cells → All Open cells
  only_open Is [] opens h = absurd h
  only_open Is (v ∷ []) opens h = All-cons Open v [] (opens v h) (All-nil Open)
  only_open Is (v ∷ u ∷ cells) opens h = absurd h

  typed_open : (reached : ℕ → Bool) (ty : CType) (cells : List Value) → IsOfType program reached ty cells → All Open cells
  typed_open reached (C.Word kind) cells h = only_open (IsNumberOf kind) cells (number_open kind) h
  typed_open reached (C.Pointer pointee to_constant) cells h = only_open (IsPointerInto program reached to_constant) cells (pointer_open reached to_constant) h
  typed_open reached (C.Array' p element count) cells h = planned_open (plan_of program.structs (C.Array' p element count)) cells h
  typed_open reached (C.Struct number) cells h = planned_open (plan_of program.structs (C.Struct number)) cells h

  pub given_open : (reached : ℕ → Bool) (types : List (Option CType)) (given : List (List Value)) → AreOfTypes program reached types given → All (All Open) given
  given_open reached [] [] h = All-nil (All Open)
  given_open reached [] (cells ∷ given) h = absurd h
  given_open reached (None ∷ types) given h = absurd h
  given_open reached (Some ty ∷ types) [] h = absurd h
  given_open reached (Some ty ∷ types) (cells ∷ given) h = All-cons (All Open) cells given (typed_open reached ty cells h.0) (given_open reached types given h.1)

  pub flat_open : (reached : ℕ → Bool) (types : List (Option CType)) (given : List (List Value)) → AreOfTypes program reached types given → All Open (flat given)
  flat_open reached [] [] h = All-nil Open
  flat_open reached [] (cells ∷ given) h = absurd h
  flat_open reached (None ∷ types) given h = absurd h
  flat_open reached (Some ty ∷ types) [] h = absurd h
  flat_open reached (Some ty ∷ types) (cells ∷ given) h = All-append Open cells (flat given) (typed_open reached ty cells h.0) (flat_open reached types given h.1)

  pub store_open : (contents cells : List Value) → AreOfKinds contents cells → All Open cells
  store_open [] [] h = All-nil Open
  store_open [] (v ∷ cells) h = absurd h
  store_open (Null ∷ contents) cells h = absurd h
  store_open (At number cell ∷ contents) cells h = absurd h
  store_open (Num n ∷ contents) [] h = absurd h
  store_open (Num n ∷ contents) (v ∷ cells) h = All-cons Open v cells (number_open n.kind v h.0) (store_open contents cells h.1)

-- ---- parts that have the same runs from every input

pub alike_full : (program program' : Program) (part part' : Part) (reached reached' : ℕ → Bool) → OneEnd program' →
    ((start : Start) → IsInputOf (record { program = program; part = part; reached = reached }) start → (n d : ℕ) → run_part program part start n d ≡ run_part program' part' start n d) →
    Full (record { old = record { program = program; part = part; reached = reached }; new_side = record { program = program'; part = part'; reached = reached' } })
alike_full program program' part part' reached reached' one same =
    record {
      partial = λ start input end end' old new.
          (one part' start old.0 old.1 new.0 new.1 end end' old.2 new.2 (sym (same start input.old old.0 old.1) ∙ old.3) new.3).0;
      old_ends_too = λ start input end new. (end, (new.0, new.1, new.2, same start input.old new.0 new.1 ∙ new.3));
      new_ends_too = λ start input end old. (end, (old.0, old.1, old.2, sym (same start input.old old.0 old.1) ∙ old.3));
    }

module _ (pairing : Pairing) (program program' : Program) (twins : AreTwinsUnder pairing program program') where
  pub twins_full : OneEnd program' → (f g : ℕ) → ArePaired pairing.functions f g → (reached reached' : ℕ → Bool) → Full (function_versions program program' f g reached reached')
  twins_full one f g paired reached reached' =
      alike_full program program' (AFunction f) (AFunction g) reached reached' one
      (λ start input n d. runs_same pairing program program' (one_table pairing program program' twins) twins.closed twins.touch f g paired (flat start.given) start.store
      (flat_open pairing program reached (types_of program (AFunction f)) start.given input.given) (store_open pairing program (mutable_cells (objects_of program)) start.store input.store) n d)

  pub loops_full : OneEnd program' → (f g : ℕ) → ArePaired pairing.functions f g → (number : ℕ) (interface : List ℕ) (reached reached' : ℕ → Bool) → Full (loop_versions program program' f g number interface reached reached')
  loops_full one f g paired number interface reached reached' =
      alike_full program program' (ALoop f number interface) (ALoop g number interface) reached reached' one
      (λ start input n d. loop_runs_same pairing program program' (one_table pairing program program' twins) twins.closed twins.touch f g paired number interface start.given start.store
      (given_open pairing program reached (types_of program (ALoop f number interface)) start.given input.given) (store_open pairing program (mutable_cells (objects_of program)) start.store input.store) n d)
