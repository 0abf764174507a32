-- Programs that stand over one table stand over it where less is paired.
use Rattle.std.proofs.Common.{◌≡◌, ℕ, List, [], ◌∷◌, slice_get, Option, Some, None, option_map, sym, ◌∙◌, subst}
use Rattle.std.proofs.lemmas.List.Elements.{All-weaker}
use Rattle.rvt_tree.specs.declared.types.Pointee.{Pointee}
use Rattle.rvt_tree.specs.declared.types.Pointee.TheVariants as P
use Rattle.rvt_tree.specs.declared.pairings.Pairing.{Pairing}
use Rattle.rvt_tree.specs.declared.programs.Program.{Program}
use Rattle.rvt_tree.specs.declared.programs.Function.{Function}
use Rattle.rvt_tree.specs.declared.programs.Object.{Object}
use Rattle.rvt_tree.specs.Same.{ArePaired, SamePointee}
use Rattle.rvt_tree.specs.Views.{stmt_view}
use Rattle.body_pointees.specs.Pointees.{body_pointees}
use Rattle.c_meaning.specs.Twins.{IsClosed}
use Rattle.twin_laws.specs.Tables.{SameButForContents, AreSameButForContents, StandOverTheTable}
use Rattle.twin_laws.specs.Touches.{TouchesPaired, FunctionTouchesPaired}
use Rattle.twin_laws.specs.Laws.{AreTwinsUnder}
use Rattle.twin_check.specs.Sets.{IsWithin}
use Rattle.twin_candidates.specs.Candidates.{AreCandidates}

-- ---- fewer functions and objects

module _ (inner outer : Pairing) (functions_within : (f g : ℕ) → ArePaired inner.functions f g → ArePaired outer.functions f g)
    (objects_within : (a b : ℕ) → ArePaired inner.objects a b → ArePaired outer.objects a b) (same_structs : inner.structs ≡ outer.structs) where
  structs_within : (a b : ℕ) → ArePaired inner.structs a b → ArePaired outer.structs a b
  structs_within a b = subst (λ (list : List (Option ℕ)). ArePaired inner.structs a b → ArePaired list a b) same_structs (λ h. h)

  pointee_within : (a b : Pointee) → SamePointee inner a b → SamePointee outer a b
  pointee_within (P.Word a) (P.Word b) h = h
  pointee_within (P.Struct a) (P.Struct b) h = structs_within a b h
  pointee_within (P.Word a) (P.Struct b) h = absurd h
  pointee_within (P.Struct a) (P.Word b) h = absurd h

  module _ (old new : Program) where
    object_within : (a b : Object) → SameButForContents outer old new a b → SameButForContents inner old new a b
    object_within a b h = record {
      constant = h.constant;
      count = h.count;
      begins = λ pointee pointee' cell same. h.begins pointee pointee' cell (pointee_within pointee pointee' same);
      owner = λ f g paired. h.owner f g (functions_within f g paired);
    }

    table_within : (a b : List Object) → AreSameButForContents outer old new a b → AreSameButForContents inner old new a b
    table_within [] [] h = h
    table_within (a ∷ objects) (b ∷ objects') h = (object_within a b h.0, table_within objects objects' h.1)
    table_within [] (b ∷ objects') h = absurd h
    table_within (a ∷ objects) [] h = absurd h

    stand_within : StandOverTheTable outer old new → StandOverTheTable inner old new
    stand_within h = record {
      objects = λ a b paired. h.objects a b (objects_within a b paired);
      table = table_within old.table.objects new.table.objects h.table;
      structs = λ a b paired. h.structs a b (structs_within a b paired);
    }

touches_same : (inner outer : Pairing) (program : Program) → inner.objects ≡ outer.objects → (function : Option Function) → FunctionTouchesPaired outer program function → FunctionTouchesPaired inner program function
touches_same inner outer program same None h = h
touches_same inner outer program same (Some function) h =
    All-weaker (TouchesPaired outer program) (TouchesPaired inner program)
    (λ pointee touches number cell addressable begins. subst (λ (list : List (Option ℕ)). ArePaired list number number) (sym same) (touches number cell addressable begins))
    (body_pointees (option_map stmt_view function.body)) h

-- ---- a closed set among the candidates

module _ (old new : Program) (pairing candidates twins : Pairing) (are : AreCandidates old new pairing candidates) (within : IsWithin twins candidates) where
  pub paired : (f g : ℕ) → ArePaired twins.functions f g → ArePaired pairing.functions f g
  paired f g h = ((are.functions f g).0 (within.functions f g h)).0

  objects_in : (a b : ℕ) → ArePaired twins.objects a b → ArePaired candidates.objects a b
  objects_in a b = subst (λ (list : List (Option ℕ)). ArePaired twins.objects a b → ArePaired list a b) within.objects (λ h. h)

  pub stands : StandOverTheTable pairing old new → StandOverTheTable twins old new
  stands = stand_within twins pairing paired (λ a b h. ((are.objects a b).0 (objects_in a b h)).0) (within.structs ∙ are.structs) old new

  pub are_twins : StandOverTheTable pairing old new → IsClosed twins old new → AreTwinsUnder twins old new
  are_twins stand closed = record {
    stand = stands stand;
    contents = λ number h. ((are.objects number number).0 (objects_in number number h)).1;
    closed = closed;
    touch = λ f g h. touches_same twins candidates old within.objects (slice_get old.functions f) ((are.functions f g).0 (within.functions f g h)).1;
  }
