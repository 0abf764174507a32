-- Taking a pair out of a pairing.
use Rattle.std.proofs.Common.{◌≡◌, ◌≢◌, ℕ, zero, suc, ◌<◌, List, [], ◌∷◌, length, set, slice_get, Option, Some, None, refl, sym, ap, ◌∙◌, subst, arith}
use Rattle.rvt_tree.specs.declared.pairings.Pairing.{Pairing}
use Rattle.rvt_tree.specs.declared.programs.Program.{Program}
use Rattle.rvt_tree.specs.declared.programs.Function.{Function}
use Rattle.rvt_tree.specs.declared.programs.Local.{Local}
use Rattle.rvt_tree.specs.declared.types.CType.{CType}
use Rattle.rvt_tree.specs.declared.statements.Stmt.{Stmt}
use Rattle.rvt_tree.specs.Same.{ArePaired}
use Rattle.rvt_tree.specs.Views.{stmt_view}
use Rattle.c_types.specs.Layout.{Shape, AWord, APointer, AnArray, AStruct, shape_of}
use Rattle.c_meaning.specs.Twins.{SameShape, SameObjectNumber, SameLocals, SameResult, SameBody, AreTwins}
use Rattle.twin_check.specs.Sets.{IsWithin, HasEveryClosed, partners}
use Rattle.twin_check.proofs.Within.{structs_within, pointee_within, statement_within}

-- there is a pair less
pub partners_fall : (list : List (Option ℕ)) (f g : ℕ) → ArePaired list f g → partners (set list f None) < partners list
partners_fall [] f g h = absurd (let no : None ≡ Some (Some g) = h in cc)
partners_fall (None ∷ rest) zero g h = absurd (let no : Some None ≡ Some (Some g) = h in cc)
partners_fall (Some k ∷ rest) zero g h = omega arith
partners_fall (None ∷ rest) (suc f) g h = partners_fall rest f g h
partners_fall (Some k ∷ rest) (suc f) g h = let less : partners (set rest f None) < partners rest = partners_fall rest f g h in omega (arith, less)

-- what is still paired was paired before
pub still_paired : (list : List (Option ℕ)) (f k g : ℕ) → ArePaired (set list f None) k g → ArePaired list k g
still_paired [] f k g h = h
still_paired (x ∷ rest) zero zero g h = absurd (let no : Some None ≡ Some (Some g) = h in cc)
still_paired (x ∷ rest) zero (suc k) g h = h
still_paired (x ∷ rest) (suc f) zero g h = h
still_paired (x ∷ rest) (suc f) (suc k) g h = still_paired rest f k g h

pub partner_is_one : (list : List (Option ℕ)) (f g h : ℕ) → ArePaired list f g → ArePaired list f h → g ≡ h
partner_is_one list f g h first second = let same : Some (Some g) ≡ Some (Some h) = sym first ∙ second in cc

pub paired_within : (list : List (Option ℕ)) (f g : ℕ) → ArePaired list f g → f < length list
paired_within [] f g h = absurd (let no : None ≡ Some (Some g) = h in cc)
paired_within (x ∷ rest) zero g h = omega arith
paired_within (x ∷ rest) (suc f) g h = let less : f < length rest = paired_within rest f g h in omega (arith, less)

-- another pair stays
pub stays_paired : (list : List (Option ℕ)) (f k g : ℕ) → k ≢ f → ArePaired list k g → ArePaired (set list f None) k g
stays_paired [] f k g other h = h
stays_paired (x ∷ rest) zero zero g other h = absurd (other refl)
stays_paired (x ∷ rest) zero (suc k) g other h = h
stays_paired (x ∷ rest) (suc f) zero g other h = h
stays_paired (x ∷ rest) (suc f) (suc k) g other h = stays_paired rest f k g (λ e. other (ap suc e)) h

-- ---- twins under one pairing are twins under one that pairs more functions

module _ (inner outer : Pairing) (within : IsWithin inner outer) where
  shape_within : (a b : Shape) → SameShape inner a b → SameShape outer a b
  shape_within (AWord a) (AWord b) h = h
  shape_within (APointer a c) (APointer b d) h = (pointee_within inner outer within a b h.0, h.1)
  shape_within (AnArray a n) (AnArray b m) h = (shape_within a b h.0, h.1)
  shape_within (AStruct a) (AStruct b) h = structs_within inner outer within a b h
  shape_within (AWord a) (APointer b d) h = absurd h
  shape_within (AWord a) (AnArray b m) h = absurd h
  shape_within (AWord a) (AStruct b) h = absurd h
  shape_within (APointer a c) (AWord b) h = absurd h
  shape_within (APointer a c) (AnArray b m) h = absurd h
  shape_within (APointer a c) (AStruct b) h = absurd h
  shape_within (AnArray a n) (AWord b) h = absurd h
  shape_within (AnArray a n) (APointer b d) h = absurd h
  shape_within (AnArray a n) (AStruct b) h = absurd h
  shape_within (AStruct a) (AWord b) h = absurd h
  shape_within (AStruct a) (APointer b d) h = absurd h
  shape_within (AStruct a) (AnArray b m) h = absurd h

  object_within : (a b : Option ℕ) → SameObjectNumber inner a b → SameObjectNumber outer a b
  object_within None None h = h
  object_within (Some a) (Some b) h = subst (λ (list : List (Option ℕ)). ArePaired list a b) within.objects h
  object_within None (Some b) h = absurd h
  object_within (Some a) None h = absurd h

  locals_within : (a b : List Local) → SameLocals inner a b → SameLocals outer a b
  locals_within [] [] h = h
  locals_within (a ∷ rest) (b ∷ others) h =
      (record { object = object_within a.object b.object h.0.object; type = shape_within (shape_of a.ty) (shape_of b.ty) h.0.type }, locals_within rest others h.1)
  locals_within [] (b ∷ others) h = absurd h
  locals_within (a ∷ rest) [] h = absurd h

  result_within : (a b : Option CType) → SameResult inner a b → SameResult outer a b
  result_within None None h = h
  result_within (Some a) (Some b) h = shape_within (shape_of a) (shape_of b) h
  result_within None (Some b) h = absurd h
  result_within (Some a) None h = absurd h

  body_within : (a b : Option Stmt) → SameBody inner a b → SameBody outer a b
  body_within None None h = h
  body_within (Some a) (Some b) h = statement_within inner outer within (stmt_view a) (stmt_view b) h
  body_within None (Some b) h = absurd h
  body_within (Some a) None h = absurd h

  pub twins_within : (a b : Option Function) → AreTwins inner a b → AreTwins outer a b
  twins_within (Some a) (Some b) h = record {
    params = locals_within a.params b.params h.params;
    locals = locals_within a.locals b.locals h.locals;
    result = result_within a.result b.result h.result;
    body = body_within a.body b.body h.body;
  }
  twins_within None b h = absurd h
  twins_within (Some a) None h = absurd h

-- ---- a pair that is taken out

pub within_trans : (a b c : Pairing) → IsWithin a b → IsWithin b c → IsWithin a c
within_trans a b c first second = record {
  functions = λ f g h. second.functions f g (first.functions f g h);
  objects = first.objects ∙ second.objects;
  structs = first.structs ∙ second.structs;
}

pub within_itself : (a : Pairing) → IsWithin a a
within_itself a = record { functions = λ f g h. h; objects = refl; structs = refl }

-- the pairing without the pair of f
abbrev pub without : Pairing → ℕ → Pairing
without pairing f = record pairing { functions = set pairing.functions f None }

pub without_within : (pairing before : Pairing) (f : ℕ) → IsWithin pairing before → IsWithin (without pairing f) before
without_within pairing before f within = record {
  functions = λ k g h. within.functions k g (still_paired pairing.functions f k g h);
  objects = within.objects;
  structs = within.structs;
}

-- no closed set within has a pair that isn't equal
pub without_every : (old new : Program) (before pairing : Pairing) (f g : ℕ) → ArePaired pairing.functions f g →
    (AreTwins pairing (slice_get old.functions f) (slice_get new.functions g) → ⊥) → HasEveryClosed old new before pairing → HasEveryClosed old new before (without pairing f)
without_every old new before pairing f g paired no_twins every closed within is_closed =
    let inside : IsWithin closed pairing = every closed within is_closed in
    record {
      functions = λ k h in_closed. stays_paired pairing.functions f k h
          (λ same.
          let at_f : ArePaired closed.functions f h = subst (λ (n : ℕ). ArePaired closed.functions n h) same in_closed in
          let one : h ≡ g = partner_is_one pairing.functions f h g (inside.functions f h at_f) paired in
          no_twins (subst (λ (n : ℕ). AreTwins pairing (slice_get old.functions f) (slice_get new.functions n)) one
          (twins_within closed pairing inside (slice_get old.functions f) (slice_get new.functions h) (is_closed f h at_f))))
          (inside.functions k h in_closed);
      objects = inside.objects;
      structs = inside.structs;
    }

pub every_trans : (old new : Program) (a b c : Pairing) → HasEveryClosed old new a b → HasEveryClosed old new b c → HasEveryClosed old new a c
every_trans old new a b c first second closed within is_closed = second closed (first closed within is_closed) is_closed
