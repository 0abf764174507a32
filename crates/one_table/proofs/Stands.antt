-- Two files that have one table stand over it.
use Rattle.std.proofs.Common.{◌≡◌, ℕ, List, [], ◌∷◌, length, true, false, nat_eq, Option, Some, None, option_map, ◌⊎◌, inl, inr, refl, sym, ap, ap₂, ◌∙◌, subst}
use Rattle.std.proofs.lemmas.Bool.Decides.{eqb_tells}
use Rattle.rvt_tree.specs.declared.pairings.Pairing.{Pairing}
use Rattle.rvt_tree.specs.declared.programs.Program.{Program}
use Rattle.rvt_tree.specs.declared.programs.Object.{Object}
use Rattle.rvt_tree.specs.Same.{ArePaired}
use Rattle.c_types.specs.Layout.{Plan, plan_of_struct}
use Rattle.c_meaning.specs.Stores.{begins_in_plan}
use Rattle.c_meaning.specs.Runs.{is_owner}
use Rattle.c_meaning.specs.Twins.{SameObject, SameObjects, StandOverOneTable, struct_cells}
use Rattle.twin_check.specs.Sets.{IsWithin}
use Rattle.one_table.specs.Candidates.{candidates_of}
use Rattle.one_table.specs.Tables.{SameOwner, IsOneObject, AreOneTable, HaveOneTable}
use Rattle.one_table.proofs.Plans.{PairsItself, as_many, pointee_same, struct_plan, plan_same}
use Rattle.one_table.proofs.Partners.{pairs_itself, one_to_one}

partner_is_one : (list : List (Option ℕ)) (f g h : ℕ) → ArePaired list f g → ArePaired list f h → g ≡ h
partner_is_one list f g h first second = let same : Some (Some g) ≡ Some (Some h) = sym first ∙ second in cc

-- two tests of which each passes where the other does
tests_alike : (a b c d : ℕ) → (a ≡ b → c ≡ d) → (c ≡ d → a ≡ b) → nat_eq a b ≡ nat_eq c d
tests_alike a b c d there back = by (eqb_tells a b) (eqb_tells c d)
  where
    by : ((nat_eq a b ≡ true) × (a ≡ b)) ⊎ ((nat_eq a b ≡ false) × (a ≡ b → ⊥)) → ((nat_eq c d ≡ true) × (c ≡ d)) ⊎ ((nat_eq c d ≡ false) × (c ≡ d → ⊥)) → nat_eq a b ≡ nat_eq c d
    by (inl x) (inl y) = x.0 ∙ sym y.0
    by (inr x) (inr y) = x.0 ∙ sym y.0
    by (inl x) (inr y) = absurd (y.1 (there x.1))
    by (inr x) (inl y) = absurd (x.1 (back y.1))

module _ (old new : Program) (pairing : Pairing) (within : IsWithin pairing (candidates_of old new)) where
  paired : (f g : ℕ) → ArePaired pairing.functions f g → ArePaired (candidates_of old new).functions f g
  paired = within.functions

  owner_alike : (a b : Option ℕ) → SameOwner (candidates_of old new) a b → (f g : ℕ) → ArePaired pairing.functions f g → is_owner f a ≡ is_owner g b
  owner_alike None None h f g p = refl
  owner_alike None (Some o) h f g p = absurd h
  owner_alike (Some o) None h f g p = absurd h
  owner_alike (Some o) (Some o') h f g p =
      tests_alike f o g o'
      (λ e. partner_is_one (candidates_of old new).functions o g o' (subst (λ n. ArePaired (candidates_of old new).functions n g) e (paired f g p)) h)
      (λ e. one_to_one old.functions new.functions f o o' (subst (λ n. ArePaired (candidates_of old new).functions f n) e (paired f g p)) h)

  structs_itself : PairsItself pairing.structs
  structs_itself = subst PairsItself (sym within.structs) (pairs_itself (length old.structs.list))

  objects_itself : PairsItself pairing.objects
  objects_itself = subst PairsItself (sym within.objects) (pairs_itself (length old.table.objects))

  module _ (one : HaveOneTable (candidates_of old new) old new) where
    object_stands : (a b : Object) → IsOneObject (candidates_of old new) a b → SameObject pairing old new a b
    object_stands a b h = record {
      constant = h.constant;
      count = h.count;
      contents = h.contents;
      begins = λ pointee pointee' cell p.
          ap₂ (λ what plan. begins_in_plan what cell plan) (pointee_same pairing structs_itself pointee pointee' p)
          (plan_same (candidates_of old new) (pairs_itself (length old.structs.list)) old.structs new.structs one.structs a.ty b.ty h.type);
      owner = owner_alike a.owner b.owner h.owner;
    }

    objects_stand : (a b : List Object) → AreOneTable (candidates_of old new) a b → SameObjects pairing old new a b
    objects_stand [] [] h = tt
    objects_stand (a ∷ objects) (b ∷ objects') h = (object_stands a b h.0, objects_stand objects objects' h.1)
    objects_stand [] (b ∷ objects') h = absurd h
    objects_stand (a ∷ objects) [] h = absurd h

    cells_alike : (a b : ℕ) → ArePaired pairing.structs a b → struct_cells old a ≡ struct_cells new b
    cells_alike a b h =
        ap (λ depth. option_map (λ (plan : Plan). plan.cells) (plan_of_struct old.structs depth a)) (as_many (candidates_of old new) old.structs.list new.structs.list one.structs)
        ∙ ap (λ plan. option_map (λ (plan : Plan). plan.cells) plan)
        (struct_plan (candidates_of old new) (pairs_itself (length old.structs.list)) old.structs new.structs one.structs (length new.structs.list) a)
        ∙ ap (struct_cells new) (structs_itself a b h)

    pub stand : StandOverOneTable pairing old new
    stand = record { objects = objects_itself; table = objects_stand old.table.objects new.table.objects one.objects; structs = cells_alike }
