-- The objects of two joint programs are the same objects.
use Rattle.std.proofs.Common.{◌≡◌, ℕ, suc, ◌+◌, ◌<◌, ◌≤◌, List, [], ◌∷◌, map, length, slice_get, get_or, Bool, true, false, nat_eq, Option, Some, None, option_map, option_and_then, ◌⊎◌, inl, inr, refl, sym, ap, ◌∙◌, subst, arith}
use Rattle.std.proofs.lemmas.Bool.Decides.{eqb_tells}
use Rattle.std.proofs.lemmas.Option.{slice_get_within, get_or_from_slice_get}
use Rattle.rvt_tree.specs.declared.pairings.Pairing.{Pairing}
use Rattle.rvt_tree.specs.declared.programs.Object.{Object}
use Rattle.rvt_tree.specs.declared.programs.Program.{Program}
use Rattle.rvt_tree.specs.Same.{ArePaired}
use Rattle.c_types.specs.Layout.{Shape, AWord, APointer, AnArray, AStruct, shape_of, Plan, plan_of, plan_of_struct}
use Rattle.c_meaning.specs.Runs.{is_owner}
use Rattle.c_meaning.specs.Twins.{struct_cells}
use Rattle.twin_laws.specs.Tables.{SameButForContents, AreSameButForContents, StandOverTheTable}
use Rattle.version_map.specs.declared.map.Added.{Added}
use Rattle.joint_objects.specs.declared.objects.Origin.{Origin}
use Rattle.joint_objects.specs.declared.objects.Origin.TheVariants.{Both, Old, New}
use Rattle.joint_objects.specs.declared.objects.Element.{Element}
use Rattle.joint_objects.specs.declared.objects.Element.TheVariants as e
use Rattle.joint_objects.specs.declared.objects.JointObject.{JointObject}
use Rattle.joint_objects.specs.declared.objects.JointObject.TheVariants.{Global, Local, Extra, Mapped}
use Rattle.joint_objects.specs.Sides.{Partners}
use Rattle.joint_objects.specs.JointObjects.{equal_structs}
use Rattle.joint_programs.specs.Parts.{ObjectParts, object_parts, struct_parts}
use Rattle.joint_programs.specs.Views.{origin_turned, element_turned, turned, table_turned}
use Rattle.joint_programs.specs.Structs.{number_across, joint_structs}
use Rattle.joint_programs.specs.Objects.{own_object, their_object, or_none, is_addressable, object_from, repeated_cells, extra_array, mapped_array, joint_object}
use Rattle.joint_laws.specs.Premises.{HoldsBelow, IsNumbered, AreMutual, HavePartnersAsOwners, IsOneObject, file_pairing, IsFromFiles, IsElement, IsOfFiles, AreOfFiles}
use Rattle.joint_laws.proofs.Plans.{TypeAlike, Alike, StructsAlike, type_plans, struct_plans, plans_tell}
use Rattle.joint_laws.proofs.Tests.{tests_alike}
use Rattle.joint_laws.proofs.Pairs.{equal_paired, pairs_itself}
use Rattle.joint_laws.proofs.Types.{partner_there, same_alike, there_alike, here_alike}
use Rattle.joint_laws.proofs.Joined.{pairing, view, view', all_old, all_new, old_below, new_below, old_there, new_there, one_to_one, pairs_alike, all_structs, all_structs', equal_cells}

-- ---- types that hold structs below a number

holds_more : (n m : ℕ) (x : Shape) → n ≤ m → HoldsBelow n x → HoldsBelow m x
holds_more n m (AWord kind) h k = tt
holds_more n m (APointer pointee constant) h k = tt
holds_more n m (AnArray element count) h k = holds_more n m element h k
holds_more n m (AStruct structure) h k = let low : structure < m = omega (arith, h, k) in low

-- ---- lists

first_of : {x y : ObjectParts} {xs ys : List ObjectParts} → x ∷ xs ≡ y ∷ ys → x ≡ y
first_of h = cc

rest_of : {x y : ObjectParts} {xs ys : List ObjectParts} → x ∷ xs ≡ y ∷ ys → xs ≡ ys
rest_of h = cc

-- ---- owners

module _ (functions : Partners) (turning : AreMutual functions) where
  one_partner : (f g h : ℕ) → ArePaired functions.of_old f g → ArePaired functions.of_old f h → g ≡ h
  one_partner f g h p q = let same : ◌≡◌ {A = Option (Option ℕ)} (Some (Some g)) (Some (Some h)) = sym p ∙ q in cc

  one_owner : (f f' g : ℕ) → ArePaired functions.of_old f g → ArePaired functions.of_old f' g → f ≡ f'
  one_owner f f' g p q = let same : ◌≡◌ {A = Option (Option ℕ)} (Some (Some f)) (Some (Some f')) = sym ((turning f g).0 p) ∙ (turning f' g).0 q in cc

  paired_owners : (o o' f g : ℕ) → ArePaired functions.of_old o o' → ArePaired functions.of_old f g → nat_eq f o ≡ nat_eq g o'
  paired_owners o o' f g h p =
      tests_alike f o g o'
      (λ e. one_partner o g o' (subst (λ n. ArePaired functions.of_old n g) e p) h)
      (λ e. one_owner f o o' (subst (λ n. ArePaired functions.of_old f n) e p) h)

  -- a function without a partner is none of a pair
  not_of_pair : (a b : ℕ) → (a ≡ b → ⊥) → nat_eq a b ≡ false
  not_of_pair a b other = by (eqb_tells a b)
    where
      by : ((nat_eq a b ≡ true) × (a ≡ b)) ⊎ ((nat_eq a b ≡ false) × (a ≡ b → ⊥)) → nat_eq a b ≡ false
      by (inl x) = absurd (other x.1)
      by (inr x) = x.0

  both_owners : (o o' : Option ℕ) → HavePartnersAsOwners functions.of_old o o' → (f g : ℕ) → ArePaired functions.of_old f g → is_owner f o ≡ is_owner g o'
  both_owners None None h f g p = refl
  both_owners (Some o) (Some o') h f g p = paired_owners o o' f g h p
  both_owners None (Some o') h f g p = absurd h
  both_owners (Some o) None h f g p = absurd h

  -- the owner of an object of the old file alone, and its partner
  from_old : (o : ℕ) (q : Option ℕ) → get_or functions.of_old o None ≡ q → (f g : ℕ) → ArePaired functions.of_old f g → nat_eq f o ≡ is_owner g q
  from_old o (Some o') e f g p = paired_owners o o' f g (partner_there functions.of_old o o' e) p
  from_old o None e f g p = not_of_pair f o (λ same. absurd (let no : ◌≡◌ {A = Option ℕ} None (Some g) = sym e ∙ get_or_from_slice_get functions.of_old o (Some g) None (subst (λ n. ArePaired functions.of_old n g) same p) in cc))

  old_owner : (o : Option ℕ) (f g : ℕ) → ArePaired functions.of_old f g → is_owner f o ≡ is_owner g (option_and_then (λ function. get_or functions.of_old function None) o)
  old_owner None f g p = refl
  old_owner (Some o) f g p = from_old o (get_or functions.of_old o None) refl f g p

  from_new : (o' : ℕ) (q : Option ℕ) → get_or functions.of_new o' None ≡ q → (f g : ℕ) → ArePaired functions.of_old f g → is_owner f q ≡ nat_eq g o'
  from_new o' (Some o) e f g p = paired_owners o o' f g ((turning o o').1 (partner_there functions.of_new o' o e)) p
  from_new o' None e f g p = sym (not_of_pair g o' (λ same. absurd (let no : ◌≡◌ {A = Option ℕ} None (Some f) = sym e ∙ get_or_from_slice_get functions.of_new o' (Some f) None (subst (λ n. ArePaired functions.of_new n f) same ((turning f g).0 p)) in cc)))

  new_owner : (o : Option ℕ) (f g : ℕ) → ArePaired functions.of_old f g → is_owner f (option_and_then (λ function. get_or functions.of_new function None) o) ≡ is_owner g o
  new_owner None f g p = refl
  new_owner (Some o) f g p = from_new o (get_or functions.of_new o None) refl f g p

-- ---- objects

module _ (old new : Program) (functions : Partners) (count : ℕ) (structs_mutual : AreMutual (equal_structs old new)) (turning : AreMutual functions) (numbered : IsNumbered old) (numbered' : IsNumbered new) where
  abbrev pub both : ℕ
  both = length old.structs.list + length new.structs.list

  abbrev pub both' : ℕ
  both' = length new.structs.list + length old.structs.list

  abbrev pub pairs : Pairing
  pairs = pairing old new functions count

  -- an object of the table as the two programs have it
  pub record PartsAlike (u v : ObjectParts) : Type 0 where
    pub constant : u.constant ≡ v.constant
    pub number : length u.initial ≡ length v.initial
    pub type : TypeAlike pairs both both' u.shape v.shape
    pub owner : (f g : ℕ) → ArePaired functions.of_old f g → is_owner f u.owner ≡ is_owner g v.owner

  there : (a : ℕ) → a < length old.structs.list → ArePaired pairs.structs a (number_across (view' old new functions count) a) × (a < both) × (number_across (view' old new functions count) a < both')
  there a h =
      let t = old_there old new functions count a h in
      let bound : number_across (view' old new functions count) a < length new.structs.list + suc a = t.1 in
      (t.0, (let low : a < both = omega (arith, h) in low), (let low : number_across (view' old new functions count) a < both' = omega (arith, bound, h) in low))

  here : (b : ℕ) → b < length new.structs.list → ArePaired pairs.structs (number_across (view old new functions count) b) b × (number_across (view old new functions count) b < both) × (b < both')
  here b h =
      let t = new_there old new functions count structs_mutual b h in
      let bound : number_across (view old new functions count) b < length old.structs.list + suc b = t.1 in
      (t.0, (let low : number_across (view old new functions count) b < both = omega (arith, bound, h) in low), (let low : b < both' = omega (arith, h) in low))

  old_holds : (a : ℕ) (x : Object) → slice_get old.table.objects a ≡ Some x → HoldsBelow both (shape_of x.ty)
  old_holds a x h = holds_more (length old.structs.list) both (shape_of x.ty) (let low : length old.structs.list ≤ both = omega arith in low) (numbered.objects a x h)

  new_holds : (b : ℕ) (y : Object) → slice_get new.table.objects b ≡ Some y → HoldsBelow both' (shape_of y.ty)
  new_holds b y h = holds_more (length new.structs.list) both' (shape_of y.ty) (let low : length new.structs.list ≤ both' = omega arith in low) (numbered'.objects b y h)

  in_both : (t t' : Bool) (a b : ℕ) (x y : Object) → slice_get old.table.objects a ≡ Some x → slice_get new.table.objects b ≡ Some y →
      IsOneObject (file_pairing (equal_structs old new) functions) x y → PartsAlike (own_object t x) (own_object t' y)
  in_both t t' a b x y h k one = record {
    constant = one.constant;
    number = one.count;
    type =
        same_alike pairs (equal_structs old new).of_old both both' (λ i j p _ _. equal_paired (length new.structs.list) (equal_structs old new) i j p) (file_pairing (equal_structs old new) functions) refl
        (shape_of x.ty) (shape_of y.ty) one.type (old_holds a x h) (new_holds b y k);
    owner = both_owners functions turning x.owner y.owner one.owner;
  }

  in_old : (a : ℕ) (x : Object) → slice_get old.table.objects a ≡ Some x → PartsAlike (own_object false x) (their_object (view' old new functions count) x)
  in_old a x h = record {
    constant = refl;
    number = refl;
    type = there_alike pairs (number_across (view' old new functions count)) (length old.structs.list) both both' there (shape_of x.ty) (numbered.objects a x h);
    owner = old_owner functions turning x.owner;
  }

  in_new : (b : ℕ) (y : Object) → slice_get new.table.objects b ≡ Some y → PartsAlike (their_object (view old new functions count) y) (own_object false y)
  in_new b y h = record {
    constant = refl;
    number = refl;
    type = here_alike pairs (number_across (view old new functions count)) (length new.structs.list) both both' here (shape_of y.ty) (numbered'.objects b y h);
    owner = new_owner functions turning y.owner;
  }

  origin_alike : (origin : Origin) → IsFromFiles old new (equal_structs old new) functions origin →
      PartsAlike (object_from (view old new functions count) origin) (object_from (view' old new functions count) (origin_turned origin))
  origin_alike (Both a b) h =
      let x : Object = h.0 in
      let y : Object = h.1 in
      let is_x : slice_get old.table.objects a ≡ Some x = h.2 in
      let is_y : slice_get new.table.objects b ≡ Some y = h.3 in
      subst (λ o. PartsAlike (or_none (own_object (is_addressable (slice_get new.table.objects b))) o) (or_none (own_object (is_addressable (slice_get old.table.objects a))) (slice_get new.table.objects b))) (sym is_x)
      (subst (λ o. PartsAlike (own_object (is_addressable (slice_get new.table.objects b)) x) (or_none (own_object (is_addressable (slice_get old.table.objects a))) o)) (sym is_y)
      (in_both (is_addressable (slice_get new.table.objects b)) (is_addressable (slice_get old.table.objects a)) a b x y is_x is_y h.4))
  origin_alike (Old a) h =
      subst (λ o. PartsAlike (or_none (own_object false) o) (or_none (their_object (view' old new functions count)) o)) (sym h.1) (in_old a h.0 h.1)
  origin_alike (New b) h =
      subst (λ o. PartsAlike (or_none (their_object (view old new functions count)) o) (or_none (own_object false) o)) (sym h.1) (in_new b h.0 h.1)

  old_struct : (a : ℕ) → slice_get (equal_structs old new).of_old a ≡ Some None → a < length old.structs.list
  old_struct a h = subst (λ n. a < n) (all_old old new functions count) (slice_get_within (equal_structs old new).of_old a None h)

  new_struct : (b : ℕ) → slice_get (equal_structs old new).of_new b ≡ Some None → b < length new.structs.list
  new_struct b h = subst (λ n. b < n) (all_new old new functions count) (slice_get_within (equal_structs old new).of_new b None h)

  extra_alike : (element : Element) → IsElement old new (equal_structs old new) functions element →
      PartsAlike (extra_array (view old new functions count) element) (extra_array (view' old new functions count) (element_turned element))
  extra_alike (e.Word kind) h = record { constant = refl; number = refl; type = (refl, refl); owner = λ f g p. refl }
  extra_alike (e.Struct (Both a b)) h = record {
    constant = refl;
    number = ap (λ cells. length (repeated_cells 8 cells)) (equal_cells old new functions count structs_mutual numbered numbered' a b h);
    type = (
      (
        equal_paired (length new.structs.list) (equal_structs old new) a b h,
        (let own : a < length old.structs.list = old_below old new functions count a b h in let low : a < both = omega (arith, own) in low),
        (let own : b < length new.structs.list = new_below old new functions count a b h in let low : b < both' = omega (arith, own) in low),
      ),
      refl,
    );
    owner = λ f g p. refl;
  }
  extra_alike (e.Struct (Old a)) h = record {
    constant = refl;
    number = refl;
    type = (there a (old_struct a h), refl);
    owner = λ f g p. refl;
  }
  extra_alike (e.Struct (New b)) h = record {
    constant = refl;
    number = refl;
    type = (here b (new_struct b h), refl);
    owner = λ f g p. refl;
  }

  mapped_alike : (added : Option Added) → PartsAlike (mapped_array added) (mapped_array added)
  mapped_alike None = record { constant = refl; number = refl; type = refl; owner = λ f g p. refl }
  mapped_alike (Some added) = record { constant = refl; number = refl; type = (refl, refl); owner = λ f g p. refl }

  entry_alike : (added : List Added) (object : JointObject) → IsOfFiles old new (equal_structs old new) functions object →
      PartsAlike (joint_object (view old new functions count) added object) (joint_object (view' old new functions count) added (turned object))
  entry_alike added (Global origin) h = origin_alike origin h
  entry_alike added (Local origin declaration) h = origin_alike origin h
  entry_alike added (Extra element which) h = extra_alike element h
  entry_alike added (Mapped which) h = mapped_alike (slice_get added which)

  -- ---- the two programs

  module _ (program program' : Program) (is_old : map struct_parts program.structs.list ≡ joint_structs (view old new functions count)) (is_new : map struct_parts program'.structs.list ≡ joint_structs (view' old new functions count)) where
    alike : (a b : ℕ) → ArePaired pairs.structs a b → StructsAlike pairs program.structs.list program'.structs.list a b
    alike = pairs_alike old new functions count structs_mutual numbered numbered' program program' is_old is_new

    same_object : (o o' : Object) → PartsAlike (object_parts o) (object_parts o') → SameButForContents pairs program program' o o'
    same_object o o' h = record {
      constant = h.constant;
      count = h.number;
      begins = λ k k' cell p.
          plans_tell pairs (one_to_one old new functions count structs_mutual) k k' cell (plan_of program.structs o.ty) (plan_of program'.structs o'.ty) p
          (type_plans pairs program.structs program'.structs alike o.ty o'.ty
          (subst (λ n. TypeAlike pairs n (length program'.structs.list) (shape_of o.ty) (shape_of o'.ty)) (sym (all_structs old new functions count structs_mutual numbered numbered' program program' is_old is_new))
          (subst (λ n. TypeAlike pairs both n (shape_of o.ty) (shape_of o'.ty)) (sym (all_structs' old new functions count structs_mutual numbered numbered' program program' is_old is_new)) h.type)));
      owner = h.owner;
    }

    same_objects : (added : List Added) (table : List JointObject) → AreOfFiles old new (equal_structs old new) functions table → (os os' : List Object) →
        map object_parts os ≡ map (joint_object (view old new functions count) added) table → map object_parts os' ≡ map (joint_object (view' old new functions count) added) (table_turned table) →
        AreSameButForContents pairs program program' os os'
    same_objects added [] h [] [] e e' = tt
    same_objects added [] h (o ∷ os) os' e e' = absurd (let no : ◌≡◌ {A = List ObjectParts} (object_parts o ∷ map object_parts os) [] = e in cc)
    same_objects added [] h [] (o' ∷ os') e e' = absurd (let no : ◌≡◌ {A = List ObjectParts} (object_parts o' ∷ map object_parts os') [] = e' in cc)
    same_objects added (x ∷ table) h [] os' e e' = absurd (let no : ◌≡◌ {A = List ObjectParts} [] (joint_object (view old new functions count) added x ∷ map (joint_object (view old new functions count) added) table) = e in cc)
    same_objects added (x ∷ table) h (o ∷ os) [] e e' = absurd (let no : ◌≡◌ {A = List ObjectParts} [] (joint_object (view' old new functions count) added (turned x) ∷ map (joint_object (view' old new functions count) added) (table_turned table)) = e' in cc)
    same_objects added (x ∷ table) h (o ∷ os) (o' ∷ os') e e' =
        let first : object_parts o ≡ joint_object (view old new functions count) added x = first_of e in
        let first' : object_parts o' ≡ joint_object (view' old new functions count) added (turned x) = first_of e' in (
          same_object o o' (subst (λ u. PartsAlike u (object_parts o')) (sym first) (subst (λ v. PartsAlike (joint_object (view old new functions count) added x) v) (sym first') (entry_alike added x h.0))),
          same_objects added table h.1 os os' (rest_of e) (rest_of e'),
        )

    cells_alike : (p q : Option Plan) → Alike pairs p q → option_map (λ (plan : Plan). plan.cells) p ≡ option_map (λ (plan : Plan). plan.cells) q
    cells_alike None None h = refl
    cells_alike (Some p) (Some q) h = ap Some h.cells
    cells_alike None (Some q) h = absurd h
    cells_alike (Some p) None h = absurd h

    same_structs : (a b : ℕ) → ArePaired pairs.structs a b → struct_cells program a ≡ struct_cells program' b
    same_structs a b h =
        let x = alike a b h in
        cells_alike (plan_of_struct program.structs (length program.structs.list) a) (plan_of_struct program'.structs (length program'.structs.list) b)
        (struct_plans pairs program.structs program'.structs alike (length program.structs.list) (length program'.structs.list) a b h
        (slice_get_within program.structs.list a x.first x.here) (slice_get_within program'.structs.list b x.second x.there))

    pub stand : (added : List Added) (table : List JointObject) → AreOfFiles old new (equal_structs old new) functions table →
        map object_parts program.table.objects ≡ map (joint_object (view old new functions count) added) table →
        map object_parts program'.table.objects ≡ map (joint_object (view' old new functions count) added) (table_turned table) →
        StandOverTheTable pairs program program'
    stand added table h e e' = record {
      objects = λ a b p. pairs_itself count a b p;
      table = same_objects added table h program.table.objects program'.table.objects e e';
      structs = same_structs;
    }
