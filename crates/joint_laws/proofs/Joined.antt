-- The structs of two joint programs are alike where they are paired.
use Rattle.std.proofs.Common.{◌≡◌, ℕ, zero, suc, ◌+◌, ◌<◌, List, [], ◌∷◌, ◌++◌, map, length, slice_get, get_or, unwrap_or, Option, Some, None, option_map, refl, sym, ap, ap₂, ◌∙◌, subst, arith}
use Rattle.std.proofs.lemmas.Option.{slice_get-map, slice_get_within, slice_get-get_or}
use Rattle.rvt_tree.specs.declared.types.CType.TheVariants as C
use Rattle.rvt_tree.specs.declared.pairings.Pairing.{Pairing}
use Rattle.rvt_tree.specs.declared.programs.StructDef.{StructDef}
use Rattle.rvt_tree.specs.declared.programs.Program.{Program}
use Rattle.rvt_tree.specs.Same.{ArePaired}
use Rattle.c_types.specs.Layout.{Plan, plan_of, both_or_neither}
use Rattle.c_meaning.specs.Runs.{zero_cell, zero_cells}
use Rattle.joint_objects.specs.Sides.{Partners}
use Rattle.joint_objects.specs.StructTypes.{same_fields}
use Rattle.joint_objects.specs.JointObjects.{equal_structs}
use Rattle.joint_programs.specs.Parts.{StructParts, field_parts, struct_parts}
use Rattle.joint_programs.specs.Views.{View, seen_from_old, seen_from_new}
use Rattle.joint_programs.specs.Structs.{number_across, struct_across, joint_structs}
use Rattle.joint_programs.specs.Pairings.{joint_pairing}
use Rattle.joint_laws.specs.Premises.{IsNumbered, AreMutual}
use Rattle.joint_laws.proofs.Plans.{FieldsAlike, StructsAlike, Alike, type_plans}
use Rattle.joint_laws.proofs.Pairs.{StructPair, Equal, OfOld, OfNew, struct_pair, equal_paired, old_paired, new_paired, injective}
use Rattle.joint_laws.proofs.Equal.{AreEqual, as_many, partners_are_equal, paired_before}
use Rattle.joint_laws.proofs.Types.{both_true, alike_bools, equal_fields_alike, fields_there_alike, fields_here_alike}

-- ---- lists

pub record Entry {X : Type 0} (xs : List X) (i : ℕ) : Type 0 where
  pub entry : X
  pub here : slice_get xs i ≡ Some entry

pub entry_at : {X : Type 0} (xs : List X) (i : ℕ) → i < length xs → Entry xs i
entry_at [] i h = absurd (let no : ⊥ = omega (arith, h) in no)
entry_at (x ∷ xs) zero h = record { entry = x; here = refl }
entry_at (x ∷ xs) (suc i) h =
    let next : Entry xs i = entry_at xs i (let low : i < length xs = omega (arith, h) in low) in
    record { entry = next.entry; here = next.here }

pub record Seen {X Y : Type 0} (f : X → Y) (xs : List X) (i : ℕ) (y : Y) : Type 0 where
  pub entry : X
  pub here : slice_get xs i ≡ Some entry
  pub seen : f entry ≡ y

pub seen_at : {X Y : Type 0} (f : X → Y) (xs : List X) (ys : List Y) → map f xs ≡ ys → (i : ℕ) (y : Y) → slice_get ys i ≡ Some y → Seen f xs i y
seen_at {X = X} {Y = Y} f xs ys e i y h = by (slice_get xs i) refl (sym (slice_get-map f xs i) ∙ (ap (λ zs. slice_get zs i) e ∙ h))
  where
    by : (o : Option X) → slice_get xs i ≡ o → option_map f o ≡ Some y → Seen f xs i y
    by None there k = absurd (let no : None ≡ Some y = k in cc)
    by (Some x) there k = let same : ◌≡◌ {A = Option Y} (Some (f x)) (Some y) = k in let inside : f x ≡ y = cc in record { entry = x; here = there; seen = inside }

pub in_first : {X : Type 0} (xs ys : List X) (i : ℕ) (x : X) → slice_get xs i ≡ Some x → slice_get (xs ++ ys) i ≡ Some x
in_first {X = X} [] ys i x h = absurd (let no : ◌≡◌ {A = Option X} None (Some x) = h in cc)
in_first (y ∷ xs) ys zero x h = h
in_first (y ∷ xs) ys (suc i) x h = in_first xs ys i x h

pub in_second : {X : Type 0} (xs ys : List X) (i : ℕ) (x : X) → slice_get ys i ≡ Some x → slice_get (xs ++ ys) (length xs + i) ≡ Some x
in_second [] ys i x h = let place : 0 + i ≡ i = omega arith in ap (slice_get ys) place ∙ h
in_second (y ∷ xs) ys i x h =
    let place : suc (length xs) + i ≡ suc (length xs + i) = omega arith in
    ap (slice_get (y ∷ (xs ++ ys))) place ∙ in_second xs ys i x h

length_map : {X Y : Type 0} (f : X → Y) (xs : List X) → length (map f xs) ≡ length xs
length_map f [] = refl
length_map f (x ∷ xs) = ap suc (length_map f xs)

length_both : {X : Type 0} (xs ys : List X) → length (xs ++ ys) ≡ length xs + length ys
length_both [] ys = let e : length ys ≡ 0 + length ys = omega arith in e
length_both (x ∷ xs) ys =
    let e : length (xs ++ ys) ≡ length xs + length ys = length_both xs ys in
    let all : suc (length (xs ++ ys)) ≡ suc (length xs) + length ys = omega (arith, e) in
    all

mapped_at : {X Y : Type 0} (f : X → Y) (xs : List X) (i : ℕ) (x : X) → slice_get xs i ≡ Some x → slice_get (map f xs) i ≡ Some (f x)
mapped_at f xs i x h = slice_get-map f xs i ∙ ap (option_map f) h

-- ---- the two files

module _ (old new : Program) (functions : Partners) (count : ℕ) where
  abbrev pub structs : Partners
  structs = equal_structs old new

  abbrev pub pairing : Pairing
  pairing = joint_pairing old new functions count

  abbrev pub view : View
  view = seen_from_old old new functions

  abbrev pub view' : View
  view' = seen_from_new old new functions

  pub all_old : length structs.of_old ≡ length old.structs.list
  all_old =
      let e : length structs.of_old ≡ 0 + length old.structs.list = as_many new.structs.list [] old.structs.list in
      let all : length structs.of_old ≡ length old.structs.list = omega (arith, e) in
      all

  pub all_new : length structs.of_new ≡ length new.structs.list
  all_new =
      let e : length structs.of_new ≡ 0 + length new.structs.list = as_many old.structs.list [] new.structs.list in
      let all : length structs.of_new ≡ length new.structs.list = omega (arith, e) in
      all

  equal_at : (a b : ℕ) → ArePaired structs.of_old a b → AreEqual new.structs.list old.structs.list structs.of_old a b
  equal_at a b h =
      let place : 0 + a ≡ a = omega arith in
      partners_are_equal new.structs.list [] old.structs.list a b (ap (slice_get structs.of_old) place ∙ h)

  pub old_below : (a b : ℕ) → ArePaired structs.of_old a b → a < length old.structs.list
  old_below a b h = let x = equal_at a b h in slice_get_within old.structs.list a x.ours x.here

  pub new_below : (a b : ℕ) → ArePaired structs.of_old a b → b < length new.structs.list
  new_below a b h = let x = equal_at a b h in slice_get_within new.structs.list b x.other x.there

  -- ---- the number of a struct in the other program

  from_old : (a : ℕ) (p : Option ℕ) → slice_get structs.of_old a ≡ Some p →
      ArePaired pairing.structs a (unwrap_or p (length new.structs.list + a)) × (unwrap_or p (length new.structs.list + a) < length new.structs.list + suc a)
  from_old a None h = (old_paired (length new.structs.list) structs a h, (let low : length new.structs.list + a < length new.structs.list + suc a = omega arith in low))
  from_old a (Some b) h =
      let below : b < length new.structs.list = new_below a b h in
      (equal_paired (length new.structs.list) structs a b h, (let low : b < length new.structs.list + suc a = omega (arith, below) in low))

  pub old_there : (a : ℕ) → a < length old.structs.list → ArePaired pairing.structs a (number_across view' a) × (number_across view' a < length new.structs.list + suc a)
  old_there a h =
      let low : a < length structs.of_old = subst (λ n. a < n) (sym all_old) h in
      from_old a (get_or structs.of_old a None) (slice_get-get_or structs.of_old a None low)

  module _ (turning : AreMutual structs) where
    from_new : (b : ℕ) (p : Option ℕ) → slice_get structs.of_new b ≡ Some p →
        ArePaired pairing.structs (unwrap_or p (length old.structs.list + b)) b × (unwrap_or p (length old.structs.list + b) < length old.structs.list + suc b)
    from_new b None h = (
      subst (λ n. ArePaired pairing.structs (n + b) b) all_old (new_paired (length new.structs.list) structs b h),
      (let low : length old.structs.list + b < length old.structs.list + suc b = omega arith in low),
    )
    from_new b (Some a) h =
        let back : ArePaired structs.of_old a b = (turning a b).1 h in
        let below : a < length old.structs.list = old_below a b back in
        (equal_paired (length new.structs.list) structs a b back, (let low : a < length old.structs.list + suc b = omega (arith, below) in low))

    pub new_there : (b : ℕ) → b < length new.structs.list → ArePaired pairing.structs (number_across view b) b × (number_across view b < length old.structs.list + suc b)
    new_there b h =
        let low : b < length structs.of_new = subst (λ n. b < n) (sym all_new) h in
        from_new b (get_or structs.of_new b None) (slice_get-get_or structs.of_new b None low)

    pub one_to_one : (a a' b : ℕ) → ArePaired pairing.structs a b → ArePaired pairing.structs a' b → a ≡ a'
    one_to_one = injective (length new.structs.list) structs (λ a b h. (turning a b).0 h) new_below all_new

    -- ---- structs that are paired

    module _ (numbered : IsNumbered old) (numbered' : IsNumbered new) where
      module _ (program program' : Program) (is_old : map struct_parts program.structs.list ≡ joint_structs view) (is_new : map struct_parts program'.structs.list ≡ joint_structs view') where
        alike_at : (a b : ℕ) (u v : StructParts) → slice_get (joint_structs view) a ≡ Some u → slice_get (joint_structs view') b ≡ Some v → u.complete ≡ v.complete → FieldsAlike pairing a b u.fields v.fields →
            StructsAlike pairing program.structs.list program'.structs.list a b
        alike_at a b u v h k complete fields =
            let x : Seen struct_parts program.structs.list a u = seen_at struct_parts program.structs.list (joint_structs view) is_old a u h in
            let y : Seen struct_parts program'.structs.list b v = seen_at struct_parts program'.structs.list (joint_structs view') is_new b v k in
            record {
              first = x.entry;
              second = y.entry;
              here = x.here;
              there = y.here;
              complete = ap (λ s. s.complete) x.seen ∙ (complete ∙ ap (λ s. s.complete) (sym y.seen));
              fields =
                  subst (λ s. FieldsAlike pairing a b s (map field_parts y.entry.fields)) (ap (λ s. s.fields) (sym x.seen))
                  (subst (λ s. FieldsAlike pairing a b u.fields s) (ap (λ s. s.fields) (sym y.seen)) fields);
            }

        own : (s : StructDef) (a : ℕ) → slice_get old.structs.list a ≡ Some s → slice_get (joint_structs view) a ≡ Some (struct_parts s)
        own s a h = in_first (map struct_parts old.structs.list) (map (λ t. struct_across (number_across view) (struct_parts t)) new.structs.list) a (struct_parts s) (mapped_at struct_parts old.structs.list a s h)

        own' : (s : StructDef) (b : ℕ) → slice_get new.structs.list b ≡ Some s → slice_get (joint_structs view') b ≡ Some (struct_parts s)
        own' s b h = in_first (map struct_parts new.structs.list) (map (λ t. struct_across (number_across view') (struct_parts t)) old.structs.list) b (struct_parts s) (mapped_at struct_parts new.structs.list b s h)

        behind : (s : StructDef) (b : ℕ) → slice_get new.structs.list b ≡ Some s → slice_get (joint_structs view) (length old.structs.list + b) ≡ Some (struct_across (number_across view) (struct_parts s))
        behind s b h =
            subst (λ n. slice_get (joint_structs view) (n + b) ≡ Some (struct_across (number_across view) (struct_parts s))) (length_map struct_parts old.structs.list)
            (in_second (map struct_parts old.structs.list) (map (λ t. struct_across (number_across view) (struct_parts t)) new.structs.list) b (struct_across (number_across view) (struct_parts s))
            (mapped_at (λ t. struct_across (number_across view) (struct_parts t)) new.structs.list b s h))

        behind' : (s : StructDef) (a : ℕ) → slice_get old.structs.list a ≡ Some s → slice_get (joint_structs view') (length new.structs.list + a) ≡ Some (struct_across (number_across view') (struct_parts s))
        behind' s a h =
            subst (λ n. slice_get (joint_structs view') (n + a) ≡ Some (struct_across (number_across view') (struct_parts s))) (length_map struct_parts new.structs.list)
            (in_second (map struct_parts new.structs.list) (map (λ t. struct_across (number_across view') (struct_parts t)) old.structs.list) a (struct_across (number_across view') (struct_parts s))
            (mapped_at (λ t. struct_across (number_across view') (struct_parts t)) old.structs.list a s h))

        equal_pair : (a b : ℕ) → ArePaired structs.of_old a b → StructsAlike pairing program.structs.list program'.structs.list a b
        equal_pair a b h =
            let x = equal_at a b h in
            let both = both_true (both_or_neither x.ours.complete x.other.complete) (same_fields x.known x.ours.fields x.other.fields) x.fields in
            alike_at a b (struct_parts x.ours) (struct_parts x.other) (own x.ours a x.here) (own' x.other b x.there) (alike_bools x.ours.complete x.other.complete both.0)
            (equal_fields_alike pairing x.known a b (λ i j k _ _. equal_paired (length new.structs.list) structs i j (paired_before new.structs.list x.known structs.of_old x.before i j k))
            x.ours.fields x.other.fields both.1 (numbered.structs a x.ours x.here) (numbered'.structs b x.other x.there))

        old_pair : (a : ℕ) → a < length old.structs.list → StructsAlike pairing program.structs.list program'.structs.list a (length new.structs.list + a)
        old_pair a h =
            let x : Entry old.structs.list a = entry_at old.structs.list a h in
            alike_at a (length new.structs.list + a) (struct_parts x.entry) (struct_across (number_across view') (struct_parts x.entry)) (own x.entry a x.here) (behind' x.entry a x.here) refl
            (fields_there_alike pairing (number_across view') a a (length new.structs.list + a)
            (λ c low. let t = old_there c (let l : c < length old.structs.list = omega (arith, low, h) in l) in
            let bound : number_across view' c < length new.structs.list + suc c = t.1 in
            (t.0, low, (let l : number_across view' c < length new.structs.list + a = omega (arith, bound, low) in l)))
            (map field_parts x.entry.fields) (numbered.structs a x.entry x.here))

        new_pair : (b : ℕ) → b < length new.structs.list → StructsAlike pairing program.structs.list program'.structs.list (length old.structs.list + b) b
        new_pair b h =
            let x : Entry new.structs.list b = entry_at new.structs.list b h in
            alike_at (length old.structs.list + b) b (struct_across (number_across view) (struct_parts x.entry)) (struct_parts x.entry) (behind x.entry b x.here) (own' x.entry b x.here) refl
            (fields_here_alike pairing (number_across view) b (length old.structs.list + b) b
            (λ c low. let t = new_there c (let l : c < length new.structs.list = omega (arith, low, h) in l) in
            let bound : number_across view c < length old.structs.list + suc c = t.1 in
            (t.0, (let l : number_across view c < length old.structs.list + b = omega (arith, bound, low) in l), low))
            (map field_parts x.entry.fields) (numbered'.structs b x.entry x.here))

        by_pair : (a b : ℕ) → StructPair (length structs.of_old) (length new.structs.list) structs a b → StructsAlike pairing program.structs.list program'.structs.list a b
        by_pair a b (Equal h) = equal_pair a b h
        by_pair a b (OfOld h e) =
            let low : a < length structs.of_old = slice_get_within structs.of_old a None h in
            subst (λ n. StructsAlike pairing program.structs.list program'.structs.list a n) (sym e) (old_pair a (subst (λ n. a < n) all_old low))
        by_pair a b (OfNew h e) =
            let low : b < length structs.of_new = slice_get_within structs.of_new b None h in
            subst (λ n. StructsAlike pairing program.structs.list program'.structs.list n b) (sym (e ∙ ap (λ n. n + b) all_old)) (new_pair b (subst (λ n. b < n) all_new low))

        pub pairs_alike : (a b : ℕ) → ArePaired pairing.structs a b → StructsAlike pairing program.structs.list program'.structs.list a b
        pairs_alike a b h = by_pair a b (struct_pair (length new.structs.list) structs a b h)

        pub all_structs : length program.structs.list ≡ length old.structs.list + length new.structs.list
        all_structs =
            sym (length_map struct_parts program.structs.list) ∙ (ap length is_old ∙ (length_both (map struct_parts old.structs.list) (map (λ t. struct_across (number_across view) (struct_parts t)) new.structs.list)
            ∙ ap₂ (λ i j. i + j) (length_map struct_parts old.structs.list) (length_map (λ t. struct_across (number_across view) (struct_parts t)) new.structs.list)))

        pub all_structs' : length program'.structs.list ≡ length new.structs.list + length old.structs.list
        all_structs' =
            sym (length_map struct_parts program'.structs.list) ∙ (ap length is_new ∙ (length_both (map struct_parts new.structs.list) (map (λ t. struct_across (number_across view') (struct_parts t)) old.structs.list)
            ∙ ap₂ (λ i j. i + j) (length_map struct_parts new.structs.list) (length_map (λ t. struct_across (number_across view') (struct_parts t)) old.structs.list)))

      -- ---- equal structs in the two files

      abbrev pub in_files : Pairing
      in_files = record { functions = []; objects = []; structs = structs.of_old }

      file_pair : (a b : ℕ) → ArePaired structs.of_old a b → StructsAlike in_files old.structs.list new.structs.list a b
      file_pair a b h =
          let x = equal_at a b h in
          let both = both_true (both_or_neither x.ours.complete x.other.complete) (same_fields x.known x.ours.fields x.other.fields) x.fields in
          record {
            first = x.ours;
            second = x.other;
            here = x.here;
            there = x.there;
            complete = alike_bools x.ours.complete x.other.complete both.0;
            fields =
                equal_fields_alike in_files x.known a b (λ i j k _ _. paired_before new.structs.list x.known structs.of_old x.before i j k)
                x.ours.fields x.other.fields both.1 (numbered.structs a x.ours x.here) (numbered'.structs b x.other x.there);
          }

      cells_from : (p q : Option Plan) → Alike in_files p q → zero_cells p ≡ zero_cells q
      cells_from None None h = refl
      cells_from (Some p) (Some q) h = ap (map zero_cell) h.cells
      cells_from None (Some q) h = absurd h
      cells_from (Some p) None h = absurd h

      pub equal_cells : (a b : ℕ) → ArePaired structs.of_old a b → zero_cells (plan_of old.structs (C.Struct a)) ≡ zero_cells (plan_of new.structs (C.Struct b))
      equal_cells a b h =
          cells_from (plan_of old.structs (C.Struct a)) (plan_of new.structs (C.Struct b))
          (type_plans in_files old.structs new.structs file_pair (C.Struct a) (C.Struct b) (h, old_below a b h, new_below a b h))
