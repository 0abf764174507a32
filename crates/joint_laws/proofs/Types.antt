-- Types that are equal or that stand in the other program are alike.
use Rattle.std.proofs.Common.{◌≡◌, ℕ, zero, suc, ◌<◌, List, [], ◌∷◌, map, get_or, Bool, true, false, nat_eq, ◌&&◌, if◌then◌else◌, Option, Some, None, ⊎_elim, refl, sym, ap, ap₂, ◌∙◌, subst}
use Rattle.std.specs.Str.{bytes_eq}
use Rattle.std.proofs.lemmas.Bool.Decides.{eqb_tells}
use Rattle.rvt_num.specs.declared.kinds.Kind.{Kind}
use Rattle.rvt_num.specs.declared.kinds.Kind.TheVariants as k
use Rattle.rvt_num.specs.Kinds.{width, is_signed}
use Rattle.rvt_tree.specs.declared.pairings.Pairing.{Pairing}
use Rattle.rvt_tree.specs.Same.{ArePaired}
use Rattle.c_types.specs.Layout.{Shape, AWord, APointer, AnArray, AStruct, shape_of, same_kind, both_or_neither}
use Rattle.c_meaning.specs.Twins.{SameShape}
use Rattle.joint_objects.specs.StructTypes.{is_number, are_partners, same_type, same_field, same_fields}
use Rattle.joint_programs.specs.Parts.{field_parts}
use Rattle.joint_programs.specs.Structs.{shape_across, field_across}
use Rattle.joint_laws.specs.Premises.{HoldsBelow, HoldBelow}
use Rattle.joint_laws.proofs.Plans.{TypeAlike, FieldsAlike}
use Rattle.rvt_tree.specs.declared.types.CType.{CType}

-- ---- tests

pub both_true : (a b : Bool) → a && b ≡ true → (a ≡ true) × (b ≡ true)
both_true true b h = (refl, h)
both_true false b h = absurd (let no : false ≡ true = h in cc)

pub alike_bools : (a b : Bool) → both_or_neither a b ≡ true → a ≡ b
alike_bools true true h = refl
alike_bools true false h = absurd (let no : false ≡ true = h in cc)
alike_bools false true h = absurd (let no : false ≡ true = h in cc)
alike_bools false false h = refl

pub same_numbers : (a b : ℕ) → nat_eq a b ≡ true → a ≡ b
same_numbers a b h = ⊎_elim (λ (yes : (nat_eq a b ≡ true) × (a ≡ b)). yes.1) (λ (no : (nat_eq a b ≡ false) × (a ≡ b → ⊥)). absurd (let bad : false ≡ true = sym no.0 ∙ h in cc)) (eqb_tells a b)

-- a kind by its width and its sign
abbrev kind_at : ℕ → Bool → Kind
kind_at w signed =
    if nat_eq w 1 then k.Bool
    else if nat_eq w 8 then (if signed then k.I8 else k.U8)
    else if nat_eq w 16 then (if signed then k.I16 else k.U16)
    else if nat_eq w 32 then (if signed then k.I32 else k.U32)
    else if signed then k.I64 else k.U64

kind_again : (a : Kind) → kind_at (width a) (is_signed a) ≡ a
kind_again k.Bool = refl
kind_again k.I8 = refl
kind_again k.U8 = refl
kind_again k.I16 = refl
kind_again k.U16 = refl
kind_again k.I32 = refl
kind_again k.U32 = refl
kind_again k.I64 = refl
kind_again k.U64 = refl

pub one_kind : (a b : Kind) → same_kind a b ≡ true → a ≡ b
one_kind a b h =
    let both = both_true (nat_eq (width a) (width b)) (both_or_neither (is_signed a) (is_signed b)) h in
    sym (kind_again a) ∙ ap₂ kind_at (same_numbers (width a) (width b) both.0) (alike_bools (is_signed a) (is_signed b) both.1) ∙ kind_again b

-- ---- types that are equal

pub partner_there : (list : List (Option ℕ)) (a b : ℕ) → get_or list a None ≡ Some b → ArePaired list a b
partner_there [] a b h = absurd (let no : ◌≡◌ {A = Option ℕ} None (Some b) = h in cc)
partner_there (p ∷ list) zero b h = ap Some h
partner_there (p ∷ list) (suc a) b h = partner_there list a b h

number_is : (b : ℕ) (p : Option ℕ) → is_number b p ≡ true → p ≡ Some b
number_is b (Some n) h = ap Some (sym (same_numbers b n h))
number_is b None h = absurd (let no : false ≡ true = h in cc)

pub partners_paired : (list : List (Option ℕ)) (a b : ℕ) → are_partners list a b ≡ true → ArePaired list a b
partners_paired list a b h = partner_there list a b (number_is b (get_or list a None) h)

module _ (pairing : Pairing) (known : List (Option ℕ)) (n m : ℕ) (within : (a b : ℕ) → ArePaired known a b → a < n → b < m → ArePaired pairing.structs a b) where
  pub equal_alike : (x y : Shape) → same_type known x y ≡ true → HoldsBelow n x → HoldsBelow m y → TypeAlike pairing n m x y
  equal_alike (AWord a) (AWord b) e h k = one_kind a b e
  equal_alike (APointer a c) (APointer b c') e h k = tt
  equal_alike (AnArray a i) (AnArray b j) e h k =
      let both = both_true (same_type known a b) (nat_eq i j) e in
      (equal_alike a b both.0 h k, same_numbers i j both.1)
  equal_alike (AStruct a) (AStruct b) e h k = (within a b (partners_paired known a b e) h k, h, k)
  equal_alike (AWord a) _ e h k = absurd (let no : false ≡ true = e in cc)
  equal_alike (APointer a c) _ e h k = absurd (let no : false ≡ true = e in cc)
  equal_alike (AnArray a i) _ e h k = absurd (let no : false ≡ true = e in cc)
  equal_alike (AStruct a) _ e h k = absurd (let no : false ≡ true = e in cc)

  pub same_alike : (files : Pairing) → files.structs ≡ known → (x y : Shape) → SameShape files x y → HoldsBelow n x → HoldsBelow m y → TypeAlike pairing n m x y
  same_alike files is (AWord a) (AWord b) e h k = e
  same_alike files is (APointer a c) (APointer b c') e h k = tt
  same_alike files is (AnArray a i) (AnArray b j) e h k = (same_alike files is a b e.0 h k, e.1)
  same_alike files is (AStruct a) (AStruct b) e h k = (within a b (subst (λ list. ArePaired list a b) is e) h k, h, k)
  same_alike files is (AWord a) _ e h k = absurd e
  same_alike files is (APointer a c) _ e h k = absurd e
  same_alike files is (AnArray a i) _ e h k = absurd e
  same_alike files is (AStruct a) _ e h k = absurd e

  pub equal_fields_alike : (x y : List (List ℕ × CType)) → same_fields known x y ≡ true → HoldBelow n (map field_parts x) → HoldBelow m (map field_parts y) →
      FieldsAlike pairing n m (map field_parts x) (map field_parts y)
  equal_fields_alike [] [] e h k = tt
  equal_fields_alike (a ∷ x) (b ∷ y) e h k =
      let both = both_true (same_field known a b) (same_fields known x y) e in
      let here = both_true (bytes_eq a.0 b.0) (same_type known (shape_of a.1) (shape_of b.1)) both.0 in
      (equal_alike (shape_of a.1) (shape_of b.1) here.1 h.0 k.0, equal_fields_alike x y both.1 h.1 k.1)
  equal_fields_alike [] (b ∷ y) e h k = absurd (let no : false ≡ true = e in cc)
  equal_fields_alike (a ∷ x) [] e h k = absurd (let no : false ≡ true = e in cc)

-- ---- types of one file, in the other program

module _ (pairing : Pairing) (across : ℕ → ℕ) (own n m : ℕ) where
  -- from here to there
  pub there_alike : (there : (a : ℕ) → a < own → ArePaired pairing.structs a (across a) × (a < n) × (across a < m)) → (x : Shape) → HoldsBelow own x → TypeAlike pairing n m x (shape_across across x)
  there_alike there (AWord a) h = refl
  there_alike there (APointer a c) h = tt
  there_alike there (AnArray a i) h = (there_alike there a h, refl)
  there_alike there (AStruct a) h = there a h

  pub fields_there_alike : (there : (a : ℕ) → a < own → ArePaired pairing.structs a (across a) × (a < n) × (across a < m)) → (x : List (List ℕ × Shape)) → HoldBelow own x → FieldsAlike pairing n m x (map (field_across across) x)
  fields_there_alike there [] h = tt
  fields_there_alike there (f ∷ x) h = (there_alike there f.1 h.0, fields_there_alike there x h.1)

  -- from there to here
  pub here_alike : (here : (b : ℕ) → b < own → ArePaired pairing.structs (across b) b × (across b < n) × (b < m)) → (x : Shape) → HoldsBelow own x → TypeAlike pairing n m (shape_across across x) x
  here_alike here (AWord a) h = refl
  here_alike here (APointer a c) h = tt
  here_alike here (AnArray a i) h = (here_alike here a h, refl)
  here_alike here (AStruct a) h = here a h

  pub fields_here_alike : (here : (b : ℕ) → b < own → ArePaired pairing.structs (across b) b × (across b < n) × (b < m)) → (x : List (List ℕ × Shape)) → HoldBelow own x → FieldsAlike pairing n m (map (field_across across) x) x
  fields_here_alike here [] h = tt
  fields_here_alike here (f ∷ x) h = (here_alike here f.1 h.0, fields_here_alike here x h.1)
