-- A walk through the structs: what entering a struct, counting its fields and leaving it keep.
use Rattle.std.proofs.Common.{◌≡◌, ◌⊎◌, inl, inr, ◌≤◌, ◌<◌, ℕ, zero, suc, ◌+◌, List, [], ◌∷◌, ◌++◌, length, drop, take, true, Option, Some, None, refl, ap, sym, ◌∙◌, subst, arith, length-set}
use Rattle.std.proofs.lemmas.List.{length-map}
use Rattle.std.proofs.lemmas.Option.{slice_get_read, slice_get-map}
use Rattle.std.proofs.Common.{get_or}
use Rattle.std.specs.Prelude.{option_map, option_and_then, slice_set}
use Rattle.rvt_tree.specs.declared.types.CType.{CType}
use Rattle.rvt_tree.specs.declared.programs.StructDef.{StructDef}
use Rattle.rvt_tree.specs.declared.programs.Structs.{Structs}
use Rattle.c_layout.specs.declared.sizes.Mark.{Mark}
use Rattle.c_layout.specs.declared.sizes.Mark.TheVariants.{New, Open, Sized}
use Rattle.c_layout.specs.declared.sizes.Frame.{Frame}
use Rattle.c_layout.specs.declared.faults.TypeFault.{TypeFault}
use Rattle.c_layout.specs.declared.faults.TypeFault.TheVariants.{Incomplete, TooManyCells, Memory}
use Rattle.c_layout.specs.Sizes.{At, Agrees, limited, size_with, size_in_order, size_of_struct, sized_count, new_count, types_of, Needs, IsCounting, IsWalk, LastNeeds, NewWasNew, IsHopeless, IsStuck}
use Rattle.c_layout.proofs.Lists.{within, same_at, exists_at, append_keeps, push_new, push_cases, take_at, take_keeps, set_new, set_keeps, set_cases, set_either}
use Rattle.c_layout.proofs.Needs.{complete_size}

first_same : {X : Type 0} (x y : X) → Some x ≡ Some y → y ≡ x
first_same x y h = cc

below_or_at : (a b : ℕ) → a < suc b → (a < b) ⊎ (a ≡ b)
below_or_at zero zero h = inr refl
below_or_at zero (suc b) h = inl (omega arith)
below_or_at (suc a) zero h = absurd (omega (arith, h))
below_or_at (suc a) (suc b) h = elim (below_or_at a b (omega (arith, h))) [ inl l ↦ inl (omega (arith, l)) | inr e ↦ inr (ap suc e) ]

-- ---- marks

pub read_mark : (xs marks : List Mark) (k : ℕ) (x y : Mark) → k < length xs → ((d : Mark) → x ≡ get_or xs k d) → xs ≡ marks → x ≡ y → At marks k y
read_mark xs marks k x y lt h same e =
    subst (λ ms. At ms k y) same (subst (λ m. At xs k m) e (slice_get_read xs (length xs) k x refl lt (h x)))

pub opened_sized : (marks : List Mark) (k : ℕ) → At marks k New → sized_count (slice_set marks k Open) ≡ sized_count marks
opened_sized [] k h = absurd (cc)
opened_sized (New ∷ marks) zero h = refl
opened_sized (Open ∷ marks) zero h = absurd (cc)
opened_sized (Sized n ∷ marks) zero h = absurd (cc)
opened_sized (New ∷ marks) (suc k) h = opened_sized marks k h
opened_sized (Open ∷ marks) (suc k) h = opened_sized marks k h
opened_sized (Sized n ∷ marks) (suc k) h = ap suc (opened_sized marks k h)

pub opened_new : (marks : List Mark) (k : ℕ) → At marks k New → suc (new_count (slice_set marks k Open)) ≡ new_count marks
opened_new [] k h = absurd (cc)
opened_new (New ∷ marks) zero h = refl
opened_new (Open ∷ marks) zero h = absurd (cc)
opened_new (Sized n ∷ marks) zero h = absurd (cc)
opened_new (New ∷ marks) (suc k) h = ap suc (opened_new marks k h)
opened_new (Open ∷ marks) (suc k) h = opened_new marks k h
opened_new (Sized n ∷ marks) (suc k) h = opened_new marks k h

pub closed_sized : (marks : List Mark) (k size : ℕ) → At marks k Open → sized_count (slice_set marks k (Sized size)) ≡ suc (sized_count marks)
closed_sized [] k size h = absurd (cc)
closed_sized (New ∷ marks) zero size h = absurd (cc)
closed_sized (Open ∷ marks) zero size h = refl
closed_sized (Sized n ∷ marks) zero size h = absurd (cc)
closed_sized (New ∷ marks) (suc k) size h = closed_sized marks k size h
closed_sized (Open ∷ marks) (suc k) size h = closed_sized marks k size h
closed_sized (Sized n ∷ marks) (suc k) size h = ap suc (closed_sized marks k size h)

pub closed_new : (marks : List Mark) (k size : ℕ) → At marks k Open → new_count (slice_set marks k (Sized size)) ≡ new_count marks
closed_new [] k size h = absurd (cc)
closed_new (New ∷ marks) zero size h = absurd (cc)
closed_new (Open ∷ marks) zero size h = refl
closed_new (Sized n ∷ marks) zero size h = absurd (cc)
closed_new (New ∷ marks) (suc k) size h = ap suc (closed_new marks k size h)
closed_new (Open ∷ marks) (suc k) size h = closed_new marks k size h
closed_new (Sized n ∷ marks) (suc k) size h = closed_new marks k size h

pub few_sized : (marks : List Mark) → sized_count marks ≤ length marks
few_sized [] = omega arith
few_sized (New ∷ marks) = let r = few_sized marks in omega (arith, r)
few_sized (Open ∷ marks) = let r = few_sized marks in omega (arith, r)
few_sized (Sized n ∷ marks) = let r = few_sized marks in omega (arith, r)

new_or_not : New ≡ Open → ⊥
new_or_not h = cc

not_new : (size : ℕ) → New ≡ Sized size → ⊥
not_new size h = cc

not_sized : (size : ℕ) → Open ≡ Sized size → ⊥
not_sized size h = cc

same_size : (a b : ℕ) → Sized a ≡ Sized b → a ≡ b
same_size a b h = cc

-- ---- fields that are counted

small_joined : (a b : Option ℕ) →
    option_map (λ rest. limited (0 + rest)) (option_and_then (λ first. option_map (λ rest. limited (first + rest)) b) a)
    ≡ option_and_then (λ first. option_map (λ rest. limited (first + rest)) b) a
small_joined None b = refl
small_joined (Some x) None = refl
small_joined (Some x) (Some y) = let e : limited (0 + limited (x + y)) ≡ limited (x + y) = omega arith in ap Some e

-- nothing is counted at first
none_counted : (known : ℕ → Option ℕ) (types : List CType) → option_map (λ rest. limited (0 + rest)) (size_in_order known types) ≡ size_in_order known types
none_counted known [] = refl
none_counted known (ty ∷ types) = small_joined (size_with known ty) (size_in_order known types)

added : (a b : ℕ) (o : Option ℕ) → option_map (λ rest. limited (limited (a + b) + rest)) o ≡ option_map (λ rest. limited (a + rest)) (option_map (λ rest. limited (b + rest)) o)
added a b None = refl
added a b (Some r) = let e : limited (limited (a + b) + r) ≡ limited (a + limited (b + r)) = omega arith in ap Some e

-- one field more is counted
pub counted_more : (known : ℕ → Option ℕ) (a b i : ℕ) (types : List CType) (ty : CType) → At types i ty → size_with known ty ≡ Some b →
    option_map (λ rest. limited (limited (a + b) + rest)) (size_in_order known (drop (suc i) types)) ≡ option_map (λ rest. limited (a + rest)) (size_in_order known (drop i types))
counted_more known a b i [] ty h e = absurd (cc)
counted_more known a b zero (first ∷ types) ty h e =
    let same : size_with known first ≡ Some b = ap (size_with known) (sym (first_same first ty h)) ∙ e in
    added a b (size_in_order known types)
    ∙ ap (λ o. option_map (λ rest. limited (a + rest)) (option_and_then (λ x. option_map (λ rest. limited (x + rest)) (size_in_order known types)) o)) (sym same)
counted_more known a b (suc i) (first ∷ types) ty h e = counted_more known a b i types ty h e

pub counted_next : (known : ℕ → Option ℕ) (a b i : ℕ) (types : List CType) (ty : CType) → At types i ty → size_with known ty ≡ Some b →
    option_map (λ rest. limited (limited (a + b) + rest)) (size_in_order known (drop (i + 1) types)) ≡ option_map (λ rest. limited (a + rest)) (size_in_order known (drop i types))
counted_next known a b i types ty h e =
    let next : i + 1 ≡ suc i = omega arith in
    ap (λ n. option_map (λ rest. limited (limited (a + b) + rest)) (size_in_order known (drop n types))) next ∙ counted_more known a b i types ty h e

pub type_read : (fields : List (List ℕ × CType)) (k : ℕ) (field : List ℕ × CType) → k < length fields → field ≡ get_or fields k field → At (types_of fields) k field.1
type_read fields k field lt e = slice_get-map (λ f. f.1) fields k ∙ ap (option_map (λ f. f.1)) (slice_get_read fields (length fields) k field refl lt e)

counted_out : (a : ℕ) → a ≤ 4097 → limited (a + 0) ≡ a
counted_out a le = omega arith

-- all fields are counted
pub counted_all : (known : ℕ → Option ℕ) (a i : ℕ) (types : List CType) → length types ≤ i → a ≤ 4097 →
    option_map (λ rest. limited (a + rest)) (size_in_order known (drop i types)) ≡ Some a
counted_all known a zero [] le few = ap Some (counted_out a few)
counted_all known a (suc i) [] le few = ap Some (counted_out a few)
counted_all known a zero (ty ∷ types) le few = absurd (omega arith)
counted_all known a (suc i) (ty ∷ types) le few = counted_all known a i types (omega (arith, le)) few

-- ---- a struct is entered

module _ (structs : Structs) (marks : List Mark) (frames : List Frame) (w : IsWalk structs marks frames) (number : ℕ) (new : At marks number New) where
  abbrev first_frame : Frame
  first_frame = record { number = number; next = 0; size = 0 }

  opened_at : (k : ℕ) → At marks k Open → At (slice_set marks number Open) k Open
  opened_at k h = set_keeps marks number Open k Open (λ e. new_or_not (same_at marks number New Open new (subst (λ n. At marks n Open) e h))) h

  -- a struct with an open mark isn't this one
  apart : (frame : Frame) (place : ℕ) → At frames place frame → frame.number ≡ number → ⊥
  apart frame place h e = new_or_not (same_at marks number New Open new (subst (λ n. At marks n Open) e (w.is_open place frame h)))

  entered_open : (place : ℕ) (frame : Frame) → At (frames ++ first_frame ∷ []) place frame → At (slice_set marks number Open) frame.number Open
  entered_open place frame h = elim (push_cases frames first_frame place frame h) [
    | inl a ↦ opened_at frame.number (w.is_open place frame a)
    | inr e ↦ subst (λ (f : Frame). At (slice_set marks number Open) f.number Open) (sym e.1) (set_new marks number Open New new)
  ]

  entered_framed : (n : ℕ) → At (slice_set marks number Open) n Open → (place : ℕ) × (frame : Frame) × At (frames ++ first_frame ∷ []) place frame × (frame.number ≡ n)
  entered_framed n h = elim (set_cases marks number Open n Open h) [
    | inl e ↦ (length frames, first_frame, push_new frames first_frame, sym e.0)
    | inr a ↦ let r = w.framed n a.1 in (r.0, r.1, append_keeps frames (first_frame ∷ []) r.0 r.1 r.2, r.3)
  ]

  entered_once : (i j : ℕ) (f g : Frame) → At (frames ++ first_frame ∷ []) i f → At (frames ++ first_frame ∷ []) j g → f.number ≡ g.number → i ≡ j
  entered_once i j f g hf hg e = elim (push_cases frames first_frame i f hf) [
    | inl a ↦ elim (push_cases frames first_frame j g hg) [
      | inl b ↦ w.once i j f g a b e
      | inr b ↦ absurd (apart f i a (e ∙ ap (λ (x : Frame). x.number) b.1))
    ]
    | inr a ↦ elim (push_cases frames first_frame j g hg) [
      | inl b ↦ absurd (apart g j b (sym e ∙ ap (λ (x : Frame). x.number) a.1))
      | inr b ↦ a.0 ∙ sym b.0
    ]
  ]

  entered_sized : (depth : ℕ) → sized_count (slice_set marks number Open) ≤ depth → Agrees (slice_set marks number Open) (size_of_struct structs depth)
  entered_sized depth le n size h = elim (set_cases marks number Open n (Sized size) h) [
    | inl e ↦ absurd (not_sized size (sym e.1))
    | inr a ↦ w.sized depth (subst (λ m. m ≤ depth) (opened_sized marks number new) le) n size a.1
  ]

  entered_counting : (definition : StructDef) → At structs.list number definition → definition.complete ≡ true →
      (place : ℕ) (frame : Frame) → At (frames ++ first_frame ∷ []) place frame → IsCounting structs (slice_set marks number Open) frame
  entered_counting definition there complete place frame h = elim (push_cases frames first_frame place frame h) [
    | inl a ↦ let c = w.counting place frame a in record {
      definition = c.definition;
      there = c.there;
      complete = c.complete;
      few = c.few;
      counts = λ depth le. c.counts depth (subst (λ m. m ≤ depth) (opened_sized marks number new) le);
    }
    | inr e ↦ subst (IsCounting structs (slice_set marks number Open)) (sym e.1) (record {
      definition = definition;
      there = there;
      complete = complete;
      few = omega arith;
      counts = λ depth le. none_counted (size_of_struct structs depth) (types_of definition.fields);
    })
  ]

  entered_nested : LastNeeds structs frames number → (place : ℕ) (outer inner : Frame) → At (frames ++ first_frame ∷ []) place outer → At (frames ++ first_frame ∷ []) (suc place) inner → Needs structs outer.number inner.number
  entered_nested last place outer inner ho hi = elim (push_cases frames first_frame (suc place) inner hi) [
    | inl b ↦ elim (push_cases frames first_frame place outer ho) [
      | inl a ↦ w.nested place outer inner a b
      | inr e ↦ absurd (let l = within frames (suc place) inner b in omega (arith, l, e.0))
    ]
    | inr b ↦ elim (push_cases frames first_frame place outer ho) [
      | inl a ↦ subst (λ (f : Frame). Needs structs outer.number f.number) (sym b.1) (last place outer a b.0)
      | inr e ↦ absurd (omega (arith, e.0, b.0))
    ]
  ]

  pub entered : (definition : StructDef) → At structs.list number definition → definition.complete ≡ true → LastNeeds structs frames number →
      IsWalk structs (slice_set marks number Open) (frames ++ first_frame ∷ [])
  entered definition there complete last = record {
    all = length-set marks number Open ∙ w.all;
    sized = entered_sized;
    is_open = entered_open;
    framed = entered_framed;
    once = entered_once;
    counting = entered_counting definition there complete;
    nested = entered_nested last;
  }

  pub entered_seen : NewWasNew marks (slice_set marks number Open)
  entered_seen n h = elim (set_cases marks number Open n New h) [
    | inl e ↦ absurd (new_or_not e.1)
    | inr a ↦ a.1
  ]

-- ---- fields are counted

module _ (structs : Structs) (marks : List Mark) (frames : List Frame) (w : IsWalk structs marks frames) (place : ℕ) (before after : Frame) (there : At frames place before) (same : after.number ≡ before.number) where
  old_at : (k : ℕ) (frame : Frame) → At (slice_set frames place after) k frame → (old : Frame) × At frames k old × (frame.number ≡ old.number)
  old_at k frame h = elim (set_cases frames place after k frame h) [
    | inl e ↦ (before, subst (λ n. At frames n before) (sym e.0) there, ap (λ (f : Frame). f.number) e.1 ∙ same)
    | inr a ↦ (frame, a.1, refl)
  ]

  counted_open : (k : ℕ) (frame : Frame) → At (slice_set frames place after) k frame → At marks frame.number Open
  counted_open k frame h = let o = old_at k frame h in subst (λ n. At marks n Open) (sym o.2) (w.is_open k o.0 o.1)

  counted_framed : (n : ℕ) → At marks n Open → (k : ℕ) × (frame : Frame) × At (slice_set frames place after) k frame × (frame.number ≡ n)
  counted_framed n h = let r = w.framed n h in elim (set_either frames place after r.0 r.1 r.2) [
    | inl a ↦ (r.0, r.1, a, r.3)
    | inr e ↦ (place, after, set_new frames place after before there, same ∙ ap (λ (f : Frame). f.number) (same_at frames place before r.1 there (subst (λ k. At frames k r.1) e r.2)) ∙ r.3)
  ]

  counted_once : (i j : ℕ) (f g : Frame) → At (slice_set frames place after) i f → At (slice_set frames place after) j g → f.number ≡ g.number → i ≡ j
  counted_once i j f g hf hg e = let a = old_at i f hf in let b = old_at j g hg in w.once i j a.0 b.0 a.1 b.1 (sym a.2 ∙ e ∙ b.2)

  counted_counting : IsCounting structs marks after → (k : ℕ) (frame : Frame) → At (slice_set frames place after) k frame → IsCounting structs marks frame
  counted_counting c k frame h = elim (set_cases frames place after k frame h) [
    | inl e ↦ subst (IsCounting structs marks) (sym e.1) c
    | inr a ↦ w.counting k frame a.1
  ]

  counted_nested : (k : ℕ) (outer inner : Frame) → At (slice_set frames place after) k outer → At (slice_set frames place after) (suc k) inner → Needs structs outer.number inner.number
  counted_nested k outer inner ho hi =
      let a = old_at k outer ho in
      let b = old_at (suc k) inner hi in
      subst (λ n. Needs structs n inner.number) (sym a.2) (subst (λ n. Needs structs a.0.number n) (sym b.2) (w.nested k a.0 b.0 a.1 b.1))

  pub counted_on : IsCounting structs marks after → IsWalk structs marks (slice_set frames place after)
  counted_on c = record {
    all = w.all;
    sized = w.sized;
    is_open = counted_open;
    framed = counted_framed;
    once = counted_once;
    counting = counted_counting c;
    nested = counted_nested;
  }

-- ---- a struct is left

module _ (structs : Structs) (marks : List Mark) (frames : List Frame) (w : IsWalk structs marks frames) (place : ℕ) (frame : Frame) (there : At frames place frame) (last : suc place ≡ length frames)
    (size : ℕ) (is_size : (depth : ℕ) → sized_count marks ≤ depth → size_of_struct structs (suc depth) frame.number ≡ Some size) where
  closed : sized_count (slice_set marks frame.number (Sized size)) ≡ suc (sized_count marks)
  closed = closed_sized marks frame.number size (w.is_open place frame there)

  size_at : (depth : ℕ) → suc (sized_count marks) ≤ depth → size_of_struct structs depth frame.number ≡ Some size
  size_at zero le = absurd (omega (arith, le))
  size_at (suc depth) le = is_size depth (omega (arith, le))

  left_sized : (depth : ℕ) → sized_count (slice_set marks frame.number (Sized size)) ≤ depth → Agrees (slice_set marks frame.number (Sized size)) (size_of_struct structs depth)
  left_sized depth le n a h = elim (set_cases marks frame.number (Sized size) n (Sized a) h) [
    | inl e ↦ subst (λ k. size_of_struct structs depth k ≡ Some a) (sym e.0) (subst (λ b. size_of_struct structs depth frame.number ≡ Some b) (sym (same_size a size e.1)) (size_at depth (subst (λ m. m ≤ depth) closed le)))
    | inr b ↦ w.sized depth (omega (arith, le, closed)) n a b.1
  ]

  left_open : (k : ℕ) (f : Frame) → At (take place frames) k f → At (slice_set marks frame.number (Sized size)) f.number Open
  left_open k f h =
      let t = take_at place frames k f h in
      set_keeps marks frame.number (Sized size) f.number Open (λ e. let same = w.once k place f frame t.1 there e in omega (arith, same, t.0)) (w.is_open k f t.1)

  left_framed : (n : ℕ) → At (slice_set marks frame.number (Sized size)) n Open → (k : ℕ) × (f : Frame) × At (take place frames) k f × (f.number ≡ n)
  left_framed n h = elim (set_cases marks frame.number (Sized size) n Open h) [
    | inl e ↦ absurd (not_sized size e.1)
    | inr a ↦ let r = w.framed n a.1 in
        elim (below_or_at r.0 place (let l = within frames r.0 r.1 r.2 in omega (arith, l, last))) [
          | inl lt ↦ (r.0, r.1, take_keeps place frames r.0 r.1 lt r.2, r.3)
          | inr e ↦ absurd (a.0 (sym r.3 ∙ ap (λ (f : Frame). f.number) (same_at frames place r.1 frame (subst (λ k. At frames k r.1) e r.2) there)))
        ]
  ]

  left_once : (i j : ℕ) (f g : Frame) → At (take place frames) i f → At (take place frames) j g → f.number ≡ g.number → i ≡ j
  left_once i j f g hf hg e = w.once i j f g (take_at place frames i f hf).1 (take_at place frames j g hg).1 e

  left_counting : (k : ℕ) (f : Frame) → At (take place frames) k f → IsCounting structs (slice_set marks frame.number (Sized size)) f
  left_counting k f h = let c = w.counting k f (take_at place frames k f h).1 in record {
    definition = c.definition;
    there = c.there;
    complete = c.complete;
    few = c.few;
    counts = λ depth le. c.counts depth (omega (arith, le, closed));
  }

  left_nested : (k : ℕ) (outer inner : Frame) → At (take place frames) k outer → At (take place frames) (suc k) inner → Needs structs outer.number inner.number
  left_nested k outer inner ho hi = w.nested k outer inner (take_at place frames k outer ho).1 (take_at place frames (suc k) inner hi).1

  pub left : IsWalk structs (slice_set marks frame.number (Sized size)) (take place frames)
  left = record {
    all = length-set marks frame.number (Sized size) ∙ w.all;
    sized = left_sized;
    is_open = left_open;
    framed = left_framed;
    once = left_once;
    counting = left_counting;
    nested = left_nested;
  }

pub left_seen : (marks : List Mark) (k size : ℕ) → NewWasNew marks (slice_set marks k (Sized size))
left_seen marks k size n h = elim (set_cases marks k (Sized size) n New h) [
  | inl e ↦ absurd (not_new size e.1)
  | inr a ↦ a.1
]

-- a struct that is being counted has the size that was counted, once all its fields are
pub counted_size : (structs : Structs) (marks : List Mark) (frame : Frame) (c : IsCounting structs marks frame) → length c.definition.fields ≤ frame.next →
    (depth : ℕ) → sized_count marks ≤ depth → size_of_struct structs (suc depth) frame.number ≡ Some frame.size
counted_size structs marks frame c le depth few =
    complete_size structs frame.number c.definition c.there c.complete depth
    ∙ sym (c.counts depth few)
    ∙ counted_all (size_of_struct structs depth) frame.size frame.next (types_of c.definition.fields) (let s = length-map c.definition.fields (λ field. field.1) in omega (arith, s, le)) c.few

-- ---- a struct that has no size

module _ (structs : Structs) (marks : List Mark) (frames : List Frame) (w : IsWalk structs marks frames) (number : ℕ) (last : LastNeeds structs frames number)
    (why : ((depth : ℕ) → size_of_struct structs depth number ≡ None) ⊎ At marks number Open) where
  none_inner : (depth : ℕ) → ((place : ℕ) (frame : Frame) → At frames place frame → size_of_struct structs depth frame.number ≡ None) → size_of_struct structs depth number ≡ None
  none_inner depth all = elim why [
    | inl f ↦ f depth
    | inr o ↦ let r = w.framed number o in subst (λ n. size_of_struct structs depth n ≡ None) r.3 (all r.0 r.1 r.2)
  ]

  none_step : (depth : ℕ) → ((place : ℕ) (frame : Frame) → At frames place frame → size_of_struct structs depth frame.number ≡ None) →
      (place : ℕ) (frame : Frame) → At frames place frame → size_of_struct structs (suc depth) frame.number ≡ None
  none_step depth all place frame h = elim (below_or_at (suc place) (length frames) (let l = within frames place frame h in omega (arith, l))) [
    | inl lt ↦ let r = exists_at frames (suc place) lt in w.nested place frame r.0 h r.1 depth (all (suc place) r.0 r.1)
    | inr e ↦ last place frame h e depth (none_inner depth all)
  ]

  pub none_of_frames : (depth place : ℕ) (frame : Frame) → At frames place frame → size_of_struct structs depth frame.number ≡ None
  none_of_frames zero place frame h = refl
  none_of_frames (suc depth) place frame h = none_step depth (none_of_frames depth) place frame h

  pub none_itself : (depth : ℕ) → size_of_struct structs depth number ≡ None
  none_itself depth = none_inner depth (none_of_frames depth)

pub stuck : (structs : Structs) (marks : List Mark) (frames : List Frame) → IsWalk structs marks frames → (number : ℕ) → LastNeeds structs frames number →
    (fault : TypeFault) → IsHopeless structs number fault → IsStuck structs frames fault
stuck structs marks frames w number last Incomplete h place frame there = λ depth. none_of_frames structs marks frames w number last (inl h) depth place frame there
stuck structs marks frames w number last TooManyCells h place frame there = absurd h
stuck structs marks frames w number last Memory h place frame there = h
