-- One step of the walk: what the last frame is, and what it becomes.
use Rattle.std.proofs.Common.{◌≡◌, inl, inr, ◌≤◌, ◌<◌, ℕ, zero, suc, ◌-◌, List, [], ◌∷◌, ◌++◌, length, map, take, Option, Some, None, get_or, refl, ap, sym, ◌∙◌, subst, arith, length-set, length-take, true}
use Rattle.std.specs.Prelude.{slice_set, option_map, IfSome, IfNone}
use Rattle.std.proofs.lemmas.Option.{slice_get_read, slice_get-map}
use Rattle.std.proofs.lemmas.List.{length-map}
use Rattle.rvt_tree.specs.declared.types.CType.{CType}
use Rattle.rvt_tree.specs.declared.programs.StructDef.{StructDef}
use Rattle.rvt_tree.specs.declared.programs.Structs.{Structs}
use Rattle.c_layout.specs.declared.sizes.Mark.{Mark}
use Rattle.c_layout.specs.declared.sizes.Mark.TheVariants.{Open, Sized}
use Rattle.c_layout.specs.declared.sizes.Frame.{Frame}
use Rattle.c_layout.specs.declared.faults.TypeFault.{TypeFault}
use Rattle.c_layout.specs.Sizes.{At, Agrees, size_of_struct, sized_count, types_of, Needs, counted, numbers, struct_in, IsCounting, IsWalk, LastNeeds, LastIsCounted, SameFirst, IsHopeless, IsStuck, size_in_order, steps_left}
use Rattle.c_layout.proofs.Lists.{within, same_at, set_cases, take_at, push_cases}
use Rattle.c_layout.proofs.Needs.{field_needs}
use Rattle.c_layout.proofs.Walks.{counted_on, counted_size, left, closed_new}

pub read_at : {X : Type 0} (xs : List X) (k : ℕ) (x : X) → k < length xs → x ≡ get_or xs k x → At xs k x
read_at xs k x lt e = slice_get_read xs (length xs) k x refl lt e

pub at_map : {X Y : Type 0} (f : X → Y) (xs : List X) (k : ℕ) (x : X) → At xs k x → At (map f xs) k (f x)
at_map f xs k x h = slice_get-map f xs k ∙ ap (option_map f) h

pub from_map : {X Y : Type 0} (f : X → Y) (xs : List X) (k : ℕ) (y : Y) → At (map f xs) k y → (x : X) × At xs k x × (f x ≡ y)
from_map f [] k y h = absurd (cc)
from_map f (x ∷ xs) zero y h = (x, refl, cc)
from_map f (x ∷ xs) (suc k) y h = from_map f xs k y h

-- a frame has its like at the same place
pub like_at : (before after : List Frame) → numbers after ≡ numbers before → (k : ℕ) (frame : Frame) → At before k frame → (other : Frame) × At after k other × (other.number ≡ frame.number)
like_at before after same k frame h = from_map (λ f. f.number) after k frame.number (subst (λ ns. At ns k frame.number) (sym same) (at_map (λ f. f.number) before k frame h))

pub same_length : (before after : List Frame) → numbers after ≡ numbers before → length after ≡ length before
same_length before after same = sym (length-map after (λ f. f.number)) ∙ ap length same ∙ length-map before (λ f. f.number)

pub same_first : (before after : List Frame) → numbers after ≡ numbers before → SameFirst before after
same_first before after same frame h = let r = like_at after before (sym same) 0 frame h in (r.0, r.1, sym r.2)

set_numbers_are : (frames : List Frame) (k : ℕ) (before after : Frame) → At frames k before → after.number ≡ before.number → numbers (slice_set frames k after) ≡ numbers frames
set_numbers_are [] k before after h e = absurd (cc)
set_numbers_are (f ∷ frames) zero before after h e = let same : f ≡ before = cc in ap (λ n. n ∷ numbers frames) (e ∙ ap (λ (g : Frame). g.number) (sym same))
set_numbers_are (f ∷ frames) (suc k) before after h e = ap (λ ns. f.number ∷ ns) (set_numbers_are frames k before after h e)

-- ---- fields of the last struct are counted

module _ (structs : Structs) (marks : List Mark) (frames : List Frame) (w : IsWalk structs marks frames) (size : ℕ) (is_size : size ≡ length frames) (some : 0 < length frames)
    (before : Frame) (read : before ≡ get_or frames (size - 1) before) where
  pub is_last : At frames (size - 1) before
  is_last = read_at frames (size - 1) before (omega (arith, is_size, some)) read

  pub last_counts : IsCounting structs marks before
  last_counts = w.counting (size - 1) before is_last

  pub last_within : (list : List StructDef) → list ≡ structs.list → before.number < length list
  last_within list same = subst (λ l. before.number < length l) (sym same) (within structs.list before.number last_counts.definition last_counts.there)

  module _ (list : List StructDef) (same_list : list ≡ structs.list) (definition : StructDef) (read_definition : definition ≡ get_or list before.number definition)
      (fields : List (List ℕ × CType)) (same_fields : fields ≡ definition.fields)
      (seen : List Mark) (same_marks : seen ≡ marks)
      (after : Frame) (same : after.number ≡ before.number) (few : after.size ≤ 4097)
      (counts : (known : ℕ → Option ℕ) → Agrees seen known → counted known after (types_of fields) ≡ counted known before (types_of fields)) where
    definition_there : At structs.list before.number definition
    definition_there = subst (λ l. At l before.number definition) same_list (read_at list before.number definition (last_within list same_list) read_definition)

    is_definition : last_counts.definition ≡ definition
    is_definition = same_at structs.list before.number last_counts.definition definition last_counts.there definition_there

    counts_after : (depth : ℕ) → sized_count marks ≤ depth →
        counted (size_of_struct structs depth) after (types_of definition.fields) ≡ size_in_order (size_of_struct structs depth) (types_of definition.fields)
    counts_after depth le =
        let agrees : Agrees seen (size_of_struct structs depth) = subst (λ ms. Agrees ms (size_of_struct structs depth)) (sym same_marks) (w.sized depth le) in
        subst (λ fs. counted (size_of_struct structs depth) after (types_of fs) ≡ counted (size_of_struct structs depth) before (types_of fs)) same_fields (counts (size_of_struct structs depth) agrees)
        ∙ subst (λ (d : StructDef). counted (size_of_struct structs depth) before (types_of d.fields) ≡ size_in_order (size_of_struct structs depth) (types_of d.fields)) is_definition (last_counts.counts depth le)

    abbrev after_counts : IsCounting structs marks after
    after_counts = record {
      definition = definition;
      there = subst (λ n. At structs.list n definition) (sym same) definition_there;
      complete = subst (λ (d : StructDef). d.complete ≡ true) is_definition last_counts.complete;
      few = few;
      counts = counts_after;
    }

    pub walk_after : IsWalk structs marks (slice_set frames (size - 1) after)
    walk_after = counted_on structs marks frames w (size - 1) before after is_last same after_counts

    pub numbers_after : numbers (slice_set frames (size - 1) after) ≡ numbers frames
    numbers_after = set_numbers_are frames (size - 1) before after is_last same

    -- the last frame is the one that has counted
    last_is : (place : ℕ) (frame : Frame) → At (slice_set frames (size - 1) after) place frame → suc place ≡ length (slice_set frames (size - 1) after) → frame ≡ after
    last_is place frame h e = elim (set_cases frames (size - 1) after place frame h) [
      | inl a ↦ a.1
      | inr a ↦ absurd (a.0 (let l = length-set frames (size - 1) after in omega (arith, e, l, is_size, some)))
    ]

    pub needed_after : (number : ℕ) → (place : ℕ) × (ty : CType) × At (types_of fields) place ty × (struct_in ty ≡ Some number) → LastNeeds structs (slice_set frames (size - 1) after) number
    needed_after number wants place frame h e =
        let needs : Needs structs before.number number = field_needs structs before.number number definition wants.0 wants.1 definition_there (subst (λ fs. At (types_of fs) wants.0 wants.1) same_fields wants.2) wants.3 in
        subst (λ n. Needs structs n number) (sym same ∙ ap (λ (f : Frame). f.number) (sym (last_is place frame h e))) needs

    pub counted_after : length fields ≤ after.next → LastIsCounted structs marks (slice_set frames (size - 1) after)
    counted_after all place frame h e depth le =
        subst (λ (f : Frame). size_of_struct structs (suc depth) f.number ≡ Some f.size) (sym (last_is place frame h e))
        (counted_size structs marks after after_counts (subst (λ (fs : List (List ℕ × CType)). length fs ≤ after.next) same_fields all) depth le)

pub if_some : {T : Type 0} (P Q : T → Type 0) → ((x : T) → P x → Q x) → (o : Option T) → IfSome o P → IfSome o Q
if_some P Q f None h = h
if_some P Q f (Some x) h = f x h

pub if_none : {T : Type 0} (P Q : Type 0) → (P → Q) → (o : Option T) → IfNone o P → IfNone o Q
if_none P Q f None h = f h
if_none P Q f (Some x) h = h

-- ---- a step ends

module _ (structs : Structs) (marks : List Mark) (frames : List Frame) (w : IsWalk structs marks frames) (size : ℕ) (is_size : size ≡ length frames) (some : 0 < length frames)
    (frame : Frame) (read : frame ≡ get_or frames (size - 1) frame) (is_counted : LastIsCounted structs marks frames) where
  ended_at : At frames (size - 1) frame
  ended_at = read_at frames (size - 1) frame (omega (arith, is_size, some)) read

  ended_last : suc (size - 1) ≡ length frames
  ended_last = omega (arith, is_size, some)

  pub ended : IsWalk structs (slice_set marks frame.number (Sized frame.size)) (take (size - 1) frames)
  ended = left structs marks frames w (size - 1) frame ended_at ended_last frame.size (is_counted (size - 1) frame ended_at ended_last)

  pub ended_within : frame.number < length marks
  ended_within = within marks frame.number Open (w.is_open (size - 1) frame ended_at)

  pub ended_less : steps_left (slice_set marks frame.number (Sized frame.size)) (take (size - 1) frames) < steps_left marks frames
  ended_less =
      let n = closed_new marks frame.number frame.size (w.is_open (size - 1) frame ended_at) in
      let l = length-take (size - 1) frames in
      omega (arith, n, l, is_size, some)

pub pushed_first : (before frames after : List Frame) (frame : Frame) → 0 < length before → numbers frames ≡ numbers before → after ≡ frames ++ frame ∷ [] → SameFirst before after
pushed_first before frames after frame some same is f h =
    let l = same_length before frames same in
    elim (push_cases frames frame 0 f (subst (λ fs. At fs 0 f) is h)) [
      | inl a ↦ same_first before frames same f a
      | inr e ↦ absurd (omega (arith, e.0, l, some))
    ]

pub taken_first : (before frames after : List Frame) (n : ℕ) → numbers frames ≡ numbers before → after ≡ take n frames → SameFirst before after
taken_first before frames after n same is f h = same_first before frames same f (take_at n frames 0 f (subst (λ fs. At fs 0 f) is h)).1

-- what is right for the structs of the frames is right for those of like frames
pub stuck_like : (structs : Structs) (before after : List Frame) → numbers after ≡ numbers before → (fault : TypeFault) → IsStuck structs after fault → IsStuck structs before fault
stuck_like structs before after same fault h place frame there =
    let r = like_at before after same place frame there in
    subst (λ n. IsHopeless structs n fault) r.2 (h place r.0 r.1)
