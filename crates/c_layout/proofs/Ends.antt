-- Where the walk begins and ends, and what it tells of the type.
use Rattle.std.proofs.Common.{◌≡◌, ◌<◌, ℕ, zero, suc, List, [], ◌∷◌, ◌++◌, length, replicate, Option, Some, Result, Ok, Err, refl, ap, sym, ◌∙◌, subst, arith}
use Rattle.std.specs.Prelude.{option_map, IsErrAnd, IfErr}
use Rattle.rvt_tree.specs.declared.types.CType.{CType}
use Rattle.rvt_tree.specs.declared.programs.Structs.{Structs}
use Rattle.c_types.specs.Layout.{plan_of}
use Rattle.c_layout.specs.declared.sizes.Mark.{Mark}
use Rattle.c_layout.specs.declared.sizes.Mark.TheVariants.{New, Open, Sized}
use Rattle.c_layout.specs.declared.sizes.Frame.{Frame}
use Rattle.c_layout.specs.declared.faults.TypeFault.{TypeFault}
use Rattle.c_layout.specs.declared.faults.TypeFault.TheVariants.{Incomplete, TooManyCells, Memory}
use Rattle.c_layout.specs.Causes.{IsRefusal}
use Rattle.c_layout.specs.Sizes.{At, Agrees, size_with, size_of_struct, size_of_plan, struct_in, IsWalk, IsHopeless, IsStuck}
use Rattle.c_layout.proofs.Lists.{within, exists_at, same_at}
use Rattle.c_layout.proofs.Measures.{type_size, no_plan}
use Rattle.c_layout.proofs.Needs.{type_needs}
use Rattle.c_layout.proofs.Walks.{few_sized}

pub err_from : {T E : Type 0} (r : Result T E) (x : E) (P : E → Type 0) → IsErrAnd r (λ e. e ≡ x) → P x → IfErr r P
err_from (Ok y) x P h p = absurd h
err_from (Err e) x P h p = subst P (sym h) p

all_new : (n k : ℕ) (mark : Mark) → At (replicate n New) k mark → mark ≡ New
all_new zero k mark h = absurd (cc)
all_new (suc n) zero mark h = cc
all_new (suc n) (suc k) mark h = all_new n k mark h

open_or_new : Open ≡ New → ⊥
open_or_new h = cc

sized_or_new : (size : ℕ) → Sized size ≡ New → ⊥
sized_or_new size h = cc

length_new : (n : ℕ) → length (replicate n New) ≡ n
length_new zero = refl
length_new (suc n) = ap suc (length_new n)

pub first_walk : (structs : Structs) (n : ℕ) → n ≡ length structs.list → IsWalk structs (replicate n New) []
first_walk structs n e = record {
  all = length_new n ∙ e;
  sized = λ depth le number size h. absurd (sized_or_new size (all_new n number (Sized size) h));
  is_open = λ place frame h. absurd (cc);
  framed = λ number h. absurd (open_or_new (all_new n number Open h));
  once = λ i j f g h. absurd (cc);
  counting = λ place frame h. absurd (cc);
  nested = λ place outer inner h. absurd (cc);
}

-- what the marks say of the type is its size
pub told_size : (structs : Structs) (marks : List Mark) (frames : List Frame) → IsWalk structs marks frames → (ty : CType) (size : ℕ) →
    ((known : ℕ → Option ℕ) → Agrees marks known → size_with known ty ≡ Some size) → option_map size_of_plan (plan_of structs ty) ≡ Some size
told_size structs marks frames w ty size h =
    let f = few_sized marks in
    type_size structs ty ∙ h (size_of_struct structs (length structs.list)) (w.sized (length structs.list) (omega (arith, f, w.all)))

pub hopeless_type : (structs : Structs) (ty : CType) (number : ℕ) → struct_in ty ≡ Some number → (fault : TypeFault) → IsHopeless structs number fault → IsRefusal (plan_of structs ty) fault
hopeless_type structs ty number e Incomplete h = no_plan (plan_of structs ty) (type_size structs ty ∙ type_needs (size_of_struct structs (length structs.list)) ty number e (h (length structs.list)))
hopeless_type structs ty number e TooManyCells h = absurd h
hopeless_type structs ty number e Memory h = h

pub stuck_type : (structs : Structs) (ty : CType) (number : ℕ) → struct_in ty ≡ Some number → (frames : List Frame) → 0 < length frames →
    ((frame : Frame) → At frames 0 frame → frame.number ≡ number) → (fault : TypeFault) → IsStuck structs frames fault → IsRefusal (plan_of structs ty) fault
stuck_type structs ty number e frames some first fault h =
    let r = exists_at frames 0 some in
    hopeless_type structs ty number e fault (subst (λ n. IsHopeless structs n fault) (first r.0 r.1) (h 0 r.0 r.1))

marked_size : (structs : Structs) (marks : List Mark) → IsWalk structs marks [] → (number : ℕ) (mark : Mark) → At marks number mark → (At marks number New → ⊥) → (size : ℕ) × At marks number (Sized size)
marked_size structs marks w number New h entered = absurd (entered h)
marked_size structs marks w number Open h entered = let r = w.framed number h in absurd (let lt = within [] r.0 r.1 r.2 in omega (arith, lt))
marked_size structs marks w number (Sized size) h entered = (size, h)

-- a struct that was entered has its size at the end
pub finished : (structs : Structs) (marks : List Mark) (frames : List Frame) → IsWalk structs marks frames → frames ≡ [] → (number : ℕ) → number < length structs.list →
    (At marks number New → ⊥) → (size : ℕ) × At marks number (Sized size)
finished structs marks frames w none number lt entered =
    let r = exists_at marks number (omega (arith, lt, w.all)) in
    marked_size structs marks (subst (IsWalk structs marks) none w) number r.0 r.1 entered

some_same : (a b : ℕ) → Some a ≡ Some b → a ≡ b
some_same a b h = cc

first_alone : (frame f : Frame) → Some frame ≡ Some f → f ≡ frame
first_alone frame f h = cc

pub one_struct : (ty : CType) (a b : ℕ) → struct_in ty ≡ Some a → struct_in ty ≡ Some b → a ≡ b
one_struct ty a b h e = some_same a b (sym h ∙ e)

pub first_entered : (before after : List Frame) (frame : Frame) → before ≡ [] → after ≡ before ++ frame ∷ [] → (f : Frame) → At after 0 f → f.number ≡ frame.number
first_entered before after frame none is f h = ap (λ (g : Frame). g.number) (first_alone frame f (subst (λ b. At (b ++ frame ∷ []) 0 f) none (subst (λ fs. At fs 0 f) is h)))

pub not_entered : (marks : List Mark) (number : ℕ) → At marks number Open → At marks number New → ⊥
not_entered marks number h e = open_or_new (same_at marks number Open New h e)

pub no_elements : {X : Type 0} (xs : List X) → length xs ≡ 0 → xs ≡ []
no_elements [] h = refl
no_elements (x ∷ xs) h = absurd (omega (arith, h))
