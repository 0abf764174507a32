-- A trail goes on with decisions of its own, and comes back.
use Rattle.std.proofs.Common.{◌≡◌, ◌⊎◌, inl, inr, ℕ, ℤ, ◌<◌, ◌≤◌, List, [], ◌∷◌, ◌++◌, length, take, min, slice_index, refl, sym, ap, ◌∙◌, arith, subst, length-append, append_assoc}
use Rattle.std.specs.Prelude.{Contains}
use Rattle.std.proofs.Math.Seq.{get_or-append_seam, take-append_seam}
use Rattle.std.proofs.lemmas.List.{append-nil}
use Rattle.clause_db.specs.Literal.{opposite}
use Rattle.unit_propagation.specs.Places.{literal_at}
use Rattle.unit_propagation.specs.Status.{Extends}
use Rattle.unit_propagation.specs.declared.trail.Trail.{Trail}
use Rattle.unit_propagation.specs.declared.watches.Watches.{Watches}
use Rattle.unit_propagation.specs.Quiet.{IsQuiet}
use Rattle.refutation_check.specs.Runs.{IsRun, IsQuietRun, AreDecidedFrom, AreFalseOutside, IsSameTrail, HasDecidedMore, GoesOn, IsBack}

-- nothing came onto the trail
pub goes_on_same : (trail : Trail) (head : ℕ) → head ≡ length trail.literals.items → GoesOn trail trail head
goes_on_same trail head all = (omega (arith, all), inl (refl, refl))

-- a decision and what followed
pub goes_on_decided : (old new : Trail) (l : ℤ) (head : ℕ) → new.starts.items ≡ old.starts.items ++ length old.literals.items ∷ [] → Extends (old.literals.items ++ l ∷ []) new.literals.items → ((j : ℕ) → j < length new.starts.items → slice_index new.starts.items j ≤ head) → GoesOn old new head
goes_on_decided old new l head starts (more, literals) before = (
  high,
  inr (l ∷ more, [], literals ∙ append_assoc old.literals.items (l ∷ []) more, starts),
) where
  low : length old.starts.items < length new.starts.items
  low = let e = ap length starts in let g = length-append old.starts.items (length old.literals.items ∷ []) in omega (arith, e, g)

  high : length old.literals.items ≤ head
  high =
      let e = ap (λ s. slice_index s (length old.starts.items)) starts ∙ get_or-append_seam old.starts.items (length old.literals.items) [] 0 in
      let h = before (length old.starts.items) low in
      omega (arith, e, h)

not_longer : (old new : Trail) (head : ℕ) → GoesOn old new head → length old.literals.items ≤ length new.literals.items
not_longer old new head (low, inl (e, s)) = let g = ap length e in omega (arith, g)
not_longer old new head (low, inr (more, later, e, s)) =
    let g = ap length e in
    let f = length-append old.literals.items more in
    omega (arith, f, g)

-- one step after another
pub goes_on_more : (a b c : Trail) (m n : ℕ) → GoesOn a b m → GoesOn b c n → GoesOn a c n
goes_on_more a b c m n first second = (
  (let low = not_longer a b m first in let high = second.0 in omega (arith, low, high)),
  both first.1 second.1,
) where
  both : IsSameTrail a b ⊎ HasDecidedMore a b → IsSameTrail b c ⊎ HasDecidedMore b c → IsSameTrail a c ⊎ HasDecidedMore a c
  both (inl (bl, bs)) (inl (cl, cs)) = inl (cl ∙ bl, cs ∙ bs)
  both (inl (bl, bs)) (inr (more, later, cl, cs)) =
      inr (more, later, cl ∙ ap (λ t. t ++ more) bl, cs ∙ ap (λ s. s ++ length b.literals.items ∷ later) bs ∙ ap (λ t. a.starts.items ++ length t ∷ later) bl)
  both (inr (more, later, bl, bs)) (inl (cl, cs)) = inr (more, later, cl ∙ bl, cs ∙ bs)
  both (inr (more, later, bl, bs)) (inr (further, latest, cl, cs)) =
      inr (
        more ++ further,
        later ++ length b.literals.items ∷ latest,
        cl ∙ ap (λ t. t ++ further) bl ∙ append_assoc a.literals.items more further,
        cs ∙ ap (λ s. s ++ length b.literals.items ∷ latest) bs ∙ append_assoc a.starts.items (length a.literals.items ∷ later) (length b.literals.items ∷ latest),
      )

pub goes_on_extends : (old new : Trail) (head : ℕ) → GoesOn old new head → Extends old.literals.items new.literals.items
goes_on_extends old new head (low, inl (e, s)) = ([], e ∙ sym (append-nil old.literals.items))
goes_on_extends old new head (low, inr (more, later, e, s)) = (more, e)

-- the trail is cut to what it was
pub back_by_cut : (base old new : Trail) (level head new_head : ℕ) → level ≡ length base.starts.items → level < length old.starts.items → GoesOn base old head → new.literals.items ≡ take (slice_index old.starts.items level) old.literals.items → new.starts.items ≡ take level old.starts.items → new_head ≡ min head (length new.literals.items) → IsBack base new new_head
back_by_cut base old new level head new_head is low (high, inl (e, s)) literals starts cut = absurd (let g = ap length s in omega (arith, g, is, low))
back_by_cut base old new level head new_head is low (high, inr (more, later, e, s)) literals starts cut =
    let at : slice_index old.starts.items level ≡ length base.literals.items = ap (slice_index old.starts.items) is ∙ ap (λ t. slice_index t (length base.starts.items)) s ∙ get_or-append_seam base.starts.items (length base.literals.items) later 0 in
    let same : new.literals.items ≡ base.literals.items = literals ∙ ap (λ n. take n old.literals.items) at ∙ ap (take (length base.literals.items)) e ∙ take-append_seam base.literals.items more in
    let same_starts : new.starts.items ≡ base.starts.items = starts ∙ ap (λ n. take n old.starts.items) is ∙ ap (take (length base.starts.items)) s ∙ take-append_seam base.starts.items (length base.literals.items ∷ later) in
    let long = ap length same in
    (omega (arith, cut, long, high), (same, same_starts))

-- or it is still what it was
pub back_by_nothing : (base old : Trail) (level head : ℕ) → level ≡ length base.starts.items → length old.starts.items ≤ level → GoesOn base old head → IsBack base old head
back_by_nothing base old level head is high (low, inl same) = (low, same)
back_by_nothing base old level head is high (low, inr (more, later, e, s)) =
    absurd (let g = ap length s in let f = length-append base.starts.items (length base.literals.items ∷ later) in omega (arith, f, g, is, high))

module _ (base new : Trail) (watches : Watches) (back : IsBack base new watches.head) where
  -- the run is quiet again
  pub quiet_back : (clauses : List (List ℤ)) (old : Watches) → IsQuietRun clauses base old → IsRun clauses new watches → IsQuietRun clauses new watches
  quiet_back clauses old quiet run = record {
    run = run;
    handled = (let low = back.0 in let long = ap length back.1.0 in let high = run.watched.head_within in omega (arith, low, long, high));
    quiet = subst (λ t. IsQuiet t clauses) (sym back.1.0) quiet.quiet;
    started = λ k h.
        let low : k < length base.starts.items = subst (λ s. k < length s) back.1.1 h in
        let before = quiet.started k low in
        let same = ap (λ s. slice_index s k) back.1.1 in
        let long = ap length back.1.0 in
        omega (arith, before, same, long);
  }

  pub decided_back : (assumed : List ℤ) → AreDecidedFrom assumed base → AreDecidedFrom assumed new
  decided_back assumed decided p h w =
      subst (λ t. Contains assumed (literal_at t p)) (sym back.1.0) (decided p (subst (λ t. p < length t) back.1.0 h) (subst (λ s. Contains s p) back.1.1 w))

  pub false_back : (clause : List ℤ) (from to : ℕ) → AreFalseOutside clause from to base.literals.items → AreFalseOutside clause from to new.literals.items
  false_back clause from to others k h outside = subst (λ t. Contains t (opposite (literal_at clause k))) (sym back.1.0) (others k h outside)

  pub goes_on_back : GoesOn base new watches.head
  goes_on_back = (back.0, inl back.1)
