-- Pairs of functions whose loops stand on locals of the same names.
use Rattle.std.proofs.Common.{◌≡◌, ◌≢◌, ℕ, zero, suc, ◌+◌, ◌<◌, ◌≤◌, ◌⊎◌, ◌↔◌, Bool, true, false, not, nat_eq, List, [], ◌∷◌, length, set, slice_get, get_or, Option, Some, None, inl, inr, refl, sym, ap, ◌∙◌, subst, arith}
use Rattle.std.specs.Cmp.Lexicographic.{pointwise}
use Rattle.std.proofs.Math.Nat.{eq-or-lt_of_le}
use Rattle.std.proofs.lemmas.Slice.Eq.{bytes_eq-Decides}
use Rattle.rvt_tree.specs.Syntax.{Statement}
use Rattle.rvt_tree.specs.declared.pairings.Pairing.{Pairing}
use Rattle.rvt_tree.specs.declared.programs.Function.{Function}
use Rattle.rvt_tree.specs.declared.programs.Program.{Program}
use Rattle.rvt_tree.specs.Same.{ArePaired}
use Rattle.c_meaning.specs.Interfaces.{StandsIn, name_of, named_in_loop, declared_in_loop}
use Rattle.c_meaning.specs.Twins.{IsClosed}
use Rattle.twin_check.specs.Sets.{IsWithin, HasEveryClosed}
use Rattle.joint_programs.specs.declared.programs.JointPrograms.{JointPrograms}
use Rattle.joint_twins.specs.Twins.{AreTwinsOver}
use Rattle.loop_interfaces.specs.declared.interfaces.LoopInterface.{LoopInterface}
use Rattle.loop_interfaces.specs.NameOrder.{AreInterfaces, IsLoopInterface}
use Rattle.rvt_run.specs.LoopTwins.{AreNamedSo, HaveOneNamingIn, AreNamedAlike, AllNamedAlike, AreLoopTwins, KeepsNamedAlike}

-- ---- taking a pair out

still_paired : (list : List (Option ℕ)) (f k g : ℕ) → ArePaired (set list f None) k g → ArePaired list k g
still_paired [] f k g h = h
still_paired (x ∷ rest) zero zero g h = absurd (let no : Some None ≡ Some (Some g) = h in cc)
still_paired (x ∷ rest) zero (suc k) g h = h
still_paired (x ∷ rest) (suc f) zero g h = h
still_paired (x ∷ rest) (suc f) (suc k) g h = still_paired rest f k g h

taken_out : (list : List (Option ℕ)) (f g : ℕ) → ArePaired (set list f None) f g → ⊥
taken_out [] f g h = let no : None ≡ Some (Some g) = h in cc
taken_out (x ∷ rest) zero g h = let no : Some None ≡ Some (Some g) = h in cc
taken_out (x ∷ rest) (suc f) g h = taken_out rest f g h

stays_paired : (list : List (Option ℕ)) (f k g : ℕ) → k ≢ f → ArePaired list k g → ArePaired (set list f None) k g
stays_paired [] f k g other h = h
stays_paired (x ∷ rest) zero zero g other h = absurd (other refl)
stays_paired (x ∷ rest) zero (suc k) g other h = h
stays_paired (x ∷ rest) (suc f) zero g other h = h
stays_paired (x ∷ rest) (suc f) (suc k) g other h = stays_paired rest f k g (λ e. other (ap suc e)) h

partner_is_one : (list : List (Option ℕ)) (f g h : ℕ) → ArePaired list f g → ArePaired list f h → g ≡ h
partner_is_one list f g h first second = let same : Some (Some g) ≡ Some (Some h) = sym first ∙ second in cc

module _ (old new : Program) where
  -- the functions of these numbers
  abbrev pub Alike : ℕ → ℕ → Type 0
  Alike f g = AreNamedAlike (slice_get old.functions f) (slice_get new.functions g)

  -- the first pairs are looked at
  pub record TakenOut (before now : Pairing) (count : ℕ) : Type 0 where
    pub within : IsWithin now before
    pub kept : (f g : ℕ) → ArePaired before.functions f g → Alike f g → ArePaired now.functions f g
    pub alike : (f g : ℕ) → f < count → ArePaired now.functions f g → Alike f g

  pub start : (before : Pairing) → TakenOut before before 0
  start before = record {
    within = record { functions = λ f g h. h; objects = refl; structs = refl };
    kept = λ f g h alike. h;
    alike = λ f g low h. absurd (omega (arith, low));
  }

  -- one that isn't alike is taken out
  pub one_out : (before now : Pairing) (f g : ℕ) → TakenOut before now f → ArePaired now.functions f g → (Alike f g → ⊥) → TakenOut before (record { functions = set now.functions f None; objects = now.objects; structs = now.structs }) (f + 1)
  one_out before now f g so paired other = record {
    within = record { functions = λ k h there. so.within.functions k h (still_paired now.functions f k h there); objects = so.within.objects; structs = so.within.structs };
    kept = λ k h there alike. let there' = so.kept k h there alike in stays_paired now.functions f k h (λ same. other (is_it k h same there' alike)) there';
    alike = λ k h low there. by k h (eq-or-lt_of_le (below k low)) there;
  }
    where
      below : (k : ℕ) → k < f + 1 → k ≤ f
      below k low = omega (arith, low)

      is_it : (k h : ℕ) → k ≡ f → ArePaired now.functions k h → Alike k h → Alike f g
      is_it k h same there alike =
          let there' : ArePaired now.functions f h = subst (λ (n : ℕ). ArePaired now.functions n h) same there in
          let alike' : Alike f h = subst (λ (n : ℕ). Alike n h) same alike in
          subst (λ (n : ℕ). Alike f n) (partner_is_one now.functions f h g there' paired) alike'

      by : (k h : ℕ) → (k ≡ f) ⊎ (k < f) → ArePaired (set now.functions f None) k h → Alike k h
      by k h (inl same) there = absurd (taken_out now.functions f h (subst (λ (n : ℕ). ArePaired (set now.functions f None) n h) same there))
      by k h (inr low) there = so.alike k h low (still_paired now.functions f k h there)

  -- one that is alike stays
  pub one_in : (before now : Pairing) (f g : ℕ) → TakenOut before now f → ArePaired now.functions f g → Alike f g → TakenOut before now (f + 1)
  one_in before now f g so paired alike = record {
    within = so.within;
    kept = so.kept;
    alike = λ k h low there. by k h (eq-or-lt_of_le (below k low)) there;
  }
    where
      below : (k : ℕ) → k < f + 1 → k ≤ f
      below k low = omega (arith, low)

      by : (k h : ℕ) → (k ≡ f) ⊎ (k < f) → ArePaired now.functions k h → Alike k h
      by k h (inr low) there = so.alike k h low there
      by k h (inl same) there =
          let there' : ArePaired now.functions f h = subst (λ (n : ℕ). ArePaired now.functions n h) same there in
          subst (λ (n : ℕ). Alike n h) (sym same) (subst (λ (n : ℕ). Alike f n) (sym (partner_is_one now.functions f h g there' paired)) alike)

  -- where there is none
  pub none_here : (before now : Pairing) (f : ℕ) → TakenOut before now f → ((g : ℕ) → ArePaired now.functions f g → ⊥) → TakenOut before now (f + 1)
  none_here before now f so none = record {
    within = so.within;
    kept = so.kept;
    alike = λ k h low there. by k h (eq-or-lt_of_le (below k low)) there;
  }
    where
      below : (k : ℕ) → k < f + 1 → k ≤ f
      below k low = omega (arith, low)

      by : (k h : ℕ) → (k ≡ f) ⊎ (k < f) → ArePaired now.functions k h → Alike k h
      by k h (inr low) there = so.alike k h low there
      by k h (inl same) there = absurd (none h (subst (λ (n : ℕ). ArePaired now.functions n h) same there))

  paired_within : (list : List (Option ℕ)) (f g : ℕ) → ArePaired list f g → f < length list
  paired_within [] f g h = absurd (let no : None ≡ Some (Some g) = h in cc)
  paired_within (x ∷ rest) zero g h = omega arith
  paired_within (x ∷ rest) (suc f) g h = let less : f < length rest = paired_within rest f g h in omega (arith, less)

  -- all are looked at
  pub all_alike : (before now : Pairing) (count : ℕ) → TakenOut before now count → length now.functions ≤ count → KeepsNamedAlike old new before now
  all_alike before now count so all = record {
    within = so.within;
    kept = so.kept;
    alike = λ f g there. let low = paired_within now.functions f g there in so.alike f g (omega (arith, low, all)) there;
  }

-- ---- the greatest closed set among those that are left

pub greatest_is : (joint : JointPrograms) (all left twins : Pairing) → AreTwinsOver joint all → KeepsNamedAlike joint.old joint.new_side all left → IsClosed twins joint.old joint.new_side → IsWithin twins left →
    HasEveryClosed joint.old joint.new_side left twins → AreLoopTwins joint twins
greatest_is joint all left twins are keeps closed within every = record {
  all = all;
  are = are;
  within = record { functions = λ f g h. keeps.within.functions f g (within.functions f g h); objects = within.objects ∙ keeps.within.objects; structs = within.structs ∙ keeps.within.structs };
  closed = closed;
  alike = λ f g h. keeps.alike f g (within.functions f g h);
  greatest = λ set inside closed' alike. let among = are.greatest set inside closed' in every set (left_in set among alike) closed';
}
  where
    left_in : (set : Pairing) → IsWithin set all → AllNamedAlike set joint.old joint.new_side → IsWithin set left
    left_in set among alike = record {
      functions = λ f g h. keeps.kept f g (among.functions f g h) (alike f g h);
      objects = among.objects ∙ sym keeps.within.objects;
      structs = among.structs ∙ sym keeps.within.structs;
    }

-- ---- locals of one name

module _ (f g : Function) where
  pub so_step : (Whole : Type 0) (left more : List ℕ) (x : ℕ) → left ≡ x ∷ more → name_of f x ≡ name_of g x → (AreNamedSo f g left ↔ Whole) → (AreNamedSo f g more ↔ Whole)
  so_step Whole left more x e same h =
      (λ rest. h.0 (subst (AreNamedSo f g) (sym e) (λ n stands. by n rest stands)), λ whole n stands. h.1 whole n (subst (StandsIn n) (sym e) (inr stands)))
    where
      by : (n : ℕ) → AreNamedSo f g more → (n ≡ x) ⊎ StandsIn n more → name_of f n ≡ name_of g n
      by n rest (inl is) = subst (λ (m : ℕ). name_of f m ≡ name_of g m) (sym is) same
      by n rest (inr later) = rest n later

  pub so_fails : (Whole : Type 0) (left more : List ℕ) (x : ℕ) → left ≡ x ∷ more → (name_of f x ≡ name_of g x → ⊥) → (AreNamedSo f g left ↔ Whole) → Whole → ⊥
  so_fails Whole left more x e other h whole = other (h.1 whole x (subst (StandsIn x) (sym e) (inl refl)))

  -- ---- loops

  -- these interfaces are those of loops, and the rest have one naming exactly where the whole have
  pub record NamingLeft (Whole : Type 0) (left : List LoopInterface) : Type 0 where
    pub loops : List Statement
    pub are : AreInterfaces f loops left
    pub same : HaveOneNamingIn f g loops ↔ Whole

  pub naming_step : (Whole : Type 0) (left more : List LoopInterface) (x : LoopInterface) → left ≡ x ∷ more → AreNamedSo f g x.locals.items → NamingLeft Whole left → NamingLeft Whole more
  naming_step Whole left more x e so h = by h.loops (subst (AreInterfaces f h.loops) e h.are) h.same
    where
      front : (l : Statement) (ls : List Statement) → IsLoopInterface f l x.locals.items → HaveOneNamingIn f g ls → HaveOneNamingIn f g (l ∷ ls)
      front l ls is rest loop among n named out = at among.0 among.1 among.2
        where
          at : (k : ℕ) → k < length (l ∷ ls) → get_or (l ∷ ls) k loop ≡ loop → name_of f n ≡ name_of g n
          at zero low same =
              so n ((is.members n).1 (subst (λ (s : Statement). StandsIn n (named_in_loop s)) (sym same) named, λ inside. out (subst (λ (s : Statement). StandsIn n (declared_in_loop s)) same inside)))
          at (suc k) low same = rest loop (k, omega (arith, low), same) n named out

      by : (ls : List Statement) → AreInterfaces f ls (x ∷ more) → (HaveOneNamingIn f g ls ↔ Whole) → NamingLeft Whole more
      by [] are same = absurd are
      by (l ∷ ls) are same = record {
        loops = ls;
        are = are.2;
        same = (λ rest. same.0 (front l ls are.1 rest), λ whole loop among. same.1 whole loop (suc among.0, omega (arith, among.1), among.2));
      }

  pub naming_fails : (Whole : Type 0) (left more : List LoopInterface) (x : LoopInterface) → left ≡ x ∷ more → (AreNamedSo f g x.locals.items → ⊥) → NamingLeft Whole left → Whole → ⊥
  naming_fails Whole left more x e other h whole = by h.loops (subst (AreInterfaces f h.loops) e h.are) (h.same.1 whole)
    where
      by : (ls : List Statement) → AreInterfaces f ls (x ∷ more) → HaveOneNamingIn f g ls → ⊥
      by [] are naming = absurd are
      by (l ∷ ls) are naming = other (λ n stands. let both = (are.1.members n).0 stands in naming l (0, omega arith, refl) n both.0 both.1)

  pub naming_done : (Whole : Type 0) (left : List LoopInterface) → left ≡ [] → NamingLeft Whole left → Whole
  naming_done Whole left e h = by h.loops (subst (AreInterfaces f h.loops) e h.are) h.same
    where
      by : (ls : List Statement) → AreInterfaces f ls [] → (HaveOneNamingIn f g ls ↔ Whole) → Whole
      by [] are same = same.0 (λ loop among. absurd (omega (arith, among.1)))
      by (l ∷ ls) are same = absurd are

  pub so_nil : (left : List ℕ) → left ≡ [] → AreNamedSo f g left
  so_nil left e n stands = absurd (subst (StandsIn n) e stands)

  -- at first all interfaces are left
  pub naming_start : (loops : List Statement) (left items : List LoopInterface) → left ≡ items → AreInterfaces f loops items → NamingLeft (HaveOneNamingIn f g loops) left
  naming_start loops left items e are = record {
    loops = loops;
    are = subst (AreInterfaces f loops) (sym e) are;
    same = (λ h. h, λ h. h);
  }

pub nil_of : {A : Type 0} (xs : List A) → length xs ≡ 0 → xs ≡ []
nil_of [] e = refl
nil_of (x ∷ xs) e = absurd (omega (arith, e))

-- ---- names that are compared

pub not_other : (a b : List ℕ) → not (pointwise nat_eq a b) ≡ false → a ≡ b
not_other a b e = cases (pointwise nat_eq a b) refl e
  where
    cases : (c : Bool) → pointwise nat_eq a b ≡ c → not c ≡ false → a ≡ b
    cases true is e = (bytes_eq-Decides a b).0 is
    cases false is e = cc

pub not_same : (a b : List ℕ) → not (pointwise nat_eq a b) ≡ true → a ≡ b → ⊥
not_same a b e same = let yes_ : pointwise nat_eq a b ≡ true = (bytes_eq-Decides a b).1 same in let no : false ≡ true = ap not (sym yes_) ∙ e in cc
