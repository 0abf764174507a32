-- The pairs of loops, one after another.
use Rattle.std.proofs.Common.{◌≡◌, ℕ, suc, ◌+◌, ◌^◌, ◌<◌, Bool, List, [], ◌∷◌, ◌++◌, drop, length, get_or, drop-cons, Option, Some, refl, sym, ◌∙◌, ap, subst, arith, append_assoc}
use Rattle.std.specs.Prelude.{map}
use Rattle.std.proofs.lemmas.List.{append-nil, map-append}
use Rattle.rvt_tree.specs.declared.pairings.Pairing.{Pairing}
use Rattle.rvt_tree.specs.declared.programs.Function.{Function}
use Rattle.loop_interfaces.specs.declared.interfaces.LoopInterface.{LoopInterface}
use Rattle.loop_interfaces.specs.Loops.{loops_of}
use Rattle.loop_interfaces.specs.NameOrder.{AreInterfaces}
use Rattle.function_pairs.specs.Units.{pair_name}
use Rattle.rvt_run.specs.declared.pairs.Pair.{Pair}
use Rattle.rvt_run.specs.declared.pairs.Verdict.{Verdict}
use Rattle.rvt_run.specs.Pairs.{PairVerdict, AreLoops, AreLoopPairs, IsLoopVerdict, said}

module _ (pairing : Pairing) (f g : Function) (are_twins : Bool) (Whole : List PairVerdict → Type 0) where
  -- with the pairs of the loops that are left these are the whole
  abbrev pub Leads : List LoopInterface → List LoopInterface → List PairVerdict → Type 0
  Leads left right made = (rest : List PairVerdict) → AreLoopPairs pairing f g are_twins left right rest → Whole (made ++ rest)

  -- one pair more
  pub one_more : (left right more others : List LoopInterface) (a b : LoopInterface) (verdict : Verdict) (made : List PairVerdict) → left ≡ a ∷ more → right ≡ b ∷ others → a.number < 2 ^ 32 →
      IsLoopVerdict pairing f g are_twins a b verdict → Leads left right made → Leads more others (made ++ (pair_name f.name g.name, Some a.number, verdict) ∷ [])
  one_more left right more others a b verdict made e e' small judged leads rest pairs =
      subst Whole (sym (append_assoc made ((pair_name f.name g.name, Some a.number, verdict) ∷ []) rest))
      (leads ((pair_name f.name g.name, Some a.number, verdict) ∷ rest)
      (subst (λ (l : List LoopInterface). AreLoopPairs pairing f g are_twins l right ((pair_name f.name g.name, Some a.number, verdict) ∷ rest)) (sym e)
      (subst (λ (r : List LoopInterface). AreLoopPairs pairing f g are_twins (a ∷ more) r ((pair_name f.name g.name, Some a.number, verdict) ∷ rest)) (sym e') (refl, refl, small, judged, pairs))))

  -- there are no more loops on the first side
  pub none_left : (left right : List LoopInterface) (made : List PairVerdict) → left ≡ [] → Leads left right made → Whole made
  none_left left right made e leads =
      subst Whole (append-nil made) (leads [] (subst (λ (l : List LoopInterface). AreLoopPairs pairing f g are_twins l right []) (sym e) refl))

  -- or on the second
  pub none_right : (left right more : List LoopInterface) (a : LoopInterface) (made : List PairVerdict) → left ≡ a ∷ more → right ≡ [] → Leads left right made → Whole made
  none_right left right more a made e e' leads =
      subst Whole (append-nil made) (leads []
      (subst (λ (l : List LoopInterface). AreLoopPairs pairing f g are_twins l right []) (sym e) (subst (λ (r : List LoopInterface). AreLoopPairs pairing f g are_twins (a ∷ more) r []) (sym e') refl)))

-- the pairs of the loops of two functions
pub loops_are : (pairing : Pairing) (f g : Function) (are_twins : Bool) (loops others left right : List LoopInterface) (pairs : List PairVerdict) → AreInterfaces f (loops_of f) loops → AreInterfaces g (loops_of g) others →
    left ≡ loops → right ≡ others → AreLoopPairs pairing f g are_twins left right pairs → AreLoops pairing f g are_twins pairs
loops_are pairing f g are_twins loops others left right pairs fs gs e e' are = record {
  old = loops;
  new_side = others;
  old_are = fs;
  new_are = gs;
  are_pairs = subst (λ (l : List LoopInterface). AreLoopPairs pairing f g are_twins l others pairs) e (subst (λ (r : List LoopInterface). AreLoopPairs pairing f g are_twins left r pairs) e' are);
}

-- what is said of one pair more
pub said_push : (made : List Pair) (pair : Pair) (name : List ℕ) (number : Option ℕ) → pair_name pair.old_name.now pair.new_name.now ≡ name → pair.loop_number ≡ number → map said (made ++ pair ∷ []) ≡ map said made ++ (name, number, pair.verdict) ∷ []
said_push made pair name number e e' =
    map-append said made (pair ∷ [])
    ∙ ap (λ (n : List ℕ). map said made ++ (n, pair.loop_number, pair.verdict) ∷ []) e
    ∙ ap (λ (m : Option ℕ). map said made ++ (name, m, pair.verdict) ∷ []) e'

-- one number more of those that are left
pub one_number : (items : List ℕ) (i : ℕ) (units pushed whole : List (Option ℕ)) → i < length items → pushed ≡ units ++ Some (get_or items i 0) ∷ [] →
    units ++ map (λ (n : ℕ). Some n) (drop i items) ≡ whole → pushed ++ map (λ (n : ℕ). Some n) (drop (i + 1) items) ≡ whole
one_number items i units pushed whole low e before =
    let next : suc i ≡ i + 1 = omega arith in
    let split : drop i items ≡ get_or items i 0 ∷ drop (i + 1) items = drop-cons items i 0 low ∙ ap (λ (k : ℕ). get_or items i 0 ∷ drop k items) next in
    ap (λ (l : List (Option ℕ)). l ++ map (λ (n : ℕ). Some n) (drop (i + 1) items)) e
    ∙ append_assoc units (Some (get_or items i 0) ∷ []) (map (λ (n : ℕ). Some n) (drop (i + 1) items))
    ∙ ap (λ (l : List ℕ). units ++ map (λ (n : ℕ). Some n) l) (sym split) ∙ before
