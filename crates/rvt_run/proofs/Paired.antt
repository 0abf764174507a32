-- The pairs of one more function.
use Rattle.std.proofs.Common.{◌≡◌, ℕ, suc, ◌+◌, ◌<◌, List, [], ◌∷◌, ◌++◌, Option, Some, None, length, drop, get_or, drop-cons, sym, ◌∙◌, ap, subst, arith, append_assoc}
use Rattle.std.proofs.lemmas.List.{append-nil}
use Rattle.rvt_tree.specs.declared.pairings.Pairing.{Pairing}
use Rattle.rvt_tree.specs.declared.programs.Function.{Function}
use Rattle.function_pairs.specs.Units.{pair_name}
use Rattle.rvt_run.specs.declared.pairs.Verdict.{Verdict}
use Rattle.rvt_run.specs.Pairs.{PairVerdict, ArePairs, no_more, skipped, paired, AreLoops, partner_at, is_twin, IsVerdict}

module _ (pairing : Pairing) (partners : List (Option ℕ)) (new old : List Function) (twins : Option Pairing) (Whole : List PairVerdict → Type 0) where
  -- with the pairs of the functions from here on these are the whole
  abbrev pub Leads : ℕ → List PairVerdict → Type 0
  Leads i made = (rest : List PairVerdict) → ArePairs pairing partners new twins i (drop i old) rest → Whole (made ++ rest)

  -- the functions from here on
  from_here : (i : ℕ) (f : Function) → i < length old → f ≡ get_or old i f → drop i old ≡ f ∷ drop (i + 1) old
  from_here i f low is =
      let next : suc i ≡ i + 1 = omega arith in
      drop-cons old i f low ∙ ap (λ (x : Function). x ∷ drop (suc i) old) (sym is) ∙ ap (λ (n : ℕ). f ∷ drop n old) next

  -- a function without a partner adds nothing
  pub without_partner : (i : ℕ) (f : Function) (made : List PairVerdict) → i < length old → f ≡ get_or old i f → partner_at partners new i ≡ None → Leads i made → Leads (i + 1) made
  without_partner i f made low is none leads rest pairs =
      leads rest (subst (λ (fs : List Function). ArePairs pairing partners new twins i fs rest) (sym (from_here i f low is)) (skipped i f (drop (i + 1) old) rest none pairs))

  -- one with a partner adds its verdict, and those of its loops
  pub with_partner : (i : ℕ) (f g : Function) (verdict : Verdict) (loops made : List PairVerdict) → i < length old → f ≡ get_or old i f → partner_at partners new i ≡ Some g →
      IsVerdict pairing f g (is_twin twins i) verdict → AreLoops pairing f g (is_twin twins i) loops → Leads i made → Leads (i + 1) ((made ++ (pair_name f.name g.name, None, verdict) ∷ []) ++ loops)
  with_partner i f g verdict loops made low is some judged are_loops leads rest pairs =
      subst Whole (sym (append_assoc (made ++ (pair_name f.name g.name, None, verdict) ∷ []) loops rest ∙ append_assoc made ((pair_name f.name g.name, None, verdict) ∷ []) (loops ++ rest)))
      (leads ((pair_name f.name g.name, None, verdict) ∷ (loops ++ rest))
      (subst (λ (fs : List Function). ArePairs pairing partners new twins i fs ((pair_name f.name g.name, None, verdict) ∷ (loops ++ rest))) (sym (from_here i f low is)) (paired i f (drop (i + 1) old) rest g verdict loops some judged are_loops pairs)))

  -- at the end these are the whole
  pub all_paired : (i : ℕ) (made : List PairVerdict) → drop i old ≡ [] → Leads i made → Whole made
  all_paired i made done leads =
      subst Whole (append-nil made) (leads [] (subst (λ (fs : List Function). ArePairs pairing partners new twins i fs []) (sym done) (no_more i)))
