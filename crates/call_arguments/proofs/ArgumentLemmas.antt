-- The words of a call, one parameter after another.
use Rattle.std.proofs.Common.{◌≡◌, ℕ, zero, suc, ◌+◌, ◌<◌, ◌≤◌, List, [], ◌∷◌, ◌++◌, length, drop, get_or, refl, sym, ◌∙◌, ap, subst, arith, append_assoc}
use Rattle.std.specs.Prelude.{map}
use Rattle.std.specs.Borrow.{Bor}
use Rattle.std.proofs.lemmas.List.{append-nil, at_drop_more, at_drop_all}
use Rattle.rvt_num.specs.declared.values.Value.{Value}
use Rattle.rvt_tree.specs.declared.programs.Local.{Local}
use Rattle.rvt_tree.specs.declared.programs.Program.{Program}
use Rattle.call_arguments.specs.Arguments.{IsArgument, AreArguments, IsFirstBad}

abbrev pub seen : List (Bor (List ℕ)) → List (List ℕ)
seen words = map (λ word. word.now) words

-- what is known of all parameters and words, where so many were looked at and mean these values
pub record Goes (program : Program) (params : List Local) (words : List (Bor (List ℕ))) (at : ℕ) (values : List Value) : Type 0 where
  pub on : (rest : List Value) → AreArguments program (drop at params) (seen (drop at words)) rest → AreArguments program params (seen words) (values ++ rest)
  pub bad : (k : ℕ) → IsFirstBad program (drop at params) (seen (drop at words)) k → IsFirstBad program params (seen words) (at + k)

module _ (program : Program) (params : List Local) (words : List (Bor (List ℕ))) where
  pub begins : Goes program params words 0 []
  begins = record {
    on = λ rest are. are;
    bad = λ k is. let same : k ≡ 0 + k = omega arith in subst (λ (n : ℕ). IsFirstBad program params (seen words) n) same is;
  }

  -- what is left, where one more was looked at
  left_at : (F : List Local → List (Bor (List ℕ)) → Type 0) (at : ℕ) (local : Local) (word : Bor (List ℕ)) → at < length params → at < length words
      → F (get_or params at local ∷ drop (at + 1) params) (get_or words at word ∷ drop (at + 1) words) → F (drop at params) (drop at words)
  left_at F at local word low low' is =
      subst (λ (T : List Local). F T (drop at words)) (sym (at_drop_more (λ (l : List Local). l) params at local low))
      (subst (λ (T : List (Bor (List ℕ))). F (get_or params at local ∷ drop (at + 1) params) T) (sym (at_drop_more (λ (l : List (Bor (List ℕ))). l) words at word low')) is)

  pub more : (at : ℕ) (values : List Value) (local : Local) (word : Bor (List ℕ)) (value : Value) → at < length params → at < length words
      → IsArgument program (get_or params at local).ty (get_or words at word).now value → Goes program params words at values → Goes program params words (at + 1) (values ++ value ∷ [])
  more at values local word value low low' is goes = record {
    on = λ rest are.
        subst (λ (vs : List Value). AreArguments program params (seen words) vs) (sym (append_assoc values (value ∷ []) rest))
        (goes.on (value ∷ rest) (left_at (λ ps ws. AreArguments program ps (seen ws) (value ∷ rest)) at local word low low' (is, are)));
    bad = λ k bad.
        let next : at + suc k ≡ at + 1 + k = omega arith in
        subst (λ (n : ℕ). IsFirstBad program params (seen words) n) next
        (goes.bad (suc k) (left_at (λ ps ws. IsFirstBad program ps (seen ws) (suc k)) at local word low low' ((value, is), bad)));
  }

  pub stops : (at : ℕ) (values : List Value) (local : Local) (word : Bor (List ℕ)) → at < length params → at < length words
      → ((value : Value) → IsArgument program (get_or params at local).ty (get_or words at word).now value → ⊥) → Goes program params words at values → IsFirstBad program params (seen words) at
  stops at values local word low low' none goes =
      let same : at + 0 ≡ at = omega arith in
      subst (λ (n : ℕ). IsFirstBad program params (seen words) n) same (goes.bad 0 (left_at (λ ps ws. IsFirstBad program ps (seen ws) 0) at local word low low' none))

  pub ends : (at : ℕ) (values : List Value) → length words ≡ length params → length params ≤ at → Goes program params words at values → AreArguments program params (seen words) values
  ends at values same over goes =
      let over' : length words ≤ at = omega (arith, same, over) in
      let none : AreArguments program (drop at params) (seen (drop at words)) [] =
      subst (λ (T : List Local). AreArguments program T (seen (drop at words)) []) (sym (at_drop_all (λ (l : List Local). l) params at over))
      (subst (λ (T : List (Bor (List ℕ))). AreArguments program [] (seen T) []) (sym (at_drop_all (λ (l : List (Bor (List ℕ))). l) words at over')) tt) in
      subst (λ (vs : List Value). AreArguments program params (seen words) vs) (append-nil values) (goes.on [] none)
