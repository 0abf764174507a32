-- The report, put together of its parts.
use Rattle.std.proofs.Common.{◌≡◌, ℕ, Option, List, [], ◌∷◌, ◌++◌, length, map, sym, ◌∙◌, ap, subst}
use Rattle.std.specs.Prelude.{codes, All, IfSome}
use Rattle.std.proofs.lemmas.List.{length-map}
use Rattle.rvt_tree.specs.declared.pairings.Pairing.{Pairing}
use Rattle.rvt_tree.specs.declared.programs.Function.{Function}
use Rattle.function_pairs.specs.declared.pairs.FunctionPairs.{FunctionPairs}
use Rattle.joint_programs.specs.declared.programs.JointPrograms.{JointPrograms}
use Rattle.rvt_run.specs.LoopTwins.{AreLoopTwins}
use Rattle.rvt_run.specs.declared.pairs.Pair.{Pair}
use Rattle.rvt_run.specs.Pairs.{PairVerdict, ArePairs, said}
use Rattle.rvt_run.specs.Report.{pair_lines, only_lines, counts_of, full_among, report_lines, status_by, IsReportBy, IsTrueLine}
use Rattle.rvt_run.proofs.Truth.{report_true}
use Rattle.rvt_run.proofs.Units.{AreNamed}

module _ (functions : FunctionPairs) (joint : JointPrograms) where
  text_of : (pairs : List PairVerdict) (l0 l1 l2 l3 l4 olds news : List (List ℕ)) (counts : List ℕ) → l0 ≡ [] → l1 ≡ l0 ++ pair_lines pairs → l2 ≡ l1 ++ olds → l3 ≡ l2 ++ news → l4 ≡ l3 ++ counts ∷ [] →
      l4 ≡ pair_lines pairs ++ olds ++ news ++ counts ∷ []
  text_of pairs l0 l1 l2 l3 l4 olds news counts e0 e1 e2 e3 e4 =
      e4 ∙ ap (λ (l : List (List ℕ)). l ++ counts ∷ [])
      (e3 ∙ ap (λ (l : List (List ℕ)). l ++ news) (e2 ∙ ap (λ (l : List (List ℕ)). l ++ olds) (e1 ∙ ap (λ (l : List (List ℕ)). l ++ pair_lines pairs) e0)))

  pub reported : joint.pairing.functions ≡ functions.of_old → (twins : Option Pairing) → AreNamed joint.old.functions → AreNamed joint.new_side.functions →
      (slice : List Pair) (full status : ℕ) (l0 l1 l2 l3 l4 : List (List ℕ)) (counts : List ℕ) →
      ArePairs joint.pairing functions.of_old joint.new_side.functions twins 0 joint.old.functions (map said slice) → full ≡ full_among (map said slice) → status ≡ status_by full (length slice) →
      l0 ≡ [] → l1 ≡ l0 ++ pair_lines (map said slice) → l2 ≡ l1 ++ only_lines (codes "only old: ") functions.of_old joint.new_side.functions 0 joint.old.functions →
      l3 ≡ l2 ++ only_lines (codes "only new: ") functions.of_new joint.old.functions 0 joint.new_side.functions →
      l4 ≡ l3 ++ counts ∷ [] → counts ≡ counts_of full (length slice) →
      IfSome twins (λ found. AreLoopTwins joint found) → IsReportBy twins functions joint status l4
  reported own twins olds_named news_named slice full status l0 l1 l2 l3 l4 counts are_pairs full_is status_is e0 e1 e2 e3 e4 e are =
      let pairs : List PairVerdict = map said slice in
      let olds = only_lines (codes "only old: ") functions.of_old joint.new_side.functions 0 joint.old.functions in
      let news = only_lines (codes "only new: ") functions.of_new joint.old.functions 0 joint.new_side.functions in
      let all_is : length slice ≡ length pairs = sym (length-map slice said) in
      let counts_are : counts ≡ counts_of (full_among pairs) (length pairs) = e ∙ ap (λ (n : ℕ). counts_of n (length slice)) full_is ∙ ap (counts_of (full_among pairs)) all_is in
      let text : l4 ≡ report_lines functions joint.old joint.new_side pairs =
      text_of pairs l0 l1 l2 l3 l4 olds news counts e0 e1 e2 e3 e4 ∙ ap (λ (c : List ℕ). pair_lines pairs ++ olds ++ news ++ c ∷ []) counts_are in
      record {
        pairs = pairs;
        are_pairs = are_pairs;
        text = text;
        outcome = status_is ∙ ap (λ (n : ℕ). status_by n (length slice)) full_is ∙ ap (status_by (full_among pairs)) all_is;
        truth = subst (All (IsTrueLine functions.of_old joint.old joint.new_side)) (sym text) (report_true functions joint own twins are olds_named news_named pairs are_pairs);
      }

  -- the same by slices of what the joint programs and the pairs hold
  pub reported_by : joint.pairing.functions ≡ functions.of_old → (twins : Option Pairing) → (os ns : List Function) → os ≡ joint.old.functions → ns ≡ joint.new_side.functions →
      (po pn : List (Option ℕ)) → po ≡ functions.of_old → pn ≡ functions.of_new → AreNamed os → AreNamed ns →
      (slice : List Pair) (full status : ℕ) (l0 l1 l2 l3 l4 : List (List ℕ)) (counts : List ℕ) →
      ArePairs joint.pairing po ns twins 0 os (map said slice) → full ≡ full_among (map said slice) → status ≡ status_by full (length slice) →
      l0 ≡ [] → l1 ≡ l0 ++ pair_lines (map said slice) → l2 ≡ l1 ++ only_lines (codes "only old: ") po ns 0 os → l3 ≡ l2 ++ only_lines (codes "only new: ") pn os 0 ns →
      l4 ≡ l3 ++ counts ∷ [] → counts ≡ counts_of full (length slice) →
      IfSome twins (λ found. AreLoopTwins joint found) → IsReportBy twins functions joint status l4
  reported_by own twins os ns os_is ns_is po pn po_is pn_is olds_named news_named slice full status l0 l1 l2 l3 l4 counts given full_is status_is e0 e1 e2 e3 e4 e are =
      let pairs : List PairVerdict = map said slice in
      let are_pairs : ArePairs joint.pairing functions.of_old joint.new_side.functions twins 0 joint.old.functions pairs =
      subst (λ (p : List (Option ℕ)). ArePairs joint.pairing p joint.new_side.functions twins 0 joint.old.functions pairs) po_is
      (subst (λ (n : List Function). ArePairs joint.pairing po n twins 0 joint.old.functions pairs) ns_is
      (subst (λ (o : List Function). ArePairs joint.pairing po ns twins 0 o pairs) os_is given)) in
      let second : l2 ≡ l1 ++ only_lines (codes "only old: ") functions.of_old joint.new_side.functions 0 joint.old.functions =
      e2 ∙ ap (λ (p : List (Option ℕ)). l1 ++ only_lines (codes "only old: ") p ns 0 os) po_is
      ∙ ap (λ (n : List Function). l1 ++ only_lines (codes "only old: ") functions.of_old n 0 os) ns_is
      ∙ ap (λ (o : List Function). l1 ++ only_lines (codes "only old: ") functions.of_old joint.new_side.functions 0 o) os_is in
      let third : l3 ≡ l2 ++ only_lines (codes "only new: ") functions.of_new joint.old.functions 0 joint.new_side.functions =
      e3 ∙ ap (λ (p : List (Option ℕ)). l2 ++ only_lines (codes "only new: ") p os 0 ns) pn_is
      ∙ ap (λ (o : List Function). l2 ++ only_lines (codes "only new: ") functions.of_new o 0 ns) os_is
      ∙ ap (λ (n : List Function). l2 ++ only_lines (codes "only new: ") functions.of_new joint.old.functions 0 n) ns_is in
      reported own twins (subst AreNamed os_is olds_named) (subst AreNamed ns_is news_named) slice full status l0 l1 l2 l3 l4 counts are_pairs full_is status_is e0 e1 second third e4 e are
