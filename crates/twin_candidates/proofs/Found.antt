-- The pairs that are left are the candidates.
use Rattle.std.proofs.Common.{◌≡◌, ◌↔◌, ℕ, List, slice_get, false, Option, Some, None, option_map, sym, subst}
use Rattle.std.proofs.lemmas.List.Elements.{All-weaker}
use Rattle.rvt_tree.specs.declared.types.Pointee.{Pointee}
use Rattle.rvt_tree.specs.declared.pairings.Pairing.{Pairing}
use Rattle.rvt_tree.specs.declared.programs.Program.{Program}
use Rattle.rvt_tree.specs.declared.programs.Function.{Function}
use Rattle.rvt_tree.specs.declared.programs.Object.{Object}
use Rattle.rvt_tree.specs.Views.{stmt_view}
use Rattle.body_pointees.specs.Pointees.{body_pointees}
use Rattle.twin_laws.specs.Tables.{SameContents}
use Rattle.twin_laws.specs.Touches.{TouchesPaired, FunctionTouchesPaired}
use Rattle.twin_candidates.specs.declared.marks.Marks.{Marks}
use Rattle.twin_candidates.specs.Candidates.{AreCandidates}
use Rattle.twin_candidates.specs.Kept.{KeepsOnly}
use Rattle.twin_candidates.specs.Marks.{marked, MarksChanged, AvoidsMarked}

avoid_touch : (program : Program) (found : Pairing) (marks : Marks) → MarksChanged program found.objects marks → (function : Option Function) → AvoidsMarked marks function ↔ FunctionTouchesPaired found program function
avoid_touch program found marks h None = (λ _. tt, λ _. tt)
avoid_touch program found marks h (Some function) = (
  All-weaker (λ (pointee : Pointee). marked marks pointee ≡ false) (TouchesPaired found program) (λ pointee none. (h pointee).0 none) (body_pointees (option_map stmt_view function.body)),
  All-weaker (TouchesPaired found program) (λ (pointee : Pointee). marked marks pointee ≡ false) (λ pointee touches. (h pointee).1 touches) (body_pointees (option_map stmt_view function.body)),
)

pub are_found : (old new : Program) (pairing found : Pairing) (partners objects : List (Option ℕ)) (os os' : List Object) (marks : Marks) (before functions : List (Option ℕ)) →
    partners ≡ pairing.objects → os ≡ old.table.objects → os' ≡ new.table.objects → KeepsOnly (λ a b. SameContents (slice_get os a) (slice_get os' b)) partners objects →
    MarksChanged old objects marks → before ≡ pairing.functions → KeepsOnly (λ f g. AvoidsMarked marks (slice_get old.functions f)) before functions →
    found.functions ≡ functions → found.objects ≡ objects → found.structs ≡ pairing.structs → AreCandidates old new pairing found
are_found old new pairing found partners objects os os' marks before functions of_objects of_old of_new keeps changed of_functions avoids is_functions is_objects structs = record {
  objects =
      subst (λ (l : List (Option ℕ)). KeepsOnly (λ a b. SameContents (slice_get old.table.objects a) (slice_get new.table.objects b)) pairing.objects l) (sym is_objects)
      (subst (λ (l : List (Option ℕ)). KeepsOnly (λ a b. SameContents (slice_get old.table.objects a) (slice_get new.table.objects b)) l objects) of_objects
      (subst (λ (l : List Object). KeepsOnly (λ a b. SameContents (slice_get old.table.objects a) (slice_get l b)) partners objects) of_new
      (subst (λ (l : List Object). KeepsOnly (λ a b. SameContents (slice_get l a) (slice_get os' b)) partners objects) of_old keeps)));
  functions = λ f g.
      let own = avoid_touch old found marks (subst (λ (l : List (Option ℕ)). MarksChanged old l marks) (sym is_objects) changed) (slice_get old.functions f) in
      let kept = here f g in
      (λ paired. let both = kept.0 paired in (both.0, own.0 both.1), λ both. kept.1 (both.0, own.1 both.1));
  structs = structs;
}
  where
    here : KeepsOnly (λ f g. AvoidsMarked marks (slice_get old.functions f)) pairing.functions found.functions
    here =
        subst (λ (l : List (Option ℕ)). KeepsOnly (λ f g. AvoidsMarked marks (slice_get old.functions f)) pairing.functions l) (sym is_functions)
        (subst (λ (l : List (Option ℕ)). KeepsOnly (λ f g. AvoidsMarked marks (slice_get old.functions f)) l functions) of_functions avoids)
