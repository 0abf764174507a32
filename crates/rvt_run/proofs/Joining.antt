-- The answer to two files, by their joint programs.
use Rattle.std.proofs.Common.{◌≡◌, ℕ, ◌<◌, List, [], ◌∷◌, length, Option, Some, None, Result, Ok, Err, refl, sym, ◌∙◌, ap, subst}
use Rattle.std.specs.Prelude.{codes, IfOk, MatchOption}
use Rattle.std.proofs.lemmas.List.{length-map}
use Rattle.rvt_tree.specs.declared.pairings.Pairing.{Pairing}
use Rattle.rvt_tree.specs.declared.programs.Function.{Function}
use Rattle.rvt_tree.specs.declared.programs.Object.{Object}
use Rattle.rvt_tree.specs.declared.programs.Program.{Program}
use Rattle.rvt_tree.specs.Same.{ArePaired}
use Rattle.version_map.specs.Maps.{Entries}
use Rattle.version_map.specs.declared.map.Listed.{Listed}
use Rattle.function_pairs.specs.declared.pairs.FunctionPairs.{FunctionPairs}
use Rattle.function_pairs.specs.FunctionPairs.{pairs_of}
use Rattle.function_pairs.specs.Laws.{PairsTurn, PairsStand}
use Rattle.object_numbers.specs.NumberedObjects.{parts, renumbered}
use Rattle.joint_objects.specs.Sides.{Partners}
use Rattle.joint_programs.specs.declared.programs.JointPrograms.{JointPrograms}
use Rattle.joint_programs.specs.declared.faults.JointFault.TheVariants.{TooLarge}
use Rattle.joint_programs.specs.Faults.{IsJointFault}
use Rattle.joint_programs.specs.JointPrograms.{table_of_old}
use Rattle.joint_programs.specs.Numbers.{numbers_in}
use Rattle.joint_laws.specs.JointStand.{AreJoinable}
use Rattle.joint_twins.specs.Twins.{AreJointPrograms, AreTwinsOver}
use Rattle.joint_cycles.specs.JointCalls.{ArePartnersOf, joint_calls, node_name}
use Rattle.joint_cycles.specs.Owners.{HasNoOwnerOnCycle, IsFirstOwnerOnCycle}
use Rattle.rvt_run.specs.declared.answers.Answer.{Answer}
use Rattle.rvt_run.specs.Joined.{IsCompared, too_large, on_cycle, reported, unknown_line, unlike_line, functions_of, partners_of, owner_nodes, owners, calls_of_both, IsOffCycles, IsOnCycleOf, StandOverOne, cycle_said}
use Rattle.rvt_run.specs.Lines.{line}
use Rattle.rvt_run.specs.LoopTwins.{AreLoopTwins}
use Rattle.rvt_run.specs.Report.{IsReport, IsReportAmong, AreFoundAmong}
use Rattle.rvt_run.proofs.Results.{compared_at}

abbrev partners_from : FunctionPairs → Partners
partners_from f = record { of_old = f.of_old; of_new = f.of_new }

pub none_of : {A : Type 0} (o : Option A) → ((x : A) → o ≡ Some x → ⊥) → o ≡ None
none_of None other = refl
none_of (Some x) other = absurd (other x refl)

-- the pairs by slices of what is paired
pub pairs_by : (functions : FunctionPairs) (lines' lines : List Listed) (os' os ns' ns : List Function) → functions ≡ pairs_of lines' os' ns' → lines' ≡ lines → os' ≡ os → ns' ≡ ns → functions ≡ pairs_of lines os ns
pairs_by functions lines' lines os' os ns' ns is lines_are os_are ns_are =
    is ∙ ap (λ (l : List Listed). pairs_of l os' ns') lines_are ∙ ap (λ (f : List Function). pairs_of lines f ns') os_are ∙ ap (λ (f : List Function). pairs_of lines os f) ns_are

-- a partner of a function of the new file is a function of the old one
pub partners_stand : PairsTurn → PairsStand → (lines : List Listed) (old new : List Function) (functions : FunctionPairs) (count : ℕ) → functions ≡ pairs_of lines old new → count ≡ length old → ArePartnersOf functions.of_new count
partners_stand turn stand lines old new functions count is counted g f paired =
    let there : ArePaired (pairs_of lines old new).of_new g f = subst (λ (p : FunctionPairs). ArePaired p.of_new g f) is paired in
    let low : f < length old = (stand lines old new f g ((turn lines old new f g).1 there)).0 in
    subst (λ (n : ℕ). f < n) (sym counted) low

module _ (old new : Program) (said : Entries) (partners : Partners) (joint : JointPrograms) (are : AreJointPrograms old new partners said joint) where
  -- the joint program has as many functions as the old file
  pub as_many : length joint.old.functions ≡ length old.functions
  as_many =
      sym (length-map joint.old.functions parts)
      ∙ ap (λ p. length p.functions) are.old_side
      ∙ length-map old.functions (λ f. renumbered (numbers_in (table_of_old old new partners said) (length old.table.objects)) (parts f))

  -- its functions are paired as those of the files
  pub own_pairs : (functions : FunctionPairs) → partners ≡ record { of_old = functions.of_old; of_new = functions.of_new } → joint.pairing.functions ≡ functions.of_old
  own_pairs functions same = ap (λ (p : Pairing). p.functions) are.pairing ∙ ap (λ (p : Partners). p.of_old) same

module _ {E : Type 0} (r : Result Answer E) (map_name : List ℕ) (old new : Program) (said : Entries) (known : unknown_line old new said ≡ None) (alike : unlike_line old new said ≡ None)
    (functions : FunctionPairs) (is : functions ≡ functions_of old new said) (partners : Partners) (same : partners ≡ record { of_old = functions.of_old; of_new = functions.of_new }) where
  abbrev pub Compared : Type 0
  Compared = IfOk r (λ x. IsCompared map_name old new said x.status x.lines.items)

  partners_are : partners ≡ partners_of old new said
  partners_are = same ∙ ap partners_from is

  pub too_large_at : IfOk r (λ x. x.status ≡ 3) → IfOk r (λ x. x.lines.items ≡ line (codes "the table of objects is too large") [] ∷ []) → IsJointFault old new partners said TooLarge → Compared
  too_large_at s l fault =
      compared_at r map_name old new said 3 (line (codes "the table of objects is too large") [] ∷ []) s l (too_large known alike (subst (λ (p : Partners). IsJointFault old new p said TooLarge) partners_are fault))

  pub on_cycle_at : (joint : JointPrograms) (name : List ℕ) → AreJointPrograms old new partners said joint → IsOnCycleOf functions joint name → IfOk r (λ x. x.status ≡ 3) → IfOk r (λ x. x.lines.items ≡ cycle_said name) → Compared
  on_cycle_at joint name are owner s l =
      compared_at r map_name old new said 3 (cycle_said name) s l
      (on_cycle joint name known alike (subst (λ (p : Partners). AreJointPrograms old new p said joint) partners_are are) (subst (λ (f : FunctionPairs). IsOnCycleOf f joint name) is owner))

  module _ (joint : JointPrograms) (are : AreJointPrograms old new partners said joint) (off : IsOffCycles functions joint) (twins : Option Pairing)
      (found : MatchOption twins (AreJoinable old new partners (table_of_old old new partners said) → ⊥) (λ twins. AreTwinsOver joint twins)) where
    -- the programs of these partners stand over one table
    abbrev Over : Partners → Type 0
    Over p = AreJoinable old new p (table_of_old old new p said)

    loop_twins_are : (t : Option Pairing) (left : Option Pairing) → MatchOption t (Over partners → ⊥) (λ twins. AreTwinsOver joint twins) → AreFoundAmong joint t left →
        MatchOption left (StandOverOne old new said → ⊥) (λ found. AreLoopTwins joint found)
    loop_twins_are None None none among = subst (λ (p : Partners). Over p → ⊥) partners_are none
    loop_twins_are None (Some left) none among = absurd among
    loop_twins_are (Some twins) None are_twins among = absurd among
    loop_twins_are (Some twins) (Some left) are_twins among = among

    pub reported_at : IfOk r (λ x. IsReportAmong twins functions joint x.status x.lines.items) → Compared
    reported_at = by r
      where
        by : (r : Result Answer E) → IfOk r (λ x. IsReportAmong twins functions joint x.status x.lines.items) → IfOk r (λ x. IsCompared map_name old new said x.status x.lines.items)
        by (Ok x) reports =
            reported joint known alike (subst (λ (p : Partners). AreJointPrograms old new p said joint) partners_are are) (subst (λ (f : FunctionPairs). IsOffCycles f joint) is off)
            (subst (λ (f : FunctionPairs). IsReport (StandOverOne old new said) f joint x.status x.lines.items) is
            (record { twins = reports.found; greatest = loop_twins_are twins reports.found found reports.among; report = reports.report }))
        by (Err e) reports = tt

-- ---- owners of objects, by slices of what there is

module _ (functions : FunctionPairs) (joint : JointPrograms) (os ns : List Function) (nodes : List (Option ℕ)) (os_is : os ≡ joint.old.functions) (ns_is : ns ≡ joint.new_side.functions) where
  -- the nodes are those of the owners
  pub nodes_are : (of_new : List (Option ℕ)) (old_count : ℕ) (olds news : List Object) → of_new ≡ functions.of_new → old_count ≡ length os → olds ≡ joint.old.table.objects → news ≡ joint.new_side.table.objects →
      nodes ≡ owner_nodes of_new old_count olds news → nodes ≡ owners functions joint
  nodes_are of_new old_count olds news pn counted olds_are news_are is =
      is ∙ ap (λ (p : List (Option ℕ)). owner_nodes p old_count olds news) pn
      ∙ ap (λ (n : ℕ). owner_nodes functions.of_new n olds news) (counted ∙ ap (λ (l : List Function). length l) os_is)
      ∙ ap (λ (l : List Object). owner_nodes functions.of_new (length joint.old.functions) l news) olds_are
      ∙ ap (λ (l : List Object). owner_nodes functions.of_new (length joint.old.functions) joint.old.table.objects l) news_are

  calls_are : joint_calls functions os ns ≡ calls_of_both functions joint
  calls_are = ap (λ (l : List Function). joint_calls functions l ns) os_is ∙ ap (λ (l : List Function). joint_calls functions joint.old.functions l) ns_is

  pub off_cycles : nodes ≡ owners functions joint → HasNoOwnerOnCycle (joint_calls functions os ns) nodes → IsOffCycles functions joint
  off_cycles is none = subst (λ (g : List (List ℕ)). HasNoOwnerOnCycle g (owners functions joint)) calls_are (subst (λ (l : List (Option ℕ)). HasNoOwnerOnCycle (joint_calls functions os ns) l) is none)

  pub on_cycle_of : nodes ≡ owners functions joint → (node : ℕ) (name : List ℕ) → IsFirstOwnerOnCycle (joint_calls functions os ns) nodes node → node_name os ns node ≡ Some name → IsOnCycleOf functions joint name
  on_cycle_of is node name first named = record {
    node = node;
    first = subst (λ (g : List (List ℕ)). IsFirstOwnerOnCycle g (owners functions joint) node) calls_are (subst (λ (l : List (Option ℕ)). IsFirstOwnerOnCycle (joint_calls functions os ns) l node) is first);
    named = sym (ap (λ (l : List Function). node_name l ns node) os_is ∙ ap (λ (l : List Function). node_name joint.old.functions l node) ns_is) ∙ named;
  }
