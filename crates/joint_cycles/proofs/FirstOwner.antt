-- The first owner whose flag is set, where flags tell what is on a cycle.
use Rattle.std.proofs.Common.{◌≡◌, ◌↔◌, ℕ, zero, suc, ◌<◌, Bool, true, false, List, [], ◌∷◌, Option, Some, None, slice_get, MatchOption, refl, sym, ap, ◌∙◌, subst, arith}
use Rattle.std.specs.Option.{option_or}
use Rattle.call_graph.specs.Graphs.{At}
use Rattle.graph_marks.specs.Cycles.{IsOnCycle}
use Rattle.joint_cycles.specs.Owners.{HasNoOwnerOnCycle, IsFirstOwnerOnCycle, owner_if, if_set, first_among}

abbrev Answer : List (List ℕ) → List (Option ℕ) → Option ℕ → Type 0
Answer graph owners found = MatchOption found (HasNoOwnerOnCycle graph owners) (IsFirstOwnerOnCycle graph owners)

module _ (graph : List (List ℕ)) where
  -- an owner in front that is on no cycle
  behind : (owner : Option ℕ) (rest : List (Option ℕ)) → ((node : ℕ) → owner ≡ Some node → IsOnCycle graph node → ⊥) →
      (found : Option ℕ) → Answer graph rest found → Answer graph (owner ∷ rest) found
  behind owner rest not None none = none_there
    where
      none_there : HasNoOwnerOnCycle graph (owner ∷ rest)
      none_there zero other h on = let is : owner ≡ Some other = (let both : Some owner ≡ Some (Some other) = h in cc) in not other is on
      none_there (suc place) other h on = none place other h on
  behind owner rest not (Some node) first = record { place = suc first.place; is_there = first.is_there; on_cycle = first.on_cycle; first = none_before }
    where
      none_before : (earlier other : ℕ) → earlier < suc first.place → At (owner ∷ rest) earlier (Some other) → IsOnCycle graph other → ⊥
      none_before zero other low h on = let is : owner ≡ Some other = (let both : Some owner ≡ Some (Some other) = h in cc) in not other is on
      none_before (suc earlier) other low h on = let less : earlier < first.place = omega (arith, low) in first.first earlier other less h on

  -- an owner in front that is on a cycle
  in_front : (node : ℕ) (rest : List (Option ℕ)) → IsOnCycle graph node → IsFirstOwnerOnCycle graph (Some node ∷ rest) node
  in_front node rest on = record { place = 0; is_there = refl; on_cycle = on; first = λ earlier other low. absurd (let no : ⊥ = omega (arith, low) in no) }

  module _ (flags : List Bool) (told : (node : ℕ) → At flags node true ↔ IsOnCycle graph node) where
    by_flag : (node : ℕ) (rest : List (Option ℕ)) (flag : Option Bool) → slice_get flags node ≡ flag →
        Answer graph rest (first_among flags rest) → Answer graph (Some node ∷ rest) (option_or (owner_if flag node) (first_among flags rest))
    by_flag node rest (Some true) is later = in_front node rest ((told node).0 is)
    by_flag node rest (Some false) is later =
        behind (Some node) rest (λ other same on. let set : slice_get flags node ≡ Some true = (let equal : other ≡ node = cc in (told node).1 (subst (IsOnCycle graph) equal on)) in cc) (first_among flags rest) later
    by_flag node rest None is later =
        behind (Some node) rest (λ other same on. let set : slice_get flags node ≡ Some true = (let equal : other ≡ node = cc in (told node).1 (subst (IsOnCycle graph) equal on)) in cc) (first_among flags rest) later

    pub first_owner : (owners : List (Option ℕ)) → Answer graph owners (first_among flags owners)
    first_owner [] = λ place owner h on. let no : None ≡ Some (Some owner) = h in cc
    first_owner (None ∷ rest) = behind None rest (λ node same on. cc) (first_among flags rest) (first_owner rest)
    first_owner (Some node ∷ rest) = by_flag node rest (slice_get flags node) refl (first_owner rest)
