-- Pairs of names.
use Rattle.std.specs.Prelude.{ℕ, List, map, slice_get, Option, Some, option_map}
use Rattle.joint_objects.specs.declared.names.NamePair.{NamePair}

abbrev pub pair_views : List NamePair → List (List ℕ × List ℕ)
pair_views = map (λ (pair : NamePair). (pair.ours.now, pair.theirs.now))

abbrev pub our_keys : List (List ℕ × List ℕ) → List (Option (List ℕ × ℕ))
our_keys = map (λ (names : List ℕ × List ℕ). Some (names.0, 0))

abbrev pub their_keys : List (List ℕ × List ℕ) → List (Option (List ℕ × ℕ))
their_keys = map (λ (names : List ℕ × List ℕ). Some (names.1, 0))

abbrev pub their_name_at : List (List ℕ × List ℕ) → ℕ → Option (List ℕ)
their_name_at pairs number = option_map (λ names. names.1) (slice_get pairs number)
