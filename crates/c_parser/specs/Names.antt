-- Sets of names by number, as ascending lists.
use Rattle.std.specs.Prelude.{ℕ, Bool, List, [], ◌∷◌}
use Rattle.std.specs.List.{list_any}
use Rattle.std.specs.Ordering.{is_eq, nat_cmp}
use Rattle.std.specs.BTreeSet.{insert_key}

abbrev pub is_among : ℕ → List ℕ → Bool
is_among name names = list_any (λ other. is_eq (nat_cmp name other)) names

abbrev pub with_name : ℕ → List ℕ → List ℕ
with_name name names = insert_key nat_cmp names name

-- with each of these names too
abbrev pub with_names : List ℕ → List ℕ → List ℕ
with_names [] names = names
with_names (name ∷ more) names = with_names more (with_name name names)
