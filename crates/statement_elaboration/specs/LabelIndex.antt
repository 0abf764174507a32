-- Labels by their values.
use Rattle.std.specs.Prelude.{ℤ, Bool, List}
use Rattle.std.specs.List.{list_any}
use Rattle.std.specs.Ordering.{int_eq}
use Rattle.rvt_tree.specs.declared.statements.Label.{Label}
use Rattle.rvt_tree.specs.declared.statements.Label.TheVariants.{Case, Default}

-- whether a label is among those that have these values, and maybe `default`
abbrev pub is_indexed : List ℤ → Bool → Label → Bool
is_indexed values has_default (Case n) = list_any (int_eq n.value) values
is_indexed values has_default Default = has_default
