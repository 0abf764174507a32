-- A map that is being read, with the names that stand in it.
use Rattle.std.specs.Prelude.{◌≡◌}
use Rattle.version_map.specs.declared.drafts.Pairs.{Pairs}
use Rattle.version_map.specs.declared.drafts.Draft.{Draft}
use Rattle.version_map.specs.Maps.{Entries, old_names, new_names, object_names}

-- the names of the entries are those of the indexes
pub record ArePairs (pairs : Pairs) : Type 0 where
  pub olds : pairs.olds ≡ old_names pairs.entries.items
  pub news : pairs.news ≡ new_names pairs.entries.items

pub record IsDraft (draft : Draft) : Type 0 where
  pub functions : ArePairs draft.functions
  pub globals : ArePairs draft.globals
  pub objects : draft.objects.names ≡ object_names draft.objects.entries.items

abbrev pub drafted : Draft → Entries
drafted draft = record { functions = draft.functions.entries.items; globals = draft.globals.entries.items; objects = draft.objects.entries.items }
