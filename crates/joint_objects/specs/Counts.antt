-- Declarations with how many of their name stand before them.
use Rattle.std.specs.Prelude.{◌≡◌, ℕ, List, map, Option, Some, unwrap_or}
use Rattle.std.specs.Borrow.{Bor}
use Rattle.std.specs.Str.{bytes_eq}
use Rattle.indexmap.specs.IndexMap.{IndexMap, get_by}
use Rattle.rvt_tree.specs.declared.programs.Local.{Local}
use Rattle.joint_objects.specs.declared.declarations.Declared.{Declared}
use Rattle.joint_objects.specs.Locals.{Declaration, count_of}

abbrev pub declared_view : Declared → Declaration
declared_view d = record { local = d.local.now; before = d.before }

abbrev pub declared_views : List Declared → List Declaration
declared_views = map declared_view

abbrev pub locals_declared : List Declared → List Local
locals_declared = map (λ (d : Declared). d.local.now)

abbrev pub declaration_key : Declaration → List ℕ × ℕ
declaration_key d = (d.local.name, d.before)

abbrev pub declaration_keys : List Declaration → List (Option (List ℕ × ℕ))
declaration_keys = map (λ (d : Declaration). Some (declaration_key d))

-- the table has the number of declarations of each name
abbrev pub AreCounts : {S : Type 0} → IndexMap (Bor (List ℕ)) ℕ S → List Declared → Type 0
AreCounts table list = (name : List ℕ) → unwrap_or (get_by (λ key. bytes_eq name key.now) table) 0 ≡ count_of name (locals_declared list)
