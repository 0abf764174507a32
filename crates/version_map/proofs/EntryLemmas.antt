-- Names in an index.
use Rattle.std.proofs.Common.{◌≡◌, ℕ, Bool, List, [], ◌∷◌, map, refl, ap}
use Rattle.std.specs.Prelude.{◌||◌}
use Rattle.std.specs.Borrow.{Bor}
use Rattle.std.specs.List.{list_any}
use Rattle.std.specs.Str.{bytes_eq}
use Rattle.version_map.specs.Maps.{stands_among}

pub among_shown : (name : List ℕ) (keys : List (Bor (List ℕ))) → list_any (λ key. bytes_eq name key.now) keys ≡ stands_among name (map (λ key. key.now) keys)
among_shown name [] = refl
among_shown name (key ∷ keys) = ap (λ (b : Bool). bytes_eq name key.now || b) (among_shown name keys)
