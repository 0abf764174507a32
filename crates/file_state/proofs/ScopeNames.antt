-- The names of a scope.
use Rattle.std.proofs.Common.{◌≡◌, ℕ, List, [], ◌∷◌, map, length, take, ◌-◌, refl, ap, ◌∙◌, arith}
use Rattle.std.specs.List.{list_any}
use Rattle.std.specs.Str.{bytes_eq}
use Rattle.std.proofs.lemmas.Cmp.{nat_list_eq_equiv}
use Rattle.file_typing.specs.Blocks.{is_declared}
use Rattle.name_scopes.specs.Names.{Named}
use Rattle.typing_base.specs.declared.entities.Entity.{Entity}
use Rattle.typing_base.specs.Views.{binding_view}

pub any_of : (names : List (Named Entity)) (name : List ℕ) → is_declared (map binding_view names) name ≡ list_any (λ (binding : Named Entity). bytes_eq name binding.name) names
any_of [] name = refl
any_of (b ∷ names) name = rw (nat_list_eq_equiv.symm b.name name, any_of names name) refl

taken_whole : {A : Type 0} (xs : List A) → take (length xs) xs ≡ xs
taken_whole [] = refl
taken_whole (x ∷ xs) = ap (λ rest. x ∷ rest) (taken_whole xs)

pub all_of : (names : List (Named Entity)) → take (length names - 0) names ≡ names
all_of names =
    let n : length names - 0 ≡ length names = omega arith in
    ap (λ i. take i names) n ∙ taken_whole names
