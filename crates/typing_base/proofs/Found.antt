-- What names and tags stand for, in the words of the definition.
use Rattle.std.proofs.Common.{◌≡◌, ℕ, List, [], ◌∷◌, map, Option, Some, option_map, Bool, true, false, cond, refl}
use Rattle.std.proofs.lemmas.Cmp.{nat_list_eq_equiv}
use Rattle.expression_typing.specs.Entities.{in_scope, tag_in}
use Rattle.name_scopes.specs.Names.{Named, named_in}
use Rattle.typing_base.specs.declared.entities.Entity.{Entity}
use Rattle.typing_base.specs.declared.entities.Tagged.{Tagged}
use Rattle.typing_base.specs.Views.{entity_view, tagged_view, binding_view, tag_view}

chosen : {A B : Type 0} (f : A → B) (p q : Bool) → p ≡ q → (x : A) (rest : Option A) (rest' : Option B)
    → rest' ≡ option_map f rest → cond p (Some (f x)) rest' ≡ option_map f (cond q (Some x) rest)
chosen f p true e x rest rest' r = rw e
chosen f p false e x rest rest' r = rw e r

pub entity_found : (bindings : List (Named Entity)) (name : List ℕ)
    → in_scope (map binding_view bindings) name ≡ option_map entity_view (named_in bindings name)
entity_found [] name = refl
entity_found (b ∷ bs) name = chosen entity_view _ _ (nat_list_eq_equiv.symm b.name name) b.value _ _ (entity_found bs name)

pub tag_found : (tags : List (Named Tagged)) (name : List ℕ)
    → tag_in (map tag_view tags) name ≡ option_map tagged_view (named_in tags name)
tag_found [] name = refl
tag_found (t ∷ ts) name = chosen tagged_view _ _ (nat_list_eq_equiv.symm t.name name) t.value _ _ (tag_found ts name)
