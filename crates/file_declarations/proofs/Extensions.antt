-- Environments with more names.
use Rattle.std.proofs.Common.{◌≡◌, ◌≤◌, ℕ, suc, List, ◌∷◌, ◌++◌, map, length, take, drop, ◌-◌, ◌+◌, false, true, Option, refl, ap, sym, ◌∙◌, arith}
use Rattle.std.proofs.lemmas.List.{map-append, take-append-drop, drop-drop, length-drop}
use Rattle.rvt_num.specs.declared.kinds.Kind.{Kind}
use Rattle.expression_typing.specs.Entities as n
use Rattle.file_typing.specs.Blocks as b
use Rattle.file_typing.specs.Blocks.{scope_of, with_binding}
use Rattle.name_scopes.specs.Names.{Named}
use Rattle.typing_base.specs.declared.entities.Entity.{Entity}
use Rattle.typing_base.specs.declared.scopes.Environment.{Environment}
use Rattle.typing_base.specs.Views.{binding_view, environment_view, tag_view, structures_view}
use Rattle.file_declarations.specs.Parameters.{parameters_view, Extends}

names_whole : (i : ℕ) (names : List (Named Entity)) → map binding_view names ≡ map binding_view (take i names) ++ map binding_view (drop i names)
names_whole i names = ap (map binding_view) (sym (take-append-drop i names)) ∙ map-append binding_view (take i names) (drop i names)

pub scope_is : (e : Environment) (height : ℕ) (result : Option Kind) → environment_view e true ≡ scope_of (parameters_view e height result)
scope_is e height result =
    ap (λ (names : List n.Binding). record { names = names; tags = map tag_view e.tags; structs = structures_view e.structs.items; evaluated = true }) (names_whole (length e.names - height) e.names)

abbrev pub with_name : Environment → Named Entity → Environment
with_name e binding = record { names = binding ∷ e.names; tags = e.tags; structs = e.structs }

-- ---- one more name

module _ (e : Environment) (height : ℕ) (result : Option Kind) where
  abbrev viewed : List (Named Entity) → List (Named Entity) → b.Block
  viewed here around =
      record {
        here = map binding_view here;
        around = map binding_view around;
        tags = map tag_view e.tags;
        structs = structures_view e.structs.items;
        result = result;
        in_loop = false;
        in_switch = false;
      }

  pub name_added : (binding : Named Entity) → height ≤ length e.names → parameters_view (with_name e binding) height result ≡ with_binding (binding_view binding) (parameters_view e height result)
  name_added binding le =
      let more : length (binding ∷ e.names) - height ≡ suc (length e.names - height) = omega (arith, le) in
      ap (λ i. viewed (take i (binding ∷ e.names)) (drop i (binding ∷ e.names))) more

-- ---- what was declared before

pub extends_same : (e : Environment) → Extends e e
extends_same e = let none : length e.names - length e.names ≡ 0 = omega arith in record { names = ap (λ i. drop i e.names) none; tags = refl; structs = refl }

pub extends_name : (e : Environment) (binding : Named Entity) → Extends e (with_name e binding)
extends_name e binding =
    let one : length (binding ∷ e.names) - length e.names ≡ 1 = omega arith in
    record { names = ap (λ i. drop i (binding ∷ e.names)) one; tags = refl; structs = refl }

pub extends_within : (old new : Environment) → Extends old new → length old.names ≤ length new.names
extends_within old new x =
    let n : length new.names - (length new.names - length old.names) ≡ length old.names = sym (length-drop (length new.names - length old.names) new.names) ∙ ap length x.names in
    omega (arith, n)

pub extends_more : (old mid new : Environment) → Extends old mid → Extends mid new → Extends old new
extends_more old mid new x y =
    let below : length old.names ≤ length mid.names = extends_within old mid x in
    let above : length mid.names ≤ length new.names = extends_within mid new y in
    let all : length new.names - length mid.names + (length mid.names - length old.names) ≡ length new.names - length old.names = omega (arith, below, above) in
    record {
      names = ap (λ i. drop i new.names) (sym all) ∙ sym (drop-drop (length mid.names - length old.names) (length new.names - length mid.names) new.names)
          ∙ ap (drop (length mid.names - length old.names)) y.names ∙ x.names;
      tags = y.tags ∙ x.tags;
      structs = y.structs ∙ x.structs;
    }
