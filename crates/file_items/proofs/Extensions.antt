-- Environments with more names.
use Rattle.std.proofs.Common.{◌≡◌, ◌≤◌, ℕ, suc, List, ◌∷◌, ◌++◌, map, length, take, drop, ◌-◌, ◌+◌, refl, ap, sym, ◌∙◌, arith}
use Rattle.std.proofs.lemmas.List.{map-append, take-append-drop, drop-drop, length-drop}
use Rattle.file_typing.specs.Blocks as b
use Rattle.file_typing.specs.Blocks.{with_binding}
use Rattle.name_scopes.specs.Names.{Named}
use Rattle.typing_base.specs.declared.entities.Entity.{Entity}
use Rattle.typing_base.specs.declared.scopes.Environment.{Environment}
use Rattle.typing_base.specs.Views.{binding_view, tag_view, structures_view}
use Rattle.statement_elaboration.specs.declared.blocks.Block.{Block}
use Rattle.statement_elaboration.specs.Views.{block_view, Extends}
use Rattle.file_declarations.specs.Parameters as p

-- the names of a block, and those round it
pub names_whole : (i : ℕ) (names : List (Named Entity)) → map binding_view names ≡ map binding_view (take i names) ++ map binding_view (drop i names)
names_whole i names = ap (map binding_view) (sym (take-append-drop i names)) ∙ map-append binding_view (take i names) (drop i names)

abbrev pub with_name : Environment → Named Entity → Environment
with_name e binding = record { names = binding ∷ e.names; tags = e.tags; structs = e.structs }

-- ---- one more name

module _ (e : Environment) (block : Block) where
  abbrev viewed : List (Named Entity) → List (Named Entity) → b.Block
  viewed here around =
      record {
        here = map binding_view here;
        around = map binding_view around;
        tags = map tag_view e.tags;
        structs = structures_view e.structs.items;
        result = block.result;
        in_loop = block.in_loop;
        in_switch = block.in_switch;
      }

  pub name_added : (binding : Named Entity) → block.height ≤ length e.names → block_view (with_name e binding) block ≡ with_binding (binding_view binding) (block_view e block)
  name_added binding le =
      let more : length (binding ∷ e.names) - block.height ≡ suc (length e.names - block.height) = omega (arith, le) in
      ap (λ i. viewed (take i (binding ∷ e.names)) (drop i (binding ∷ e.names))) more

-- ---- what was declared before

pub extends_same : (e : Environment) → Extends e e
extends_same e = let none : length e.names - length e.names ≡ 0 = omega arith in record { names = ap (λ i. drop i e.names) none; tags = refl; structs = refl }

pub extends_name : (e : Environment) (binding : Named Entity) → Extends e (with_name e binding)
extends_name e binding =
    let one : length (binding ∷ e.names) - length e.names ≡ 1 = omega arith in
    record { names = ap (λ i. drop i (binding ∷ e.names)) one; tags = refl; structs = refl }

pub extends_within : (old new : Environment) → Extends old new → length old.names ≤ length new.names
extends_within old new x =
    let n : length new.names - (length new.names - length old.names) ≡ length old.names = sym (length-drop (length new.names - length old.names) new.names) ∙ ap length x.names in
    omega (arith, n)

pub extends_more : (old mid new : Environment) → Extends old mid → Extends mid new → Extends old new
extends_more old mid new x y =
    let below : length old.names ≤ length mid.names = extends_within old mid x in
    let above : length mid.names ≤ length new.names = extends_within mid new y in
    let all : length new.names - length mid.names + (length mid.names - length old.names) ≡ length new.names - length old.names = omega (arith, below, above) in
    record {
      names = ap (λ i. drop i new.names) (sym all) ∙ sym (drop-drop (length mid.names - length old.names) (length new.names - length mid.names) new.names)
          ∙ ap (drop (length mid.names - length old.names)) y.names ∙ x.names;
      tags = y.tags ∙ x.tags;
      structs = y.structs ∙ x.structs;
    }

-- the parameters extend what was declared before as the names of a block do
pub extends_by_parameters : (old new : Environment) → p.Extends old new → Extends old new
extends_by_parameters old new x = record { names = x.names; tags = x.tags; structs = x.structs }

-- the names of a block are forgotten
pub left_again : (old new : Environment) → Extends old new
    → record { names = drop (length new.names - length old.names) new.names; tags = new.tags; structs = new.structs } ≡ old
left_again old new x =
    ap (λ names. record { names = names; tags = new.tags; structs = new.structs }) x.names
    ∙ ap (λ tags. record { names = old.names; tags = tags; structs = new.structs }) x.tags
    ∙ ap (λ structs. record { names = old.names; tags = old.tags; structs = structs }) x.structs
