-- The names of a block, and those round it.
use Rattle.std.proofs.Common.{◌≡◌, ℕ, List, [], ◌∷◌, ◌++◌, map, length, take, drop, ◌-◌, true, refl, ap, sym, ◌∙◌, arith}
use Rattle.std.specs.List.{list_any}
use Rattle.std.specs.Str.{bytes_eq}
use Rattle.std.proofs.lemmas.List.{map-append, take-append-drop}
use Rattle.std.proofs.lemmas.Cmp.{nat_list_eq_equiv}
use Rattle.expression_typing.specs.Entities as n
use Rattle.file_typing.specs.Blocks as b
use Rattle.file_typing.specs.Blocks.{scope_of, inside, is_declared, with_binding}
use Rattle.name_scopes.specs.Names.{Named}
use Rattle.typing_base.specs.declared.entities.Entity.{Entity}
use Rattle.typing_base.specs.declared.scopes.Environment.{Environment}
use Rattle.typing_base.specs.Views.{binding_view, environment_view, tag_view, structures_view}
use Rattle.statement_elaboration.specs.declared.blocks.Block.{Block}
use Rattle.statement_elaboration.specs.Views.{block_view}

names_whole : (i : ℕ) (names : List (Named Entity)) → map binding_view names ≡ map binding_view (take i names) ++ map binding_view (drop i names)
names_whole i names = ap (map binding_view) (sym (take-append-drop i names)) ∙ map-append binding_view (take i names) (drop i names)

pub scope_is : (e : Environment) (block : Block) → environment_view e true ≡ scope_of (block_view e block)
scope_is e block =
    ap (λ (names : List n.Binding). record { names = names; tags = map tag_view e.tags; structs = structures_view e.structs.items; evaluated = true }) (names_whole (length e.names - block.height) e.names)

-- ---- a block in a block

module _ (e : Environment) (outer : Block) where
  abbrev inner_view : ℕ → List n.Binding → b.Block
  inner_view i around =
      record {
        here = map binding_view (take i e.names);
        around = around;
        tags = map tag_view e.tags;
        structs = structures_view e.structs.items;
        result = outer.result;
        in_loop = outer.in_loop;
        in_switch = outer.in_switch;
      }

  none_above : length e.names - length e.names ≡ 0
  none_above = omega arith

  pub inside_view : block_view e (record { height = length e.names; result = outer.result; in_loop = outer.in_loop; in_switch = outer.in_switch }) ≡ inside (block_view e outer)
  inside_view =
      ap (λ i. inner_view i (map binding_view (drop i e.names))) none_above
      ∙ ap (λ around. inner_view 0 around) (names_whole (length e.names - outer.height) e.names)

-- ---- names of the block itself

any_of : (names : List (Named Entity)) (name : List ℕ) → is_declared (map binding_view names) name ≡ list_any (λ (binding : Named Entity). bytes_eq name binding.name) names
any_of [] name = refl
any_of (b ∷ names) name = rw (nat_list_eq_equiv.symm b.name name, any_of names name) refl

pub declared_in : (names : List (Named Entity)) (name : List ℕ) → is_declared (map binding_view names) name ≡ list_any (λ (binding : Named Entity). bytes_eq name binding.name) names
declared_in = any_of
