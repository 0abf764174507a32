-- The block that begins behind what a file has declared.
use Rattle.std.proofs.Common.{◌≡◌, ℕ, List, [], ◌∷◌, map, length, take, drop, ◌-◌, false, Option, refl, ap, sym, ◌∙◌, arith}
use Rattle.rvt_num.specs.declared.kinds.Kind.{Kind}
use Rattle.expression_typing.specs.Entities as n
use Rattle.file_typing.specs.Blocks.{Block}
use Rattle.file_typing.specs.FileScope.{StructEntry}
use Rattle.file_typing.specs.FunctionDefinitions.{outermost}
use Rattle.typing_base.specs.declared.structures.Structure.{Structure}
use Rattle.typing_base.specs.Views.{binding_view, structure_view, structures_view, tag_view}
use Rattle.file_state.specs.declared.states.FileState.{FileState}
use Rattle.file_state.specs.Views.{file_state_view, struct_entry_view}
use Rattle.file_declarations.specs.Parameters.{parameters_view}

structures_are : (structs : List Structure) → map (λ (entry : StructEntry). entry.structure) (map struct_entry_view structs) ≡ map structure_view structs
structures_are [] = refl
structures_are (s ∷ structs) = ap (λ rest. structure_view s ∷ rest) (structures_are structs)

module _ (state : FileState) (result : Option Kind) where
  abbrev outer : ℕ → List n.Structure → Block
  outer i structs =
      record {
        here = map binding_view (take i state.environment.names);
        around = map binding_view (drop i state.environment.names);
        tags = map tag_view state.environment.tags;
        structs = structs;
        result = result;
        in_loop = false;
        in_switch = false;
      }

  pub outermost_view : parameters_view state.environment (length state.environment.names) result ≡ outermost (file_state_view state) result
  outermost_view =
      let none : length state.environment.names - length state.environment.names ≡ 0 = omega arith in
      ap (λ i. outer i (structures_view state.environment.structs.items)) none ∙ ap (outer 0) (sym (structures_are state.environment.structs.items))
