-- The parts of a file's state, in the words of the definition.
use Rattle.std.proofs.Common.{◌≡◌, List, [], ◌∷◌, map, refl, ap}
use Rattle.typing_base.specs.declared.structures.Structure.{Structure}
use Rattle.typing_base.specs.Views.{structure_view}
use Rattle.file_state.specs.Views.{struct_entry_view}
use Rattle.file_typing.specs.FileScope.{StructEntry}

pub structures_are : (structs : List Structure) → map (λ (entry : StructEntry). entry.structure) (map struct_entry_view structs) ≡ map structure_view structs
structures_are [] = refl
structures_are (s ∷ structs) = ap (λ rest. structure_view s ∷ rest) (structures_are structs)
