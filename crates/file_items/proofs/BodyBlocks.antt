-- The block of a body, behind the header of its function.
use Rattle.std.proofs.Common.{◌≡◌, ℕ, List, [], ◌∷◌, map, false, Option, Some, None, refl, ap, sym, ◌∙◌}
use Rattle.rvt_num.specs.declared.kinds.Kind.{Kind}
use Rattle.c_syntax.specs.declared.bases.Word.{Word}
use Rattle.expression_typing.specs.Entities as n
use Rattle.expression_typing.specs.Entities.{Binding, Entity, in_scope}
use Rattle.file_typing.specs.Blocks.{Block}
use Rattle.file_typing.specs.FileScope.{FileScope, Interface, StructEntry, structures, function_number}
use Rattle.file_typing.specs.FunctionDeclarators.{function_declared, named_function, with_function, number_of_function}
use Rattle.file_typing.specs.FunctionDefinitions.{block_of_body, outermost}
use Rattle.file_items.specs.FunctionHeaders.{with_bindings}

-- ---- a function that is declared changes neither tags nor structs

module _ (word : Word) (interface : Interface) (number : ℕ) (file : FileScope) where
  named_tags : (entity : Option Entity) → (named_function word number interface entity file).tags ≡ file.tags
  named_tags None = refl
  named_tags (Some entity) = refl

  named_structs : (entity : Option Entity) → (named_function word number interface entity file).structs ≡ file.structs
  named_structs None = refl
  named_structs (Some entity) = refl

with_function_tags : (word : Word) (file : FileScope) → (with_function word file).tags ≡ file.tags
with_function_tags word file = cases (function_number file.functions word.name) refl
  where
    cases : (o : Option ℕ) → function_number file.functions word.name ≡ o → (with_function word file).tags ≡ file.tags
    cases None e = rw e refl
    cases (Some number) e = rw e refl

with_function_structs : (word : Word) (file : FileScope) → (with_function word file).structs ≡ file.structs
with_function_structs word file = cases (function_number file.functions word.name) refl
  where
    cases : (o : Option ℕ) → function_number file.functions word.name ≡ o → (with_function word file).structs ≡ file.structs
    cases None e = rw e refl
    cases (Some number) e = rw e refl

pub tags_kept : (word : Word) (interface : Interface) (file : FileScope) → (function_declared word interface file).tags ≡ file.tags
tags_kept word interface file =
    named_tags word interface (number_of_function (with_function word file) word) (with_function word file) (in_scope (with_function word file).names word.name)
    ∙ with_function_tags word file

pub structs_kept : (word : Word) (interface : Interface) (file : FileScope) → (function_declared word interface file).structs ≡ file.structs
structs_kept word interface file =
    named_structs word interface (number_of_function (with_function word file) word) (with_function word file) (in_scope (with_function word file).names word.name)
    ∙ with_function_structs word file

-- ---- the block of a body

module _ (around : List Binding) (tags : List n.Tag) (structs : List n.Structure) (result : Option Kind) where
  abbrev block_round : List Binding → List Binding → Block
  block_round here others = record { here = here; around = others; tags = tags; structs = structs; result = result; in_loop = false; in_switch = false }

  -- what is round a block is not seen by the names that are declared in it
  moved : (bindings here others : List Binding)
      → record {
        here = (with_bindings bindings (block_round here others)).here;
        around = around;
        tags = (with_bindings bindings (block_round here others)).tags;
        structs = (with_bindings bindings (block_round here others)).structs;
        result = (with_bindings bindings (block_round here others)).result;
        in_loop = false;
        in_switch = false;
      }
      ≡ with_bindings bindings (block_round here around)
  moved [] here others = refl
  moved (binding ∷ rest) here others = moved rest (binding ∷ here) others

pub block_behind : (before after : FileScope) (result : Option Kind) (bindings : List Binding) (interface : Interface) → after.tags ≡ before.tags → after.structs ≡ before.structs
    → block_of_body (record { file = after; block = with_bindings bindings (outermost before result); interface = interface }) ≡ with_bindings bindings (outermost after result)
block_behind before after result bindings interface tags structs =
    moved after.names before.tags (structures before) result bindings [] before.names
    ∙ ap (λ (ts : List n.Tag). with_bindings bindings (record { here = []; around = after.names; tags = ts; structs = structures before; result = result; in_loop = false; in_switch = false })) (sym tags)
    ∙ ap (λ (ss : List StructEntry). with_bindings bindings (record { here = []; around = after.names; tags = after.tags; structs = map (λ (entry : StructEntry). entry.structure) ss; result = result; in_loop = false; in_switch = false })) (sym structs)
