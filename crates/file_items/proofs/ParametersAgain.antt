-- The parameters of a header, found behind it, and declared once more.
use Rattle.std.proofs.Common.{◌≡◌, ℕ, List, Bool, map, length, ◌-◌, Option, ap, sym, ◌∙◌}
use Rattle.rvt_num.specs.declared.kinds.Kind.{Kind}
use Rattle.c_syntax.specs.Syntax as s
use Rattle.expression_typing.specs.Entities.{Binding}
use Rattle.expression_typing.specs.Progress.{Notes}
use Rattle.expression_typing.specs.Outcomes.{Made}
use Rattle.file_typing.specs.Blocks.{Block}
use Rattle.file_typing.specs.FunctionDeclarators.{typed_parameters}
use Rattle.file_typing.specs.FunctionDefinitions.{outermost}
use Rattle.typing_base.specs.declared.scopes.Environment.{Environment}
use Rattle.typing_base.specs.Views.{binding_view}
use Rattle.file_state.specs.declared.states.FileState.{FileState}
use Rattle.file_state.specs.Views.{file_state_view}
use Rattle.file_items.specs.declared.parameters.Parameter.{Parameter}
use Rattle.file_items.specs.FunctionHeaders.{bindings_in, block_of_parameters, list_of, parameter_binding, with_bindings}
use Rattle.file_declarations.specs.Parameters.{parameters_view}
use Rattle.file_items.proofs.Extensions.{names_whole}
use Rattle.file_items.proofs.OutermostViews.{outermost_view}
use Rattle.file_items.proofs.Redeclared.{redeclared}

module _ (state : FileState) (height : ℕ) (kind : Option Kind) (begins : height ≡ length state.environment.names) where
  pub outermost_at : parameters_view state.environment height kind ≡ outermost (file_state_view state) kind
  outermost_at = ap (λ h. parameters_view state.environment h kind) begins ∙ outermost_view state kind

  pub parameters_again : (with_names : Bool) (after : Environment) (params : s.Parameters) (n m : Notes) (found : List Parameter)
      → typed_parameters with_names (parameters_view state.environment height kind) params n ≡ Made (parameters_view after height kind) m
      → map parameter_binding found ≡ bindings_in (map binding_view after.names) (list_of params)
      → typed_parameters with_names (outermost (file_state_view state) kind) params n ≡ Made (block_of_parameters (file_state_view state) kind found) m
  parameters_again with_names after params n m found typed are =
      let whole : typed_parameters with_names (outermost (file_state_view state) kind) params n ≡ Made (parameters_view after height kind) m =
      ap (λ (b : Block). typed_parameters with_names b params n) (sym outermost_at) ∙ typed in
      whole
      ∙ ap (λ (b : Block). Made b m)
      (sym (redeclared with_names (outermost (file_state_view state) kind) (parameters_view after height kind) params n m whole)
      ∙ ap (λ (names : List Binding). with_bindings (bindings_in names (list_of params)) (outermost (file_state_view state) kind)) (sym (names_whole (length after.names - height) after.names))
      ∙ ap (λ (bindings : List Binding). with_bindings bindings (outermost (file_state_view state) kind)) (sym are))

  pub block_again : (parameters lent : List Parameter) (block : Block) → lent ≡ parameters
      → block ≡ with_bindings (map parameter_binding lent) (parameters_view state.environment height kind)
      → block_of_parameters (file_state_view state) kind parameters ≡ block
  block_again parameters lent block same is =
      ap (with_bindings (map parameter_binding parameters)) (sym outermost_at)
      ∙ ap (λ (ps : List Parameter). with_bindings (map parameter_binding ps) (parameters_view state.environment height kind)) (sym same)
      ∙ sym is
