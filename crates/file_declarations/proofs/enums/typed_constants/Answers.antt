use Rattle.std.proofs.Common.{rules, ◌∙◌, SFits, to_z-of_z}
use Rattle.std.specs.Int.{w128}
use Rattle.std.specs.Prelude.{ℤ}
use Rattle.typing_base.specs.Views.{notes_view}
use Rattle.file_state.specs.Views.{file_state_view}
use Rattle.file_declarations.proofs.ConstantSteps.{next_constant, constant_fails}
use Rattle.file_declarations.proofs.Rules.{err_of}
use Rattle.file_declarations.proofs.enums.typed_constants.Goals as goal

pub returns-in_err-later-clause-typed : goal.returns-in_err-later-clause-typed
returns-in_err-later-clause-typed c =
    rw (err_of c.in_err-later.field-0.0 c.from_residual.result c.from_residual.ensures.1)
    (constant_fails (λ (later : ℤ). (file_state_view c.one_constant.new.state, later)) (λ (_ : Unit {0}). file_state_view c.one_constant.new.state) _
    (file_state_view c.constants.state) _ c.constants.rest.now c.one-item.result (notes_view c.constants.notes)
    c.in_err-later.field-0.0 c.one_constant.new.notes _ c.in-len1-up.len_at_least c.one-item.is c.constants.invariant.same_outcome c.in_err-later.ensures.typed)

pub constants-preserved : goal.constants-preserved
constants-preserved c =
    let fits : SFits w128 c.in_ok-later.later = search rules in
    record {
      indexed = c.in_ok-later.ensures.indexed;
      same_outcome = c.constants.invariant.same_outcome
          ∙ next_constant (file_state_view c.constants.state) (file_state_view c.one_constant.new.state) _ _ c.in_ok-later.later c.constants.rest.now c.one-item.result
          (notes_view c.constants.notes) (notes_view c.one_constant.new.notes) c.in-len1-up.len_at_least c.one-item.is c.in_ok-later.ensures.typed (to_z-of_z fits);
    }
