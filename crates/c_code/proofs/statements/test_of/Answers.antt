use Rattle.std.proofs.Common.{◌++◌, [], ◌∷◌, refl, sym, ap, ◌∙◌}
use Rattle.std.specs.Prelude.{option_map}
use Rattle.rvt_tree.specs.Views.{expr_view}
use Rattle.c_code.specs.Statements.{test_code}
use Rattle.c_code.proofs.Choices.{on_ok}
use Rattle.c_code.proofs.statements.test_of.Goals as goal

pub returns-in-None : goal.returns-in-None
returns-in-None c =
    on_ok c.put.result (λ e. e ∙ ap (λ i. c.args.code.now.items ++ i ∷ []) (c.truth.ensures 1 refl) ∙ ap (λ test. c.args.code.now.items ++ test_code (option_map expr_view test)) (sym c.in-None.is)) c.put.ensures
