use Rattle.std.proofs.Common.{◌∙◌, ap}
use Rattle.expression_typing.specs.Outcomes.{Made}
use Rattle.typing_base.specs.Views.{notes_view}
use Rattle.statement_elaboration.proofs.Lists.{acts_are}
use Rattle.statement_elaboration.proofs.acts.typed_last.Goals as goal

pub returns : goal.returns
returns c = rw c.in_ok-actions.ensures (c.in_ok-made.ensures ∙ ap (λ l. Made l (notes_view c.typed_actions.new.notes)) (acts_are c.in_ok-made.made.items))
