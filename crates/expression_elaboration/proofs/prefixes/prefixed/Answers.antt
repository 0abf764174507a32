use Rattle.std.proofs.Common.{◌≡◌, ◌∙◌, ap}
use Rattle.c_syntax.specs.declared.operators.Prefix.{Prefix}
use Rattle.c_syntax.specs.declared.operators.Prefix.TheVariants as P
use Rattle.rvt_tree.specs.declared.places.Place.{Place}
use Rattle.expression_typing.specs.Entities.{Scope}
use Rattle.expression_typing.specs.Progress.{Notes}
use Rattle.expression_typing.specs.Operands.{Operand, Ends, converted_operand}
use Rattle.expression_typing.specs.Operators.{prefixed}
use Rattle.expression_typing.specs.Outcomes.{go_on, Made}
use Rattle.expression_typing.specs.UnaryArithmetic.{not_of}
use Rattle.typing_base.specs.Views.{operand_view, scope_view, notes_view}
use Rattle.place_rules.specs.Views.{ends_view}
use Rattle.expression_elaboration.proofs.Results.{gives_at}
use Rattle.expression_elaboration.proofs.prefixes.prefixed.Goals as goal

negated : (scope : Scope) (op : Prefix) (at : Place) (ends : Ends) (x y : Operand) (n m : Notes)
    → op ≡ P.Not → converted_operand scope ends x n ≡ Made y m → prefixed scope op at ends x n ≡ not_of at y m
negated scope op at ends x y n m is converted = ap (λ o. prefixed scope o at ends x n) is ∙ ap (go_on (not_of at)) converted

pub returns-in_ok-x-in-Not : goal.returns-in_ok-x-in-Not
returns-in_ok-x-in-Not c = gives_at operand_view _ (not_of c.args.at (operand_view c.in_ok-x-in-Not.x)) c.not_of.result c.converted_operand-in-Not.new.notes
    (negated (scope_view c.args.scope) c.args.op c.args.at (ends_view c.args.ends) (operand_view c.args.x) (operand_view c.in_ok-x-in-Not.x) (notes_view c.args.notes.now)
    (notes_view c.converted_operand-in-Not.new.notes) c.in-Not.is c.in_ok-x-in-Not.ensures)
    c.not_of.ensures
