use Rattle.std.proofs.Common.{Some, ap}
use Rattle.c_syntax.specs.declared.bases.Specifier.TheVariants as S
use Rattle.c_syntax.specs.Views.{body_view}
use Rattle.file_typing.specs.Items.{based_on, other_base}
use Rattle.typing_base.specs.Views.{qualified_view}
use Rattle.file_state.specs.Views.{file_state_view}
use Rattle.file_items.proofs.Steps.{becomes_by_rule}
use Rattle.file_items.proofs.bases.enum_with_body.Goals as goal

pub returns-in-Fields-clause-based : goal.returns-in-Fields-clause-based
returns-in-Fields-clause-based c =
    let file = file_state_view c.args.state.now in
    let base = c.args.base.now in
    becomes_by_rule (λ type. record { file = file; type = qualified_view type }) (based_on file base (S.Enum c.args.tag.now) (Some (body_view c.args.body.now))) (other_base file base) c.other_base.result c.args.notes.now
    (ap (λ body. based_on file base (S.Enum c.args.tag.now) (Some (body_view body))) c.in-Fields.is) c.other_base.ensures
