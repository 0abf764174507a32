use Rattle.std.proofs.Common.{None, option_map, ap, ◌∙◌}
use Rattle.c_syntax.specs.declared.bases.Specifier.TheVariants as S
use Rattle.c_syntax.specs.Views.{body_view}
use Rattle.file_typing.specs.Items.{based_on, other_base}
use Rattle.typing_base.specs.Views.{qualified_view}
use Rattle.file_state.specs.Views.{file_state_view}
use Rattle.file_items.proofs.Steps.{becomes_by_rule}
use Rattle.file_items.proofs.bases.based_on.Goals as goal

pub returns-in-None-tag-clause-based : goal.returns-in-None-tag-clause-based
returns-in-None-tag-clause-based c =
    let file = file_state_view c.args.state.now in
    let base = c.args.base.now in
    becomes_by_rule (λ type. record { file = file; type = qualified_view type }) (based_on file base c.args.specifier.now (option_map body_view c.args.body.now)) (other_base file base) c.other_base.result c.args.notes.now
    (ap (λ specifier. based_on file base specifier (option_map body_view c.args.body.now)) (c.in-Struct.is ∙ ap S.Struct c.in-None-tag.is)
    ∙ ap (λ body. based_on file base (S.Struct None) (option_map body_view body)) c.in-None.is)
    c.other_base.ensures

pub returns-in-None-body-clause-based : goal.returns-in-None-body-clause-based
returns-in-None-body-clause-based c =
    let file = file_state_view c.args.state.now in
    let base = c.args.base.now in
    becomes_by_rule (λ type. record { file = file; type = qualified_view type }) (based_on file base c.args.specifier.now (option_map body_view c.args.body.now)) (other_base file base) c.other_base-in-None-body.result c.args.notes.now
    (ap (λ specifier. based_on file base specifier (option_map body_view c.args.body.now)) c.in-Enum.is
    ∙ ap (λ body. based_on file base (S.Enum c.in-Enum.tag) (option_map body_view body)) c.in-None-body.is)
    c.other_base-in-None-body.ensures

pub returns-in-Words-clause-based : goal.returns-in-Words-clause-based
returns-in-Words-clause-based c =
    let file = file_state_view c.args.state.now in
    let base = c.args.base.now in
    becomes_by_rule (λ type. record { file = file; type = qualified_view type }) (based_on file base c.args.specifier.now (option_map body_view c.args.body.now)) (other_base file base) c.other_base-in-Words.result c.args.notes.now
    (ap (λ specifier. based_on file base specifier (option_map body_view c.args.body.now)) c.in-Words.is) c.other_base-in-Words.ensures

pub returns-in-Named-clause-based : goal.returns-in-Named-clause-based
returns-in-Named-clause-based c =
    let file = file_state_view c.args.state.now in
    let base = c.args.base.now in
    becomes_by_rule (λ type. record { file = file; type = qualified_view type }) (based_on file base c.args.specifier.now (option_map body_view c.args.body.now)) (other_base file base) c.other_base-in-Named.result c.args.notes.now
    (ap (λ specifier. based_on file base specifier (option_map body_view c.args.body.now)) c.in-Named.is) c.other_base-in-Named.ensures
