use Rattle.std.proofs.Common.{◌≡◌, None, sym, subst, ◌∙◌}
use Rattle.c_syntax.specs.Views.{file_view}
use Rattle.c_parser.specs.File.{IsFile, IsOnly}
use Rattle.c_parser.specs.State.{max_levels}
use Rattle.c_grammar.specs.Grammar.{rules}
use Rattle.c_grammar.specs.Terminals.{terminals_of}
use Rattle.file_actions.specs.Tree.{items_of, IsMissing}
use Rattle.c_source.proofs.NeverLacks.{never_missing}
use Rattle.c_source.proofs.Refusing.{one_tree}
use Rattle.c_source.proofs.reader.read.Goals as goal

pub unread-requires-clause-only : goal.unread-requires-clause-only
unread-requires-clause-only c others spelled = c.in-Ok.ensures.only others spelled ∙ sym c.deref-in-Err-steps.ensures.value

pub unreachable-requires : goal.unreachable-requires
unreachable-requires c =
    let bytes = c.args.bytes.now in
    let tokens = c.deref-2.result.now in
    let steps = c.deref-3.result.now in
    let file : IsFile rules max_levels (terminals_of bytes tokens) steps =
    subst (IsFile rules max_levels (terminals_of bytes tokens)) (sym c.deref-3.ensures.value)
    (subst (λ ts. IsFile rules max_levels (terminals_of bytes ts) c.in-Ok-steps.steps.items) (c.deref.ensures.value ∙ sym c.deref-2.ensures.value) c.in-Ok-steps.ensures.steps.is) in
    never_missing bytes tokens steps max_levels file (subst (IsMissing (items_of bytes tokens steps)) c.in-Err-Missing.field-0-is c.in-Err-Missing.ensures.missing)

pub returns-in-Ok-file_tree-clause-only : goal.returns-in-Ok-file_tree-clause-only
returns-in-Ok-file_tree-clause-only c =
    let bytes = c.args.bytes.now in
    let tokens = c.deref-2.result.now in
    let steps = c.deref-3.result.now in
    let only : IsOnly rules (terminals_of bytes tokens) steps =
    subst (IsOnly rules (terminals_of bytes tokens)) (sym c.deref-3.ensures.value)
    (subst (λ ts. IsOnly rules (terminals_of bytes ts) c.in-Ok-steps.steps.items) (c.deref.ensures.value ∙ sym c.deref-2.ensures.value) c.in-Ok-steps.ensures.steps) in
    one_tree bytes tokens steps (file_view c.in-Ok-file_tree.file) (λ others spelled. c.in-Ok.ensures.only others spelled ∙ sym c.deref-2.ensures.value) only c.in-Ok-file_tree.ensures.tree
