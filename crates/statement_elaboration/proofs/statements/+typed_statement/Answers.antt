use Rattle.std.proofs.Common.{◌∙◌, arith, ap, map, option_map, sym}
use Rattle.rvt_tree.specs.Views.{stmt_view}
use Rattle.c_syntax.specs.Syntax as s
use Rattle.c_syntax.specs.Views as v
use Rattle.c_syntax.specs.declared.statements.Groups.{size-Groups}
use Rattle.c_syntax.specs.declared.statements.Parts.{size-Parts}
use Rattle.file_typing.specs.Statements.{next_label}
use Rattle.typing_base.specs.Views.{notes_view}
use Rattle.statement_elaboration.specs.Views.{block_view}
use Rattle.statement_elaboration.proofs.Arms.{return_at, while_at, for_at, switch_at}
use Rattle.statement_elaboration.proofs.Bodies.{items_step}
use Rattle.statement_elaboration.proofs.Depths.{parts_no_deeper, groups_no_deeper}
use Rattle.statement_elaboration.proofs.Extensions.{extends_more, extends_within}
use Rattle.statement_elaboration.proofs.GroupSteps.{groups_step, group_fails}
use Rattle.statement_elaboration.proofs.Steps.{becomes_same, err_of}
use Rattle.statement_elaboration.proofs.statements.+typed_statement.Goals as goal

pub typed_items-parts-preserved : goal.typed_items-parts-preserved
typed_items-parts-preserved t c = record {
  no_deeper = omega (arith, ap size-Parts c.deref-rest.ensures, parts_no_deeper _ _ _ c.in-More.is, c.parts.invariant.no_deeper);
  within = omega (arith, c.parts.invariant.within, extends_within _ _ c.in_ok-item.ensures.declared);
  extends = extends_more _ _ _ c.parts.invariant.extends c.in_ok-item.ensures.declared;
  same_outcome = rw (c.in_ok-put.ensures, c.deref-rest.ensures)
      (items_step _ (block_view c.parts.environment c.args.block) (block_view c.typed_item.new.environment c.args.block) _ _ _ c.parts.made.items c.in_ok-item.item.items _ _
      c.parts.invariant.same_outcome (ap v.parts_view c.in-More.is) c.in_ok-item.ensures.typed);
}

pub typed_groups-groups-preserved : goal.typed_groups-groups-preserved
typed_groups-groups-preserved t c = record {
  no_deeper = omega (arith, ap size-Groups c.deref-rest.ensures, groups_no_deeper _ _ _ _ c.in-More.is, c.groups.invariant.no_deeper);
  same = c.in_ok-group.ensures.same ∙ c.groups.invariant.same;
  same_outcome = rw (c.in_ok-group.ensures.same, c.in_ok-group.ensures.before, c.in_ok-put_group.ensures, c.deref-rest.ensures)
      (groups_step _ (block_view c.groups.environment c.args.block) c.args.kind c.groups.before (v.groups_view c.groups.rest.now)
      (map v.label_view c.as_slice-labels.result.now) (v.parts_view c.in-More.parts) (v.groups_view c.in-More.others.value) c.next_label-next.result
      c.groups.made.items c.in_ok-group.group (notes_view c.groups.notes) (notes_view c.typed_group.new.notes)
      c.groups.invariant.same_outcome
      (ap v.groups_view c.in-More.is ∙ ap (λ l. s.switch_group (s.labelled (map v.label_view l) (v.parts_view c.in-More.parts)) (v.groups_view c.in-More.others.value)) (sym c.as_slice-labels.ensures))
      (c.next_label-next.ensures ∙ ap (λ rest. next_label (v.groups_view rest)) c.deref.ensures)
      c.in_ok-group.ensures.typed);
}

pub typed_groups-returns-in_err-group-clause-typed : goal.typed_groups-returns-in_err-group-clause-typed
typed_groups-returns-in_err-group-clause-typed t c =
    rw (err_of c.in_err-group.field-0.0 c.from_residual.result c.from_residual.ensures.1)
    (group_fails _ (block_view c.groups.environment c.args.block) c.args.kind c.groups.before (v.groups_view c.groups.rest.now)
    (map v.label_view c.as_slice-labels.result.now) (v.parts_view c.in-More.parts) (v.groups_view c.in-More.others.value) c.next_label-next.result
    c.groups.made.items c.in_err-group.field-0.0 (notes_view c.groups.notes) c.typed_group.new.notes _
    c.groups.invariant.same_outcome
    (ap v.groups_view c.in-More.is ∙ ap (λ l. s.switch_group (s.labelled (map v.label_view l) (v.parts_view c.in-More.parts)) (v.groups_view c.in-More.others.value)) (sym c.as_slice-labels.ensures))
    (c.next_label-next.ensures ∙ ap (λ rest. next_label (v.groups_view rest)) c.deref.ensures)
    c.in_err-group.ensures.typed)

pub typed_statement-returns-in-ReturnValue-clause-typed : goal.typed_statement-returns-in-ReturnValue-clause-typed
typed_statement-returns-in-ReturnValue-clause-typed t c =
    becomes_same stmt_view _ _ c.typed_return.result c.typed_return.new.notes
    (return_at (block_view c.args.environment.now c.args.block) (notes_view c.args.notes.now) _ c.in-ReturnValue.at (v.expr_view c.in-ReturnValue.e) (ap v.stmt_view c.in-ReturnValue.is))
    c.typed_return.ensures

pub typed_statement-returns-in-While-clause-typed : goal.typed_statement-returns-in-While-clause-typed
typed_statement-returns-in-While-clause-typed t c =
    becomes_same stmt_view _ _ c.typed_while.result c.typed_while.new.notes
    (while_at (block_view c.args.environment.now c.args.block) (notes_view c.args.notes.now) _ c.in-While.field-0 (v.expr_view c.in-While.test) (v.stmt_view c.deref-in-While.result.now)
    (ap v.stmt_view c.in-While.is ∙ ap (λ body. s.while_loop c.in-While.field-0 (v.expr_view c.in-While.test) (v.stmt_view body)) (sym c.deref-in-While.ensures)))
    c.typed_while.ensures.typed

pub typed_statement-returns-in-For-clause-typed : goal.typed_statement-returns-in-For-clause-typed
typed_statement-returns-in-For-clause-typed t c =
    becomes_same stmt_view _ _ c.typed_for.result c.typed_for.new.notes
    (for_at (block_view c.args.environment.now c.args.block) (notes_view c.args.notes.now) _ c.in-For.field-0 (v.start_view c.in-For.start) (option_map v.expr_view c.in-For.test)
    (map v.act_view c.as_slice.result.now) (v.stmt_view c.deref-in-For.result.now)
    (ap v.stmt_view c.in-For.is
    ∙ ap (λ last. s.for_loop c.in-For.field-0 (v.start_view c.in-For.start) (option_map v.expr_view c.in-For.test) (map v.act_view last) (v.stmt_view c.in-For.body.value)) (sym c.as_slice.ensures)
    ∙ ap (λ body. s.for_loop c.in-For.field-0 (v.start_view c.in-For.start) (option_map v.expr_view c.in-For.test) (map v.act_view c.as_slice.result.now) (v.stmt_view body)) (sym c.deref-in-For.ensures)))
    c.typed_for.ensures.typed

pub typed_statement-returns-in-Switch-clause-typed : goal.typed_statement-returns-in-Switch-clause-typed
typed_statement-returns-in-Switch-clause-typed t c =
    becomes_same stmt_view _ _ c.typed_switch.result c.typed_switch.new.notes
    (switch_at (block_view c.args.environment.now c.args.block) (notes_view c.args.notes.now) _ c.in-Switch.field-0 (v.expr_view c.in-Switch.e) (v.groups_view c.deref-in-Switch.result.now)
    (ap v.stmt_view c.in-Switch.is ∙ ap (λ groups. s.switch c.in-Switch.field-0 (v.expr_view c.in-Switch.e) (v.groups_view groups)) (sym c.deref-in-Switch.ensures)))
    c.typed_switch.ensures.typed
