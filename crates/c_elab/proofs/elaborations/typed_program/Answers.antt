use Rattle.std.proofs.Common.{◌≡◌, Result, Err, map, rules, sym, subst}
use Rattle.c_syntax.specs.Views.{item_view}
use Rattle.expression_typing.specs.Outcomes.{Made}
use Rattle.expression_typing.specs.Progress.{Notes}
use Rattle.file_state.specs.Views.{file_state_view}
use Rattle.file_typing.specs.Elaboration.{whole_file}
use Rattle.file_typing.specs.Items.{all_items}
use Rattle.rvt_tree.specs.declared.programs.Program.{Program}
use Rattle.typing_base.specs.declared.faults.Fault.{Fault}
use Rattle.typing_base.specs.Follows.{Becomes}
use Rattle.typing_base.specs.Views.{notes_view}
use Rattle.c_elab.specs.Typed.{IsTyped}
use Rattle.c_elab.proofs.Refused.{item_refused}
use Rattle.c_elab.proofs.elaborations.typed_program.Goals as goal

pub returns-in_err-state : goal.returns-in_err-state
returns-in_err-state c =
    let items = map item_view c.args.items.now in
    let fault = c.in_err-state.field-0.0 in
    let told : c.from_residual.result ≡ Err fault = search rules in
    let typed : Becomes file_state_view (all_items items (notes_view c.new-notes.result)) (Err fault) c.all_items.new.notes = c.in_err-state.ensures.typed in
    subst (λ (r : Result Program Fault). IsTyped items r) (sym told)
    (item_refused items fault c.all_items.new.notes (subst (λ (notes : Notes). Becomes file_state_view (all_items items notes) (Err fault) c.all_items.new.notes) c.new-notes.ensures typed))

pub returns-in_err-program : goal.returns-in_err-program
returns-in_err-program c =
    let items = map item_view c.args.items.now in
    let after = notes_view c.all_items.new.notes in
    let fault = c.in_err-program.field-0.0 in
    let told : c.from_residual-in_err-program.result ≡ Err fault = search rules in
    let typed : whole_file items ≡ Made (file_state_view c.in_ok-state.state) after =
    subst (λ (notes : Notes). all_items items notes ≡ Made (file_state_view c.in_ok-state.state) after) c.new-notes.ensures c.in_ok-state.ensures.typed in
    subst (λ (r : Result Program Fault). IsTyped items r) (sym told) (c.in_err-program.ensures items after typed)

pub returns : goal.returns
returns c =
    let items = map item_view c.args.items.now in
    let after = notes_view c.all_items.new.notes in
    let typed : whole_file items ≡ Made (file_state_view c.in_ok-state.state) after =
    subst (λ (notes : Notes). all_items items notes ≡ Made (file_state_view c.in_ok-state.state) after) c.new-notes.ensures c.in_ok-state.ensures.typed in
    c.in_ok-program.ensures items after typed
