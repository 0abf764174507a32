use Rattle.std.proofs.Common.{◌≡◌, ◌+◌, ◌++◌, [], ◌∷◌, ℕ, List, map, take, get_or, sym, ◌∙◌, ap}
use Rattle.std.specs.Borrow.{Bor}
use Rattle.std.proofs.lemmas.List.{map_more, map-append, take_all}
use Rattle.rvt_tree.specs.Syntax.{Statement}
use Rattle.rvt_tree.specs.Views.{stmt_view}
use Rattle.rvt_tree.specs.declared.statements.Stmt.{Stmt}
use Rattle.loop_interfaces.specs.Loops.{number_of}
use Rattle.loop_interfaces.proofs.interfaces.loop_numbers.Goals as goal

pub loops-preserved : goal.loops-preserved
loops-preserved c =
    let items = c.as_slice-statement-items.result.now in
    let i = c.loops.statement-index in
    let x = c.statement-item.result in
    let view : Bor Stmt → Statement = λ s. stmt_view s.now in
    let before = map view (take i items) in
    let more : map view (take (i + 1) items) ≡ before ++ view x ∷ [] = map_more view items i x c.loops-test.true ∙ ap (λ (s : Bor Stmt). before ++ view s ∷ []) (sym c.statement-item.is) in
    c.in_ok-push.ensures.items ∙ ap (λ (l : List ℕ). l ++ c.number_of.result ∷ []) c.loops.invariant ∙ ap (λ (n : ℕ). map number_of before ++ n ∷ []) c.number_of.ensures
    ∙ sym (map-append number_of before (view x ∷ [])) ∙ ap (map number_of) (sym more)

pub returns : goal.returns
returns c =
    let items = c.as_slice-statement-items.result.now in
    let view : Bor Stmt → Statement = λ s. stmt_view s.now in
    c.loops.invariant ∙ ap (map number_of) (ap (map view) (take_all c.loops.statement-index items c.loops-test.false ∙ c.as_slice-statement-items.ensures.value) ∙ c.in_ok-loops.ensures)
