use Rattle.std.proofs.Common.{◌≡◌, ◌+◌, ◌++◌, [], ◌∷◌, List, map, take, get_or, subst, sym, ◌∙◌, ap}
use Rattle.std.specs.Borrow.{Bor}
use Rattle.std.proofs.lemmas.List.{map_more, take_all}
use Rattle.rvt_tree.specs.Syntax.{Statement}
use Rattle.rvt_tree.specs.Views.{stmt_view}
use Rattle.rvt_tree.specs.declared.statements.Stmt.{Stmt}
use Rattle.loop_interfaces.specs.declared.interfaces.LoopInterface.{LoopInterface}
use Rattle.loop_interfaces.specs.Loops.{loops_of}
use Rattle.loop_interfaces.specs.NameOrder.{AreInterfaces}
use Rattle.loop_interfaces.proofs.Joined.{interfaces_push}
use Rattle.loop_interfaces.proofs.interfaces.loop_interfaces.Goals as goal

pub loops-preserved : goal.loops-preserved
loops-preserved c =
    let items = c.as_slice-statement-items.result.now in
    let i = c.loops.statement-index in
    let x = c.statement-item.result in
    let view : Bor Stmt → Statement = λ s. stmt_view s.now in
    let more : map view (take (i + 1) items) ≡ map view (take i items) ++ view x ∷ [] = map_more view items i x c.loops-test.true ∙ ap (λ (s : Bor Stmt). map view (take i items) ++ view s ∷ []) (sym c.statement-item.is) in
    subst (λ (l : List Statement). AreInterfaces c.args.function.now l c.push.new.self.items) (sym more)
    (subst (λ (l : List LoopInterface). AreInterfaces c.args.function.now (map view (take i items) ++ view x ∷ []) l) (sym c.in_ok-push.ensures.items)
    (interfaces_push c.args.function.now (map view (take i items)) c.loops.interfaces.items (view x) _ c.loops.invariant c.number_of-number.ensures c.in_ok-locals.ensures))

pub returns : goal.returns
returns c =
    let items = c.as_slice-statement-items.result.now in
    let view : Bor Stmt → Statement = λ s. stmt_view s.now in
    subst (λ (l : List Statement). AreInterfaces c.args.function.now l c.loops.interfaces.items)
    (ap (map view) (take_all c.loops.statement-index items c.loops-test.false ∙ c.as_slice-statement-items.ensures.value) ∙ c.in_ok-loops.ensures) c.loops.invariant
