use Rattle.std.proofs.Common.{◌≡◌, ℕ, List, ◌++◌, [], subst, sym, ◌∙◌, ap}
use Rattle.std.specs.List.Sorted.{IsNonDecreasing, IsPermutation}
use Rattle.std.proofs.lemmas.List.Sorted.{IsNonDecreasingBy-from_sort}
use Rattle.rvt_tree.specs.Views.{stmt_view}
use Rattle.c_meaning.specs.Interfaces.{named_in_loop, declared_in_loop}
use Rattle.loop_interfaces.specs.NameOrder.{AreOthers}
use Rattle.loop_interfaces.proofs.Joined.{interface_is}
use Rattle.loop_interfaces.proofs.interfaces.interface_of.Goals as goal

pub others-requires : goal.others-requires
others-requires c =
    subst IsNonDecreasing (sym c.deref-2.ensures.value) (IsNonDecreasingBy-from_sort (λ (x : ℕ). x) c.sort.new.self.items c.in_ok-sort.ensures.sorted)

pub returns : goal.returns
returns c =
    let named_is : c.deref.result.now ≡ named_in_loop (stmt_view c.args.statement.now) =
    c.deref.ensures.value ∙ c.in_ok-add_in_loop.ensures ∙ ap (λ (l : List ℕ). l ++ named_in_loop (stmt_view c.args.statement.now)) c.new-named.ensures.items in
    let declared_is : c.add_inside_loop.new.out.items ≡ declared_in_loop (stmt_view c.args.statement.now) =
    c.in_ok-add_inside_loop.ensures ∙ ap (λ (l : List ℕ). l ++ declared_in_loop (stmt_view c.args.statement.now)) c.new-declared.ensures.items in
    let moved : IsPermutation c.add_inside_loop.new.out.items c.deref-2.result.now = subst (IsPermutation c.add_inside_loop.new.out.items) (sym c.deref-2.ensures.value) c.in_ok-sort.ensures.permutation in
    let others : AreOthers c.deref-3.result.now c.deref.result.now c.deref-2.result.now = subst (λ (l : List ℕ). AreOthers l c.deref.result.now c.deref-2.result.now) (sym c.deref-3.ensures.value) c.in_ok-outside.ensures in
    interface_is c.args.function.now (stmt_view c.args.statement.now) c.in_ok-locals.locals.items c.deref-3.result.now c.deref.result.now c.add_inside_loop.new.out.items c.deref-2.result.now
    c.in_ok-locals.ensures.members others named_is declared_is moved c.in_ok-locals.ensures.order
