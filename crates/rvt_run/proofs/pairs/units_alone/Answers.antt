use Rattle.std.proofs.Common.{◌≡◌, ◌++◌, [], ◌∷◌, ℕ, List, Option, Some, None, drop, cond, sym, ◌∙◌, ap, arith}
use Rattle.std.specs.Prelude.{map}
use Rattle.std.proofs.lemmas.List.{append-nil, drop_all}
use Rattle.rvt_run.specs.Pairs.{loop_numbers, loops_beside, partner_at, is_alone}
use Rattle.rvt_run.proofs.LoopPairs.{one_number}
use Rattle.rvt_run.proofs.pairs.units_alone.Goals as goal

pub loops-preserved : goal.loops-preserved
loops-preserved c =
    one_number c.behind-number-items.result.now c.loops.number-index c.loops.units.items c.push.new.self.items _ c.loops-test.true c.in_ok-push.ensures.items c.loops.invariant

pub returns : goal.returns
returns c =
    let items = c.behind-number-items.result.now in
    let f = c.args.function.now in
    let numbers_are : items ≡ drop (loops_beside (partner_at c.args.partners.now c.args.others.now c.args.number)) (loop_numbers f) =
    c.behind-number-items.ensures ∙ ap (λ (l : List ℕ). drop c.in_ok-beside.beside l) (c.as_slice.ensures.value ∙ c.in_ok-loops.ensures)
    ∙ ap (λ (n : ℕ). drop n (loop_numbers f)) (c.in_ok-beside.ensures ∙ ap loops_beside c.partner.ensures) in
    sym (append-nil c.loops.units.items) ∙ ap (λ (l : List ℕ). c.loops.units.items ++ map (λ (n : ℕ). Some n) l) (sym (drop_all c.loops.number-index items (omega (arith, c.loops-test.false))))
    ∙ c.loops.invariant ∙ ap (λ (l : List (Option ℕ)). l ++ map (λ (n : ℕ). Some n) items) (c.in_ok-units.ensures ∙ ap (λ b. cond b (None ∷ []) []) c.is_alone.ensures)
    ∙ ap (λ (l : List ℕ). cond (is_alone c.args.partners.now c.args.number f) (None ∷ []) [] ++ map (λ (n : ℕ). Some n) l) numbers_are
