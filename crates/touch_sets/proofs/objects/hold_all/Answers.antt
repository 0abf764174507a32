use Rattle.std.proofs.Common.{◌≡◌, ◌⊎◌, ◌↔◌, ℕ, true, false, List, get_or, subst}
use Rattle.std.proofs.lemmas.List.{take_all}
use Rattle.core_ir.specs.Calls.{Among}
use Rattle.touch_sets.proofs.Places.{start_held, at_read}
use Rattle.touch_sets.proofs.objects.hold_all.Goals as goal

pub starts-preserved : goal.starts-preserved
starts-preserved c type =
    let starts = c.args.starts.now in
    let i = c.starts.start-index in
    let none : ℕ × ℕ = (0, 0) in
    start_held (get_or c.args.held.now.items type false ≡ true) (get_or c.starts.held.items type false ≡ true) (get_or c.hold.new.held.items type false ≡ true) starts i type (get_or starts i none) (at_read starts i none c.starts-test.true) (c.starts.invariant type) (c.in_ok-hold.ensures type)

pub returns : goal.returns
returns c type =
    subst (λ (l : List (ℕ × ℕ)). (get_or c.starts.held.items type false ≡ true) ↔ ((get_or c.args.held.now.items type false ≡ true) ⊎ ((cell : ℕ) × Among (type, cell) l))) (take_all c.starts.start-index c.args.starts.now c.starts-test.false) (c.starts.invariant type)
