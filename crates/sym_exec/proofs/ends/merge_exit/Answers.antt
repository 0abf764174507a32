use Rattle.std.proofs.Common.{ℕ, List, ap, ◌∙◌, arith}
use Rattle.aig_build.proofs.Nodes.{Grows-length}
use Rattle.bit_ops.specs.declared.values.SymValue.{SymValue}
use Rattle.bit_words.proofs.RippleCarry.{AreThere-later}
use Rattle.sym_paths.specs.Runs.{exit_of, how_of}
use Rattle.symbolic_runs.specs.Runs.{chosen}
use Rattle.sym_exec.proofs.Exits.{stop_kept, stop_returns}
use Rattle.sym_exec.proofs.ends.merge_exit.Goals as goal

pub merge-requires-clause-which_is_there : goal.merge-requires-clause-which_is_there
merge-requires-clause-which_is_there c = c.requires.kept.exits.0.guard

pub merge-requires-clause-first_is_there : goal.merge-requires-clause-first_is_there
merge-requires-clause-first_is_there c =
    rw c.deref-2.ensures.value
    (stop_kept _ (exit_of c.args.exit.now) c.args.values.now c.in_ok-returned.returned.items _ _ (ap how_of c.in-Stops.is)
    (c.in_ok-returned.ensures ∙ ap (λ (l : List SymValue). chosen l c.deref.result.now) c.registers.ensures ∙ ap (λ (l : List ℕ). chosen c.in-Stops.store.registers l) c.deref.ensures.value) c.requires.kept).results_there

pub merge-requires-clause-second_is_there : goal.merge-requires-clause-second_is_there
merge-requires-clause-second_is_there c = rw c.deref-3.ensures.value c.requires.kept.results_there

pub merge-requires-clause-alike : goal.merge-requires-clause-alike
merge-requires-clause-alike c =
    rw (c.deref-2.ensures.value, c.deref-3.ensures.value)
    (stop_kept _ (exit_of c.args.exit.now) c.args.values.now c.in_ok-returned.returned.items _ _ (ap how_of c.in-Stops.is)
    (c.in_ok-returned.ensures ∙ ap (λ (l : List SymValue). chosen l c.deref.result.now) c.registers.ensures ∙ ap (λ (l : List ℕ). chosen c.in-Stops.store.registers l) c.deref.ensures.value) c.requires.kept).results_alike

pub merge-requires-2-clause-which_is_there : goal.merge-requires-2-clause-which_is_there
merge-requires-2-clause-which_is_there c = let w = c.requires.kept.exits.0.guard in omega (arith, w, Grows-length _ _ c.in_ok-results.ensures.grows)

pub merge-requires-2-clause-first_is_there : goal.merge-requires-2-clause-first_is_there
merge-requires-2-clause-first_is_there c =
    rw c.cells.ensures (AreThere-later _ _ _ c.in_ok-results.ensures.grows
    (stop_kept _ (exit_of c.args.exit.now) c.args.values.now c.in_ok-returned.returned.items _ _ (ap how_of c.in-Stops.is)
    (c.in_ok-returned.ensures ∙ ap (λ (l : List SymValue). chosen l c.deref.result.now) c.registers.ensures ∙ ap (λ (l : List ℕ). chosen c.in-Stops.store.registers l) c.deref.ensures.value) c.requires.kept).cells_there)

pub merge-requires-2-clause-second_is_there : goal.merge-requires-2-clause-second_is_there
merge-requires-2-clause-second_is_there c = rw c.deref-4.ensures.value (AreThere-later _ _ _ c.in_ok-results.ensures.grows c.requires.kept.cells_there)

pub merge-requires-2-clause-alike : goal.merge-requires-2-clause-alike
merge-requires-2-clause-alike c =
    rw (c.cells.ensures, c.deref-4.ensures.value)
    (stop_kept _ (exit_of c.args.exit.now) c.args.values.now c.in_ok-returned.returned.items _ _ (ap how_of c.in-Stops.is)
    (c.in_ok-returned.ensures ∙ ap (λ (l : List SymValue). chosen l c.deref.result.now) c.registers.ensures ∙ ap (λ (l : List ℕ). chosen c.in-Stops.store.registers l) c.deref.ensures.value) c.requires.kept).cells_alike

pub returns : goal.returns
returns c =
    stop_returns (how_of c.args.exit.now.how) c.args.exit.now.guard c.args.circuit.now c.merge.new.circuit c.merge-2.new.circuit c.in_ok-returned.returned.items _ _ c.args.values.now (record { results = c.in_ok-results.results; cells = c.in_ok-cells.cells })
    (ap how_of c.in-Stops.is)
    (c.in_ok-returned.ensures ∙ ap (λ (l : List SymValue). chosen l c.deref.result.now) c.registers.ensures ∙ ap (λ (l : List ℕ). chosen c.in-Stops.store.registers l) c.deref.ensures.value)
    (rw (← c.deref-2.ensures.value, ← c.deref-3.ensures.value) c.in_ok-results.ensures.built)
    (rw (← c.cells.ensures, ← c.deref-4.ensures.value) c.in_ok-cells.ensures.built)
