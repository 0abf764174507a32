-- Where no step is left, or a call is too deep.
use Rattle.std.proofs.Common.{◌≡◌, ℕ, suc, sym, ap, ◌∙◌}
use Rattle.rvt_tree.specs.declared.programs.Program.{Program}
use Rattle.c_meaning.specs.Outcomes.{Cut, Deep}
use Rattle.c_steps.specs.Steps.{with_left, coming}
use Rattle.c_steps.specs.declared.progress.Progress.TheVariants as P
use Rattle.c_interp.specs.declared.engine.Engine.{Engine}
use Rattle.c_interp.specs.declared.events.Event.TheVariants as E
use Rattle.c_interp.specs.Frames.{whole, happening}
use Rattle.c_interp.proofs.Stacked.{whole_cut, whole_deep}

pub cut_call : (program : Program) (engine : Engine) (function height left : ℕ) → left ≡ 0 → Cut ≡ happening program (E.Calls function height) engine left
cut_call program engine function height left e =
    sym (ap (λ n. whole program engine.frames.items (coming program engine.depth (P.Calls function height) engine.work (with_left engine.cells n))) e
    ∙ whole_cut program engine.frames.items)

pub deep_call : (program : Program) (engine : Engine) (function height left m : ℕ) → left ≡ suc m → engine.depth ≡ 0 → Deep ≡ happening program (E.Calls function height) engine left
deep_call program engine function height left m e deep =
    sym (ap (λ n. whole program engine.frames.items (coming program engine.depth (P.Calls function height) engine.work (with_left engine.cells n))) e
    ∙ ap (λ d. whole program engine.frames.items (coming program d (P.Calls function height) engine.work (with_left engine.cells (suc m)))) deep
    ∙ whole_deep program engine.frames.items)
