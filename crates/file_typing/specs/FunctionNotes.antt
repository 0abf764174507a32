-- What is noted of a function while its body is typed.
use Rattle.std.specs.Prelude.{ℕ, suc, ◌+◌, List, [], ◌∷◌, ◌++◌, length, sum_by, nat_lt, if◌then◌else◌}
use Rattle.expression_typing.specs.Limits.{most_cells_of_locals}
use Rattle.expression_typing.specs.Outcomes.{Checking, Made, Broken, beyond_a_limit}
use Rattle.expression_typing.specs.Progress.{Notes, Local}

-- nothing is noted of a function any more; the objects of the file stay counted
abbrev pub of_no_function : Notes → Notes
of_no_function notes = record { locals = []; calls = []; taken = []; loops = 0; objects = notes.objects; cells = notes.cells }

abbrev pub with_local : Local → Notes → Notes
with_local local notes =
    record { locals = notes.locals ++ local ∷ []; calls = notes.calls; taken = notes.taken; loops = notes.loops; objects = notes.objects; cells = notes.cells }

abbrev pub with_loop : Notes → Notes
with_loop notes =
    record { locals = notes.locals; calls = notes.calls; taken = notes.taken; loops = suc notes.loops; objects = notes.objects; cells = notes.cells }

abbrev pub cells_of_locals : List Local → ℕ
cells_of_locals locals = sum_by (λ local. local.cells) locals

-- one more parameter or local: it gets the next number
abbrev pub numbered : Local → Checking ℕ
numbered local notes =
    if nat_lt most_cells_of_locals (cells_of_locals notes.locals + local.cells) then Broken beyond_a_limit local.place
    else Made (length notes.locals) (with_local local notes)

-- the loops of a function are numbered from 1, in the order in which they begin
abbrev pub next_loop : Checking ℕ
next_loop notes = Made (suc notes.loops) (with_loop notes)
