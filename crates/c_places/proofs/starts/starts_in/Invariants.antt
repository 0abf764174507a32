use Rattle.std.proofs.Common.{◌≡◌, ℕ, [], drop, get_or, ◌||◌}
use Rattle.rvt_tree.specs.declared.types.Pointee.{Pointee}
use Rattle.c_types.specs.Layout.{begins_in, starts_of}
use Rattle.c_places.specs.Starts.{is_among}
use Rattle.c_places.proofs.starts.starts_in.Given as goal

-- what was entered, or what is left
abbrev pub invariant-loop-what : goal.invariant-loop-what
invariant-loop-what l = (pointee : Pointee) (cell : ℕ) →
    (is_among pointee (get_or l.rows.items cell []) || begins_in pointee cell (starts_of (drop l.what-index l.what-items)))
    ≡ begins_in pointee cell (starts_of l.plan.starts.items)
