use Rattle.std.proofs.Common.{◌≡◌, ◌||◌, ℕ, map, length}
use Rattle.expression_typing.specs.Progress.{is_taken}
use Rattle.local_objects.specs.ObjectTables.{is_flagged}
use Rattle.rvt_tree.specs.declared.expressions.Variable.TheVariants as V
use Rattle.typing_base.specs.NoteViews.{taken_view}
use Rattle.c_elab.proofs.object_tables.flag_locals.Given as goal

abbrev pub invariant-taken : goal.invariant-taken
invariant-taken l = record {
  whole : (k : ℕ) → is_flagged l.flags.items k || is_taken (map taken_view l.rest) (V.Local k) ≡ is_flagged l.initial.flags.items k || is_taken (map taken_view l.fn.taken) (V.Local k);
}

abbrev pub decreases-taken : goal.decreases-taken
decreases-taken l = length l.rest
