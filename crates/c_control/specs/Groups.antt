-- The group of a `switch` that a number selects, and what is to come of it.
use Rattle.std.specs.Prelude.{ℕ, Bool, if◌then◌else◌, Option, Some, None}
use Rattle.rvt_num.specs.Number.{Number}
use Rattle.rvt_tree.specs.declared.programs.Program.{Program}
use Rattle.rvt_tree.specs.declared.statements.Label.{Label}
use Rattle.rvt_tree.specs.declared.statements.Label.TheVariants.{Case, Default}
use Rattle.rvt_tree.specs.Syntax.{Statements, compound, Groups, no_groups, labelled}
use Rattle.c_meaning.specs.Outcomes.{and_then}
use Rattle.c_meaning.specs.Statements.{after_group, is_case, is_default, any, or_else, meaning}
use Rattle.c_meaning.specs.Runs.{stepping}
use Rattle.c_tasks.specs.Tasks.{Rest, ending, chosen_group}

-- whether a label is the wanted one
abbrev pub is_label : Label → Label → Bool
is_label (Case n) label = is_case n label
is_label Default label = is_default label

-- the first group that has a label
abbrev pub labelled_group : Label → Groups → Option Statements
labelled_group wanted no_groups = None
labelled_group wanted (labelled labels body rest) = if any (is_label wanted) labels then Some body else labelled_group wanted rest

-- the group with a `case` of a number, or else the default one
abbrev pub group_for : Number → Groups → Option Statements
group_for n groups = or_else (labelled_group (Case n) groups) (labelled_group Default groups)

module _ (program : Program) (d : ℕ) where
  -- a group, and the end of its `switch`
  abbrev pub in_group : Statements → Rest → Rest
  in_group body = ending program d (and_then (meaning program (stepping program d) (compound body)) after_group)

  abbrev pub selecting_by : Number → Groups → Rest → Rest
  selecting_by n groups = ending program d (and_then (chosen_group program d n groups) after_group)

  abbrev pub leaving_switch : Rest → Rest
  leaving_switch next on = ending program d (after_group on.manner) next on
