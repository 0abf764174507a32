-- A group, and then the others.
use Rattle.std.proofs.Common.{◌≡◌, ◌∙◌, List, [], ◌∷◌, ◌++◌, Option, Err, ap, refl, sym}
use Rattle.rvt_num.specs.declared.kinds.Kind.{Kind}
use Rattle.rvt_tree.specs.declared.places.Place.{Place}
use Rattle.rvt_tree.specs.declared.statements.Label.{Label}
use Rattle.rvt_tree.specs.declared.statements.Labels.{Labels}
use Rattle.rvt_tree.specs.declared.statements.Stmts.{Stmts}
use Rattle.rvt_tree.specs.Syntax as t
use Rattle.rvt_tree.specs.Views.{groups_before, groups_view, labels_view, stmts_view}
use Rattle.c_syntax.specs.Syntax as s
use Rattle.expression_typing.specs.Progress.{Notes}
use Rattle.expression_typing.specs.Outcomes.{Outcome, Made, Broken, Checking, go_on, and_then, give}
use Rattle.file_typing.specs.Blocks.{Block, inside}
use Rattle.file_typing.specs.Statements.{typed_labels, typed_items, typed_groups, group_ends, next_label}
use Rattle.typing_base.specs.declared.faults.Fault.{Fault}
use Rattle.typing_base.specs.declared.faults.Fault.TheVariants as F
use Rattle.typing_base.specs.declared.notes.Notes.{Notes as Noted}
use Rattle.typing_base.specs.Follows.{Becomes}
use Rattle.statement_elaboration.specs.Parts.{typed_group}
use Rattle.statement_elaboration.specs.Views.{group_view}

module _ (b : Block) (kind : Kind) (before : List Label) (items : s.BlockItems) (rest : s.SwitchGroups) where
  abbrev after_group : (List Label × t.Statements) → Checking t.Groups
  after_group g = and_then (typed_groups b kind (before ++ g.0) rest) (λ others. give (t.labelled g.0 g.1 others))

  ended : (labels : List Label) (body : t.Statements) (o : Outcome (Unit {0}))
      → go_on (λ _. after_group (labels, body)) o ≡ go_on after_group (go_on (λ _. give (labels, body)) o)
  ended labels body (Made u n) = refl
  ended labels body (Broken cause at) = refl

  with_body : (labels : List Label) (o : Outcome t.Statements)
      → go_on (λ body. and_then (group_ends items (next_label rest)) (λ _. after_group (labels, body))) o
      ≡ go_on after_group (go_on (λ body. and_then (group_ends items (next_label rest)) (λ _. give (labels, body))) o)
  with_body labels (Made body n) = ended labels body (group_ends items (next_label rest) n)
  with_body labels (Broken cause at) = refl

  with_labels : (o : Outcome (List Label))
      → go_on (λ labels. and_then (typed_items (inside b) items) (λ body. and_then (group_ends items (next_label rest)) (λ _. after_group (labels, body)))) o
      ≡ go_on after_group (go_on (λ labels. and_then (typed_items (inside b) items) (λ body. and_then (group_ends items (next_label rest)) (λ _. give (labels, body)))) o)
  with_labels (Made labels n) = with_body labels (typed_items (inside b) items n)
  with_labels (Broken cause at) = refl

  pub group_first : (labels : List s.SwitchLabel) (n : Notes)
      → typed_groups b kind before (s.switch_group (s.labelled labels items) rest) n ≡ go_on after_group (typed_group b kind before labels items (next_label rest) n)
  group_first labels n = with_labels (typed_labels b kind before labels n)

groups_before_append : (made : List (Labels × Stmts)) (g : Labels × Stmts) (others : t.Groups)
    → groups_before (made ++ g ∷ []) others ≡ groups_before made (t.labelled (labels_view g.0) (stmts_view g.1) others)
groups_before_append [] g others = refl
groups_before_append (x ∷ made) g others = ap (t.labelled (labels_view x.0) (stmts_view x.1)) (groups_before_append made g others)

groups_more : (made : List (Labels × Stmts)) (g : Labels × Stmts) (o : Outcome t.Groups)
    → go_on (λ others. give (groups_before made others)) (go_on (λ others. give (t.labelled (labels_view g.0) (stmts_view g.1) others)) o)
    ≡ go_on (λ others. give (groups_before (made ++ g ∷ []) others)) o
groups_more made g (Made others n) = ap (λ l. Made l n) (sym (groups_before_append made g others))
groups_more made g (Broken cause at) = refl

-- the step of the loop
pub groups_step : (whole : Outcome t.Groups) (b : Block) (kind : Kind) (before : List Label) (list : s.SwitchGroups)
    (labels : List s.SwitchLabel) (items : s.BlockItems) (rest : s.SwitchGroups) (next : Option Place) (made : List (Labels × Stmts)) (g : Labels × Stmts) (n m : Notes)
    → whole ≡ and_then (typed_groups b kind before list) (λ others. give (groups_before made others)) n
    → list ≡ s.switch_group (s.labelled labels items) rest
    → next ≡ next_label rest
    → typed_group b kind before labels items next n ≡ Made (group_view g) m
    → whole ≡ and_then (typed_groups b kind (before ++ labels_view g.0) rest) (λ others. give (groups_before (made ++ g ∷ []) others)) m
groups_step whole b kind before list labels items rest next made g n m is list_is next_is group =
    is ∙ ap (λ l. go_on (λ others. give (groups_before made others)) (typed_groups b kind before l n)) list_is
    ∙ ap (go_on (λ others. give (groups_before made others))) (group_first b kind before items rest labels n
    ∙ ap (λ next. go_on (after_group b kind before items rest) (typed_group b kind before labels items next n)) (sym next_is)
    ∙ ap (go_on (after_group b kind before items rest)) group)
    ∙ groups_more made g (typed_groups b kind (before ++ labels_view g.0) rest m)

-- a group that breaks a rule
pub group_fails : (whole : Outcome t.Groups) (b : Block) (kind : Kind) (before : List Label) (list : s.SwitchGroups)
    (labels : List s.SwitchLabel) (items : s.BlockItems) (rest : s.SwitchGroups) (next : Option Place) (made : List (Labels × Stmts)) (fault : Fault) (n : Notes) (m k : Noted)
    → whole ≡ and_then (typed_groups b kind before list) (λ others. give (groups_before made others)) n
    → list ≡ s.switch_group (s.labelled labels items) rest
    → next ≡ next_label rest
    → Becomes group_view (typed_group b kind before labels items next n) (Err fault) m
    → Becomes groups_view whole (Err fault) k
group_fails whole b kind before list labels items rest next made (F.Broken broken) n m k is list_is next_is group =
    is ∙ ap (λ l. go_on (λ others. give (groups_before made others)) (typed_groups b kind before l n)) list_is
    ∙ ap (go_on (λ others. give (groups_before made others))) (group_first b kind before items rest labels n
    ∙ ap (λ next. go_on (after_group b kind before items rest) (typed_group b kind before labels items next n)) (sym next_is)
    ∙ ap (go_on (after_group b kind before items rest)) group)
group_fails whole b kind before list labels items rest next made F.Memory n m k is list_is next_is group = tt
