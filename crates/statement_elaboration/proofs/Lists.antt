-- The loops over lists.
use Rattle.std.proofs.Common.{◌≡◌, ◌≤◌, ◌∙◌, List, [], ◌∷◌, ◌++◌, map, length, take, drop, get_or, ◌-◌, ap, refl, sym, arith, append_assoc}
use Rattle.std.proofs.lemmas.Grind.{common_steps}
use Rattle.std.proofs.lemmas.List.{map-append}
use Rattle.rvt_num.specs.declared.kinds.Kind.{Kind}
use Rattle.rvt_tree.specs.declared.statements.Label.{Label}
use Rattle.rvt_tree.specs.declared.statements.Act.{Act as TypedAct}
use Rattle.rvt_tree.specs.Syntax as t
use Rattle.rvt_tree.specs.Views.{act_view, acts_before}
use Rattle.c_syntax.specs.declared.statements.Act.{Act}
use Rattle.c_syntax.specs.declared.statements.Label.{Label as SwitchLabel}
use Rattle.c_syntax.specs.Syntax as c
use Rattle.c_syntax.specs.Views as s
use Rattle.expression_typing.specs.Progress.{Notes}
use Rattle.expression_typing.specs.Outcomes.{Outcome, Made, Broken, go_on, and_then, give}
use Rattle.expression_typing.specs.Actions.{typed_action}
use Rattle.file_typing.specs.Blocks.{Block, scope_of}
use Rattle.file_typing.specs.Statements.{typed_actions, typed_label, typed_labels, as_statements, statements_before}

pub more_before : {A : Type 0} (before : List A) (one : A) (o : Outcome (List A))
    → go_on (λ others. give (before ++ others)) (go_on (λ others. give (one ∷ others)) o) ≡ go_on (λ others. give ((before ++ one ∷ []) ++ others)) o
more_before before one (Made others m) = ap (λ l. Made l m) (sym (append_assoc before (one ∷ []) others))
more_before before one (Broken cause at) = refl

-- of a list that is not empty, the others
pub others_are : {A : Type 0} (x : A) (xs : List A) → take (length (x ∷ xs) - 1) (drop 1 (x ∷ xs)) ≡ xs
others_are x xs = let n : length (x ∷ xs) - 1 ≡ length xs = omega arith in rw n (grind (arith, common_steps))

pub actions_step : (whole : Outcome (List t.Action)) (b : Block) (list : List c.Action) (x : c.Action) (rest : List c.Action) (made : List t.Action) (one : t.Action) (n m : Notes)
    → whole ≡ and_then (typed_actions b list) (λ others. give (made ++ others)) n → list ≡ x ∷ rest → typed_action (scope_of b) x n ≡ Made one m
    → whole ≡ and_then (typed_actions b rest) (λ others. give ((made ++ one ∷ []) ++ others)) m
actions_step whole b list x rest made one n m is list_is first =
    is ∙ ap (λ l. go_on (λ others. give (made ++ others)) (typed_actions b l n)) list_is
    ∙ ap (λ o. go_on (λ others. give (made ++ others)) (go_on (λ one. and_then (typed_actions b rest) (λ others. give (one ∷ others))) o)) first
    ∙ more_before made one (typed_actions b rest m)

pub labels_step : (whole : Outcome (List Label)) (b : Block) (kind : Kind) (before : List Label) (list : List c.SwitchLabel) (x : c.SwitchLabel) (rest : List c.SwitchLabel) (made : List Label) (one : Label) (n m : Notes)
    → whole ≡ and_then (typed_labels b kind before list) (λ others. give (made ++ others)) n → list ≡ x ∷ rest → typed_label b kind before x n ≡ Made one m
    → whole ≡ and_then (typed_labels b kind (before ++ one ∷ []) rest) (λ others. give ((made ++ one ∷ []) ++ others)) m
labels_step whole b kind before list x rest made one n m is list_is first =
    is ∙ ap (λ l. go_on (λ others. give (made ++ others)) (typed_labels b kind before l n)) list_is
    ∙ ap (λ o. go_on (λ others. give (made ++ others)) (go_on (λ one. and_then (typed_labels b kind (before ++ one ∷ []) rest) (λ others. give (one ∷ others))) o)) first
    ∙ more_before made one (typed_labels b kind (before ++ one ∷ []) rest m)

-- ---- the same of the lists that the code goes through

pub actions_next : (whole : Outcome (List t.Action)) (b : Block) (list : List Act) (d : Act) (made : List TypedAct) (one : TypedAct) (n m : Notes)
    → 1 ≤ length list
    → whole ≡ and_then (typed_actions b (map s.act_view list)) (λ others. give (map act_view made ++ others)) n
    → typed_action (scope_of b) (s.act_view (get_or list 0 d)) n ≡ Made (act_view one) m
    → whole ≡ and_then (typed_actions b (map s.act_view (take (length list - 1) (drop 1 list)))) (λ others. give (map act_view (made ++ one ∷ []) ++ others)) m
actions_next whole b [] d made one n m le is first = absurd (let no : ⊥ = omega (arith, le) in no)
actions_next whole b (x ∷ xs) d made one n m le is first =
    rw (others_are x xs, map-append act_view made (one ∷ []))
    (actions_step whole b (map s.act_view (x ∷ xs)) (s.act_view x) (map s.act_view xs) (map act_view made) (act_view one) n m is refl first)

pub labels_next : (whole : Outcome (List Label)) (b : Block) (kind : Kind) (before : List Label) (list : List SwitchLabel) (d : SwitchLabel) (made : List Label) (one : Label) (n m : Notes)
    → 1 ≤ length list
    → whole ≡ and_then (typed_labels b kind before (map s.label_view list)) (λ others. give (made ++ others)) n
    → typed_label b kind before (s.label_view (get_or list 0 d)) n ≡ Made one m
    → whole ≡ and_then (typed_labels b kind (before ++ one ∷ []) (map s.label_view (take (length list - 1) (drop 1 list)))) (λ others. give ((made ++ one ∷ []) ++ others)) m
labels_next whole b kind before [] d made one n m le is first = absurd (let no : ⊥ = omega (arith, le) in no)
labels_next whole b kind before (x ∷ xs) d made one n m le is first =
    rw (others_are x xs) (labels_step whole b kind before (map s.label_view (x ∷ xs)) (s.label_view x) (map s.label_view xs) made one n m is refl first)

pub acts_last : (acts : List TypedAct) (last : TypedAct) (rest : t.Statements)
    → statements_before (as_statements (map act_view (acts ++ last ∷ []))) rest ≡ statements_before (as_statements (map act_view acts)) (t.statement (t.action (act_view last)) rest)
acts_last [] last rest = refl
acts_last (x ∷ acts) last rest = ap (t.statement (t.action (act_view x))) (acts_last acts last rest)

pub acts_are : (acts : List TypedAct) → map act_view acts ≡ acts_before acts []
acts_are [] = refl
acts_are (x ∷ acts) = ap (λ (l : List t.Action). act_view x ∷ l) (acts_are acts)
