-- What each action on statements makes of what was read (C 6.8): `None` where a value is missing.
use Rattle.std.specs.Prelude.{[], ◌∷◌, ◌++◌, Option, Some, None}
use Rattle.rvt_tree.specs.declared.places.Place.{Place}
use Rattle.c_syntax.specs.Syntax as syntax
use Rattle.c_syntax.specs.Syntax.{block_of, groups_of}
use Rattle.file_actions.specs.Stacks.{Values}
use Rattle.file_actions.specs.Moves.{take_token, take_expression, take_declaration, take_act, take_statement, take_parts, take_label, take_labels, take_groups, take_start, take_test, take_last, take_listed, push_statement, push_parts, push_label, push_labels, push_groups, push_start, push_test, push_last}

-- a block begins; one more part of it; `{ .. }`, at its `{`
abbrev pub no_parts : Values → Option Values
no_parts v = push_parts [] v

abbrev pub add_local : Values → Option Values
add_local v = take_declaration v (λ declaration v. take_parts v (λ parts v. push_parts (parts ++ syntax.local_declaration declaration ∷ []) v))

abbrev pub add_stmt : Values → Option Values
add_stmt v = take_statement v (λ statement v. take_parts v (λ parts v. push_parts (parts ++ syntax.inner_statement statement ∷ []) v))

abbrev pub block : Values → Option Values
block v = take_token v (λ brace v. take_parts v (λ parts v. push_statement (syntax.compound brace.word.place (block_of parts)) v))

abbrev pub empty : Place → Values → Option Values
empty place v = push_statement (syntax.null_statement place) v

abbrev pub act_stmt : Values → Option Values
act_stmt v = take_act v (λ act v. push_statement (syntax.action act) v)

abbrev pub break_stmt : Place → Values → Option Values
break_stmt place v = push_statement (syntax.break_statement place) v

abbrev pub continue_stmt : Place → Values → Option Values
continue_stmt place v = push_statement (syntax.continue_statement place) v

abbrev pub return_stmt : Values → Option Values
return_stmt v = take_token v (λ token v. push_statement (syntax.return_statement token.word.place) v)

abbrev pub return_value : Values → Option Values
return_value v = take_token v (λ token v. take_expression v (λ e v. push_statement (syntax.return_value token.word.place e) v))

-- `if (test) first`, and with `else second`
abbrev pub if_stmt : Values → Option Values
if_stmt v = take_token v (λ token v. take_expression v (λ test v. take_statement v (λ first v. push_statement (syntax.if_statement token.word.place test first) v)))

abbrev pub if_else : Values → Option Values
if_else v = take_token v (λ token v. take_expression v (λ test v. take_statement v (λ second v. take_statement v (λ first v. push_statement (syntax.if_else token.word.place test first second) v))))

abbrev pub while_stmt : Values → Option Values
while_stmt v = take_token v (λ token v. take_expression v (λ test v. take_statement v (λ body v. push_statement (syntax.while_loop token.word.place test body) v)))

abbrev pub do_stmt : Values → Option Values
do_stmt v = take_token v (λ token v. take_expression v (λ test v. take_statement v (λ body v. push_statement (syntax.do_loop token.word.place body test) v)))

-- `for (start; test; last) body`, and the three parts of its header
abbrev pub for_stmt : Values → Option Values
for_stmt v = take_token v (λ token v. take_start v (λ start v. take_test v (λ test v. take_last v (λ last v. take_statement v (λ body v. push_statement (syntax.for_loop token.word.place start test last body) v)))))

abbrev pub for_local : Values → Option Values
for_local v = take_declaration v (λ declaration v. push_start (syntax.starts_with_declaration declaration) v)

abbrev pub for_acts : Values → Option Values
for_acts v = take_listed v (λ acts v. push_start (syntax.starts_with_actions acts) v)

abbrev pub for_nothing : Values → Option Values
for_nothing v = push_start syntax.starts_with_nothing v

abbrev pub for_cond : Values → Option Values
for_cond v = take_expression v (λ test v. push_test (Some test) v)

abbrev pub for_ever : Values → Option Values
for_ever v = push_test None v

abbrev pub for_step : Values → Option Values
for_step v = take_listed v (λ acts v. push_last acts v)

abbrev pub no_step : Values → Option Values
no_step v = push_last [] v

-- the groups of a `switch` begin; the labels of a group begin; one more label; one more group; the `switch`
abbrev pub no_groups : Values → Option Values
no_groups v = push_groups [] v

abbrev pub no_labels : Values → Option Values
no_labels v = push_labels [] v

abbrev pub add_label : Values → Option Values
add_label v = take_label v (λ one v. take_labels v (λ list v. push_labels (list ++ one ∷ []) v))

abbrev pub add_group : Values → Option Values
add_group v = take_parts v (λ parts v. take_labels v (λ list v. take_groups v (λ groups v. push_groups (groups ++ syntax.labelled list (block_of parts) ∷ []) v)))

abbrev pub switch_stmt : Values → Option Values
switch_stmt v = take_token v (λ token v. take_expression v (λ e v. take_groups v (λ groups v. push_statement (syntax.switch token.word.place e (groups_of groups)) v)))

abbrev pub case_label : Values → Option Values
case_label v = take_token v (λ token v. take_expression v (λ e v. push_label (syntax.case_label token.word.place e) v))

abbrev pub default_label : Place → Values → Option Values
default_label place v = push_label (syntax.default_label place) v
