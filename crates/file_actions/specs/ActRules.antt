-- What each action on expression statements makes of what was read (C 6.8.3): `None` where a value is missing.
use Rattle.std.specs.Prelude.{◌++◌, Option}
use Rattle.rvt_tree.specs.declared.places.Place.{Place}
use Rattle.c_syntax.specs.Syntax as syntax
use Rattle.c_tokens.specs.declared.tokens.TokenClass.{TokenClass}
use Rattle.expression_actions.specs.Operators.{setting_of, step_of}
use Rattle.file_actions.specs.Stacks.{Values}
use Rattle.file_actions.specs.Moves.{take_token, take_expression, take_act, push_act, add_listed}

-- one more act of a `for` header
abbrev pub add_act : Values → Option Values
add_act v = take_act v (λ act v. add_listed act v)

-- `++a` and `a++` and their like, at the operator
abbrev pub step_before : Values → Option Values
step_before v = take_token v (λ token v. take_expression v (λ target v. push_act (syntax.step_before (step_of token.class) token.word.place target) v))

abbrev pub step_after : TokenClass → Place → Values → Option Values
step_after class place v = take_expression v (λ target v. push_act (syntax.step_after (step_of class) place target) v)

-- `(void) e`, at its `(`
abbrev pub discard : Values → Option Values
discard v = take_token v (λ bracket v. take_expression v (λ e v. push_act (syntax.discard bracket.word.place e) v))

-- `left = right` and its like, at the operator
abbrev pub assign : Values → Option Values
assign v = take_token v (λ token v. take_expression v (λ right v. take_expression v (λ left v. push_act (syntax.assign (setting_of token.class) token.word.place left right) v)))

abbrev pub evaluate : Values → Option Values
evaluate v = take_expression v (λ e v. push_act (syntax.evaluate e) v)
