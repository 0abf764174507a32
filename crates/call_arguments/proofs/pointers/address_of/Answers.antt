use Rattle.std.proofs.Common.{◌≡◌, Some, None, [], lit<}
use Rattle.std.proofs.lemmas.Str.Pattern.{strip_prefix_char, strip_suffix_char}
use Rattle.call_arguments.proofs.AddressLemmas.{no_end, split_some, split_none}
use Rattle.call_arguments.proofs.pointers.address_of.Goals as goal

pub returns-in-None-clause-none : goal.returns-in-None-clause-none
returns-in-None-clause-none c = λ name digits is. strip_prefix_char 38 c.args.word.now None c.in-None.ensures.cases (lit< tt) _ is.written

pub returns-in-None-strip_suffix-clause-none : goal.returns-in-None-strip_suffix-clause-none
returns-in-None-strip_suffix-clause-none c =
    no_end c.args.word.now c.in-Some.text.now [] (strip_prefix_char 38 c.args.word.now (Some c.in-Some.text) c.in-Some.ensures.cases (lit< tt))
    (strip_suffix_char 93 c.in-Some.text.now None c.in-None-strip_suffix.ensures.cases (lit< tt))

pub returns-clause-some : goal.returns-clause-some
returns-clause-some c =
    split_some c.args.word.now c.in-Some.text.now c.in-Some-strip_suffix.inside.now c.split_once.result
    (strip_prefix_char 38 c.args.word.now (Some c.in-Some.text) c.in-Some.ensures.cases (lit< tt))
    (strip_suffix_char 93 c.in-Some.text.now (Some c.in-Some-strip_suffix.inside) c.in-Some-strip_suffix.ensures.cases (lit< tt)) c.split_once.ensures.cases

pub returns-clause-none : goal.returns-clause-none
returns-clause-none c =
    split_none c.args.word.now c.in-Some.text.now c.in-Some-strip_suffix.inside.now c.split_once.result
    (strip_prefix_char 38 c.args.word.now (Some c.in-Some.text) c.in-Some.ensures.cases (lit< tt))
    (strip_suffix_char 93 c.in-Some.text.now (Some c.in-Some-strip_suffix.inside) c.in-Some-strip_suffix.ensures.cases (lit< tt)) c.split_once.ensures.cases
