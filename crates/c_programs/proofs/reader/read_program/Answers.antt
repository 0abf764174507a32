use Rattle.std.proofs.Common.{sym, ◌∙◌, ap, subst}
use Rattle.std.specs.Prelude.{map}
use Rattle.c_source.specs.Source.{IsSource}
use Rattle.c_syntax.specs.Views.{item_view}
use Rattle.c_programs.specs.Readings.{IsFirstFault, NoReadingWhere}
use Rattle.c_programs.proofs.Refusing.{first_of_source, none_of_source, none_of_items, only_program, first_of_items}
use Rattle.c_programs.proofs.reader.read_program.Goals as goal

pub returns-in-Err-clause-refused : goal.returns-in-Err-clause-refused
returns-in-Err-clause-refused c = first_of_source c.args.bytes.now c.in-Err.fault c.in-Err.ensures.refused

pub returns-in-Err-clause-none : goal.returns-in-Err-clause-none
returns-in-Err-clause-none c = none_of_source c.args.bytes.now c.in-Err.fault c.in-Err.ensures.none

pub returns-in-Ok-elaborate-clause-only : goal.returns-in-Ok-elaborate-clause-only
returns-in-Ok-elaborate-clause-only c =
    only_program c.args.bytes.now (map item_view c.as_slice.result.now)
    (λ others source. c.in-Ok.ensures.only others source ∙ ap (map item_view) (sym c.as_slice.ensures))
    c.one_answer.ensures c.in-Ok-elaborate.program c.in-Ok-elaborate.ensures

pub returns-clause-refused : goal.returns-clause-refused
returns-clause-refused c =
    subst (IsFirstFault c.args.bytes.now) (sym c.refused.ensures)
    (first_of_items c.args.bytes.now (map item_view c.as_slice.result.now)
    (subst (IsSource c.args.bytes.now) (ap (map item_view) (sym c.as_slice.ensures)) c.in-Ok.ensures.file)
    c.in-Err-elaborate.fault c.in-Err-elaborate.ensures)

pub returns-clause-none : goal.returns-clause-none
returns-clause-none c =
    subst (NoReadingWhere c.args.bytes.now) (sym c.refused.ensures)
    (none_of_items c.args.bytes.now (map item_view c.as_slice.result.now)
    (λ others source. c.in-Ok.ensures.only others source ∙ ap (map item_view) (sym c.as_slice.ensures))
    c.one_answer.ensures c.in-Err-elaborate.fault c.in-Err-elaborate.ensures)
