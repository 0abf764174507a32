use Rattle.std.proofs.Common.{◌≡◌, List, ℕ, Option, Some, None, get_or, not, sym, ◌∙◌, ap}
use Rattle.std.specs.Prelude.{bytes_eq, slice_get}
use Rattle.rvt_tree.specs.declared.programs.Function.{Function}
use Rattle.rvt_run.proofs.RunSaid.{numbered_so, there_item, position_below, no_body}
use Rattle.rvt_run.proofs.run.function_named.Goals as goal

pub returns-in-None-clause-none : goal.returns-in-None-clause-none
returns-in-None-clause-none c = λ number function is.
    let none = numbered_so c.args.program.now.functions c.as_slice-functions.result.now c.args.name.now c.as_bytes.result.now c.number_named.result c.as_slice-functions.ensures c.as_bytes.ensures.value c.number_named.ensures in
    let no : ◌≡◌ {A = Option ℕ} None (Some number) = sym c.in-None.is ∙ none ∙ is.named in
    cc

pub returns-then-is_none-clause-none : goal.returns-then-is_none-clause-none
returns-then-is_none-clause-none c = λ number function is.
    let named = numbered_so c.args.program.now.functions c.as_slice-functions.result.now c.args.name.now c.as_bytes.result.now c.number_named.result c.as_slice-functions.ensures c.as_bytes.ensures.value c.number_named.ensures in
    no_body c.args.program.now c.args.name.now c.in-Some.number number function c.index-functions-number.result (sym named ∙ c.in-Some.is)
    (c.index-functions-number.is ∙ ap (λ (fs : List Function). get_or fs c.in-Some.number c.index-functions-number.result) c.as_slice-functions.ensures) (ap not (c.is_none.ensures ∙ ap not c.if-is_none.true)) is

pub returns-clause-some : goal.returns-clause-some
returns-clause-some c =
    let functions = c.args.program.now.functions in
    let slice = c.as_slice-functions.result.now in
    let number = c.in-Some.number in
    let named = numbered_so functions slice c.args.name.now c.as_bytes.result.now c.number_named.result c.as_slice-functions.ensures c.as_bytes.ensures.value c.number_named.ensures in
    let at = there_item slice number c.index-functions-number.result (position_below (λ (f : Function). bytes_eq f.name c.as_bytes.result.now) slice number (sym c.number_named.ensures ∙ c.in-Some.is)) in
    record {
      named = sym named ∙ c.in-Some.is;
      there = ap (λ (fs : List Function). slice_get fs number) (sym c.as_slice-functions.ensures) ∙ at ∙ ap Some (sym c.index-functions-number.is);
      body = c.is_none.ensures ∙ ap not c.if-is_none.false;
    }
