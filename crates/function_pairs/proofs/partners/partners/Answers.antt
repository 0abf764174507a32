use Rattle.std.proofs.Common.{◌≡◌, ◌+◌, ◌++◌, List, Option, ℕ, drop, ap, sym, ◌∙◌}
use Rattle.rvt_tree.specs.declared.programs.Function.{Function}
use Rattle.function_pairs.specs.Sides.{partner_among, partners_among}
use Rattle.function_pairs.proofs.SideLemmas.{next_partner}
use Rattle.function_pairs.proofs.partners.partners.Goals as goal

pub loop-number-preserved : goal.loop-number-preserved
loop-number-preserved c =
    let own = c.args.own.now in
    let other = c.args.other.now in
    let functions = c.args.functions.now in
    let number = c.loop-number.number in
    let function = c.index-functions-number.result in
    let name_is : c.bytes-name.result.now ≡ function.name = c.bytes-name.ensures ∙ ap (λ (f : Function). f.name) (sym c.index-functions-number.is) in
    let is : c.partner.result ≡ partner_among own other number function.name = c.partner.ensures ∙ ap (partner_among own other number) name_is in
    ap (λ (items : List (Option ℕ)). items ++ partners_among own other (number + 1) (drop (number + 1) functions)) c.in_ok-push.ensures.items
    ∙ next_partner own other functions c.loop-number.partners.items number function c.partner.result c.loop-number-test.true c.index-functions-number.is is
    ∙ c.loop-number.invariant
