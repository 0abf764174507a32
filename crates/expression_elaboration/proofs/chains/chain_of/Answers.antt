use Rattle.std.proofs.Common.{◌≤◌, arith, subst, sym}
use Rattle.std.specs.List.{All}
use Rattle.std.proofs.lemmas.List.Elements.{All-push}
use Rattle.c_syntax.specs.Views.{suffixes_view}
use Rattle.c_syntax.specs.declared.expressions.Suffixes.{size-Suffixes}
use Rattle.expression_elaboration.proofs.Suffixed.{stacked_push_of}
use Rattle.expression_elaboration.proofs.chains.chain_of.Goals as goal

pub suffixes-preserved : goal.suffixes-preserved
suffixes-preserved c = record {
  chain = stacked_push_of (λ s. suffixes_view s.now) c.put_suffix.new.chain.items c.suffixes.chain.items c.suffixes.rest (suffixes_view c.in-Some.earlier.now) (suffixes_view c.args.suffixes.now)
      c.in_ok-put_suffix-in-Some.ensures c.suffixes.invariant.chain c.in-Some.ensures.0;
  no_deeper = subst (λ l. All (λ s. size-Suffixes s.now ≤ size-Suffixes c.args.suffixes.now) l) (sym c.in_ok-put_suffix-in-Some.ensures)
      (All-push (λ s. size-Suffixes s.now ≤ size-Suffixes c.args.suffixes.now) c.suffixes.chain.items c.suffixes.rest c.suffixes.invariant.no_deeper c.suffixes.invariant.rest_no_deeper);
  rest_no_deeper = omega (arith, c.in-Some.ensures.1, c.suffixes.invariant.rest_no_deeper);
}
