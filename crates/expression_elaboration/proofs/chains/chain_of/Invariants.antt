use Rattle.std.proofs.Common.{◌≡◌, ◌≤◌, map}
use Rattle.std.specs.List.{All}
use Rattle.c_syntax.specs.Views.{suffixes_view}
use Rattle.c_syntax.specs.declared.expressions.Suffixes.{size-Suffixes}
use Rattle.expression_elaboration.specs.Chains.{stacked}
use Rattle.expression_elaboration.proofs.chains.chain_of.Given as goal

abbrev pub invariant-suffixes : goal.invariant-suffixes
invariant-suffixes l = record {
  chain : stacked (map (λ s. suffixes_view s.now) l.chain.items) (suffixes_view l.rest) ≡ suffixes_view l.fn.suffixes;
  no_deeper : All (λ s. size-Suffixes s.now ≤ size-Suffixes l.fn.suffixes) l.chain.items;
  rest_no_deeper : size-Suffixes l.rest ≤ size-Suffixes l.fn.suffixes;
}

abbrev pub decreases-suffixes : goal.decreases-suffixes
decreases-suffixes l = size-Suffixes l.rest
