use Rattle.std.proofs.Common.{◌≡◌, ◌≤◌, ◌+◌, ◌*◌, ◌++◌, map, length, vec_len}
use Rattle.std.specs.List.{All}
use Rattle.c_types.specs.Layout.{shape_of}
use Rattle.rvt_tree.specs.Views.{exprs_before}
use Rattle.c_syntax.specs.Syntax.{no_suffixes}
use Rattle.c_syntax.specs.Views.{exprs_view, suffixes_view, casts_view, dims_view}
use Rattle.c_syntax.specs.declared.expressions.Expr.{size-Expr}
use Rattle.c_syntax.specs.declared.expressions.Exprs.{size-Exprs}
use Rattle.c_syntax.specs.declared.expressions.Suffixes.{size-Suffixes}
use Rattle.c_syntax.specs.declared.expressions.Casts.{size-Casts}
use Rattle.c_syntax.specs.declared.expressions.Dim.{size-Dim}
use Rattle.c_syntax.specs.declared.expressions.Dims.{size-Dims}
use Rattle.expression_typing.specs.Outcomes.{and_then, give}
use Rattle.expression_typing.specs.FunctionCalls.{count}
use Rattle.expression_typing.specs.Expressions.{passed, followed, lengths}
use Rattle.typing_base.specs.Views.{operand_view, scope_view, notes_view}
use Rattle.place_rules.specs.Views.{ends_view}
use Rattle.expression_elaboration.specs.Views.{cast_view}
use Rattle.expression_elaboration.specs.Chains.{stacked, types_in_turn}
use Rattle.expression_elaboration.proofs.expressions.+typed.Given as goal

-- what is left gives, behind what is made, what the whole gave from the start

abbrev pub invariant-passed-arguments : goal.invariant-passed-arguments
invariant-passed-arguments l = record {
  no_deeper : size-Exprs l.rest ≤ size-Exprs l.initial.rest;
  number : length l.made.items + count (exprs_view l.rest) ≡ count (exprs_view l.initial.rest);
  same_outcome : passed (scope_view l.scope) (map shape_of l.initial.params) (exprs_view l.initial.rest) (notes_view l.initial.notes)
      ≡ and_then (passed (scope_view l.scope) (map shape_of l.params) (exprs_view l.rest)) (λ values. give (exprs_before l.made.items values)) (notes_view l.notes);
}

abbrev pub invariant-followed-suffixes : goal.invariant-followed-suffixes
invariant-followed-suffixes l = record {
  no_deeper : All (λ s. size-Suffixes s.now ≤ size-Suffixes l.fn.suffixes) l.chain.items;
  same_outcome : followed (scope_view l.scope) (ends_view l.ends) (give (operand_view l.initial.x)) (suffixes_view l.fn.suffixes) (notes_view l.initial.notes)
      ≡ followed (scope_view l.scope) (ends_view l.ends) (give (operand_view l.x)) (stacked (map (λ s. suffixes_view s.now) l.chain.items) no_suffixes) (notes_view l.notes);
}

abbrev pub decreases-followed-suffixes : goal.decreases-followed-suffixes
decreases-followed-suffixes l = vec_len l.chain

abbrev pub invariant-types_in_turn-casts : goal.invariant-types_in_turn-casts
invariant-types_in_turn-casts l = record {
  no_deeper : size-Casts l.rest ≤ size-Casts l.initial.rest;
  same_outcome : types_in_turn (scope_view l.scope) (casts_view l.initial.rest) (notes_view l.initial.notes)
      ≡ and_then (types_in_turn (scope_view l.scope) (casts_view l.rest)) (λ others. give (map cast_view l.made.items ++ others)) (notes_view l.notes);
}

abbrev pub invariant-lengths-dimensions : goal.invariant-lengths-dimensions
invariant-lengths-dimensions l = record {
  no_deeper : size-Dims l.rest ≤ size-Dims l.initial.rest;
  same_outcome : lengths (scope_view l.scope) (dims_view l.initial.rest) (notes_view l.initial.notes)
      ≡ and_then (lengths (scope_view l.scope) (dims_view l.rest)) (λ others. give (l.made.items ++ others)) (notes_view l.notes);
}

-- how deep the tree is that each walks; among those that walk the same tree, the caller first

abbrev pub decreases-typed : goal.decreases-typed
decreases-typed l = 3 * size-Expr l.e.now

abbrev pub decreases-operand : goal.decreases-operand
decreases-operand l = 3 * size-Expr l.e.now + 1

abbrev pub decreases-call : goal.decreases-call
decreases-call l = 3 * size-Exprs l.arguments.now + 1

abbrev pub decreases-passed : goal.decreases-passed
decreases-passed l = 3 * size-Exprs l.arguments.now

abbrev pub decreases-argument : goal.decreases-argument
decreases-argument l = 3 * size-Expr l.e.now + 2

abbrev pub decreases-followed : goal.decreases-followed
decreases-followed l = 3 * size-Suffixes l.suffixes.now + 1

abbrev pub decreases-followed_by : goal.decreases-followed_by
decreases-followed_by l = 3 * size-Suffixes l.suffix.now

abbrev pub decreases-types_in_turn : goal.decreases-types_in_turn
decreases-types_in_turn l = 3 * size-Casts l.casts.now

abbrev pub decreases-written_type : goal.decreases-written_type
decreases-written_type l = 3 * size-Dims l.dims.now + 1

abbrev pub decreases-lengths : goal.decreases-lengths
decreases-lengths l = 3 * size-Dims l.dims.now

abbrev pub decreases-length_of : goal.decreases-length_of
decreases-length_of l = 3 * size-Dim l.dim.now

abbrev pub decreases-constant : goal.decreases-constant
decreases-constant l = 3 * size-Expr l.e.now + 2
