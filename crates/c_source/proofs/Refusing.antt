-- Bytes that are refused are no file, and others are one.
use Rattle.std.proofs.Common.{◌≡◌, ℕ, ◌≤◌, List, Some, length, sym, ◌∙◌, ap, subst}
use Rattle.c_syntax.specs.Syntax.{ExternalItem}
use Rattle.c_lexer.specs.declared.tokens.Token.{Token}
use Rattle.c_lexer.specs.Spells.{Spells, max_tokens}
use Rattle.c_parser.specs.declared.symbol.Step.{Step}
use Rattle.c_parser.specs.File.{IsFile, IsNoFile, IsOnly}
use Rattle.c_parser.specs.State.{max_levels}
use Rattle.c_grammar.specs.declared.grammar.Action.{Action}
use Rattle.c_grammar.specs.Grammar.{rules}
use Rattle.c_grammar.specs.Terminals.{terminals_of}
use Rattle.file_actions.specs.Tree.{items_of}
use Rattle.c_source.specs.Source.{IsSource}

pub no_tokens_none : (bytes : List ℕ) → ((tokens : List Token) → Spells bytes tokens → length tokens ≤ max_tokens → ⊥) → (items : List ExternalItem) → IsSource bytes items → ⊥
no_tokens_none bytes none items source = none source.tokens source.spelled source.few

pub no_steps_none : (bytes : List ℕ) (tokens : List Token) → ((others : List Token) → Spells bytes others → others ≡ tokens) → IsNoFile rules (terminals_of bytes tokens)
    → (items : List ExternalItem) → IsSource bytes items → ⊥
no_steps_none bytes tokens only none items source =
    none source.steps (subst (λ ts. IsFile rules max_levels (terminals_of bytes ts) source.steps) (only source.tokens source.spelled) source.only.is)

pub one_tree : (bytes : List ℕ) (tokens : List Token) (steps : List (Step Action)) (tree : List ExternalItem) → ((others : List Token) → Spells bytes others → others ≡ tokens) →
    IsOnly rules (terminals_of bytes tokens) steps → items_of bytes tokens steps ≡ Some tree → (items : List ExternalItem) → IsSource bytes items → items ≡ tree
one_tree bytes tokens steps tree only_tokens only_steps made items source =
    let same_tokens : source.tokens ≡ tokens = only_tokens source.tokens source.spelled in
    let file : IsFile rules max_levels (terminals_of bytes tokens) source.steps = subst (λ ts. IsFile rules max_levels (terminals_of bytes ts) source.steps) same_tokens source.only.is in
    let same_steps : source.steps ≡ steps = only_steps.only max_levels source.steps file in
    let both : Some items ≡ Some tree = sym source.made ∙ ap (λ ts. items_of bytes ts source.steps) same_tokens ∙ ap (items_of bytes tokens) same_steps ∙ made in
    cc
