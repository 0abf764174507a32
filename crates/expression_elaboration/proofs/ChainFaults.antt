-- Where a part of a chain fails, so does the chain.
use Rattle.std.proofs.Common.{◌≡◌, ◌∙◌, List, [], ◌∷◌, ◌++◌, map, ap, Err}
use Rattle.std.proofs.lemmas.List.{map-append}
use Rattle.c_syntax.specs.Syntax.{Suffixes, no_suffixes}
use Rattle.expression_typing.specs.Entities.{Scope}
use Rattle.expression_typing.specs.Progress as p
use Rattle.expression_typing.specs.Operands.{Operand, Ends}
use Rattle.expression_typing.specs.CastOperators.{cast_to}
use Rattle.expression_typing.specs.Outcomes.{Outcome, Checking, give}
use Rattle.expression_typing.specs.Expressions.{followed}
use Rattle.typing_base.specs.declared.faults.Fault.{Fault}
use Rattle.typing_base.specs.declared.faults.Fault.TheVariants as F
use Rattle.typing_base.specs.declared.notes.Notes.{Notes}
use Rattle.typing_base.specs.Views.{cause_view}
use Rattle.typing_base.specs.Follows.{BecomesOperand, GivesOperand}
use Rattle.expression_elaboration.specs.Chains.{after, stacked, CastTo, cast_back}
use Rattle.expression_elaboration.proofs.Suffixed.{chain_broken}
use Rattle.expression_elaboration.proofs.CastChains.{cast_fails}

pub cast_fails_with : (whole : Checking Operand) (all casts : List CastTo) (last : CastTo) (x : Operand) (fault : Fault)
    → whole ≡ cast_back all x → all ≡ casts ++ last ∷ [] → GivesOperand (cast_to last.place last.type x) (Err fault) → GivesOperand whole (Err fault)
cast_fails_with whole all casts last x (F.Broken b) is all_is e = cast_fails whole all casts last x (cause_view b.cause) b.place is all_is e
cast_fails_with whole all casts last x F.Memory is all_is e = tt

pub chain_fails : (scope : Scope) (ends : Ends) (whole : Outcome Operand) (all chain : List Suffixes) (suffix : Suffixes) (x : Operand) (n : p.Notes) (fault : Fault) (m k : Notes)
    → whole ≡ followed scope ends (give x) (stacked all no_suffixes) n → all ≡ chain ++ suffix ∷ []
    → BecomesOperand (followed scope ends (give x) (after suffix no_suffixes) n) (Err fault) m → BecomesOperand whole (Err fault) k
chain_fails scope ends whole all chain suffix x n (F.Broken b) m k is all_is e = chain_broken scope ends whole all chain suffix x n (cause_view b.cause) b.place is all_is e
chain_fails scope ends whole all chain suffix x n F.Memory m k is all_is e = tt

pub chain_fails_of : (scope : Scope) (ends : Ends) {X : Type 0} (f : X → Suffixes) (all chain : List X) (suffix : X) (whole : Outcome Operand) (x : Operand) (n : p.Notes) (fault : Fault) (m k : Notes)
    → whole ≡ followed scope ends (give x) (stacked (map f all) no_suffixes) n → all ≡ chain ++ suffix ∷ []
    → BecomesOperand (followed scope ends (give x) (after (f suffix) no_suffixes) n) (Err fault) m → BecomesOperand whole (Err fault) k
chain_fails_of scope ends f all chain suffix whole x n fault m k is all_is e =
    chain_fails scope ends whole (map f all) (map f chain) (f suffix) x n fault m k is (ap (map f) all_is ∙ map-append f chain (suffix ∷ [])) e
