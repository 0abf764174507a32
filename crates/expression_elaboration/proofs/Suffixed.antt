-- A chain of suffixes from the first to the last.
use Rattle.std.proofs.Common.{◌≡◌, ◌∙◌, List, [], ◌∷◌, ◌++◌, map, ap, refl}
use Rattle.std.proofs.lemmas.List.{map-append}
use Rattle.rvt_tree.specs.declared.places.Place.{Place}
use Rattle.c_syntax.specs.Syntax.{Expression, Suffixes, Suffixes as s}
use Rattle.expression_typing.specs.Entities.{Scope}
use Rattle.expression_typing.specs.Progress.{Notes}
use Rattle.expression_typing.specs.Operands.{Operand, Ends, converted_operand}
use Rattle.expression_typing.specs.ArraySubscripting.{element_of}
use Rattle.expression_typing.specs.StructMembers.{member_of, arrow_of}
use Rattle.expression_typing.specs.FirstTokens.{ends_of}
use Rattle.expression_typing.specs.Outcomes.{Cause, Outcome, Made, Broken, Checking, go_on, give, broken, and_then}
use Rattle.expression_typing.specs.Expressions.{typed, operand, followed}
use Rattle.expression_elaboration.specs.Chains.{after, stacked}

module _ (scope : Scope) (ends : Ends) where
  -- one suffix more on both sides
  after_alike : (suffix a b : Suffixes) (p q : Checking Operand) (n m : Notes)
      → followed scope ends p a n ≡ followed scope ends q b m → followed scope ends p (after suffix a) n ≡ followed scope ends q (after suffix b) m
  after_alike s.no_suffixes a b p q n m e = e
  after_alike (s.index at i _) a b p q n m e =
      ap (go_on (λ x. and_then (and_then (typed scope i) (converted_operand scope (ends_of i))) (λ y. element_of scope.structs at x y))) e
  after_alike (s.dot at word _) a b p q n m e = ap (go_on (member_of scope.structs at word)) e
  after_alike (s.arrow at word _) a b p q n m e = ap (λ o. go_on (arrow_of scope.structs at word) (go_on (converted_operand scope ends) o)) e

  -- what they follow counts by its outcome alone
  pub same_start : (p q : Checking Operand) (n m : Notes) → p n ≡ q m → (suffixes : Suffixes) → followed scope ends p suffixes n ≡ followed scope ends q suffixes m
  same_start p q n m e s.no_suffixes = e
  same_start p q n m e (s.index at i before) = after_alike (s.index at i before) before before p q n m (same_start p q n m e before)
  same_start p q n m e (s.dot at word before) = after_alike (s.dot at word before) before before p q n m (same_start p q n m e before)
  same_start p q n m e (s.arrow at word before) = after_alike (s.arrow at word before) before before p q n m (same_start p q n m e before)

  broken_start : (cause : Cause) (at : Place) (n : Notes) (suffixes : Suffixes) → followed scope ends (broken cause at) suffixes n ≡ Broken cause at
  broken_start cause at n s.no_suffixes = refl
  broken_start cause at n (s.index here i before) =
      ap (go_on (λ x. and_then (and_then (typed scope i) (converted_operand scope (ends_of i))) (λ y. element_of scope.structs here x y))) (broken_start cause at n before)
  broken_start cause at n (s.dot here word before) = ap (go_on (member_of scope.structs here word)) (broken_start cause at n before)
  broken_start cause at n (s.arrow here word before) =
      ap (λ o. go_on (arrow_of scope.structs here word) (go_on (converted_operand scope ends) o)) (broken_start cause at n before)

  pub starts : (p : Checking Operand) (x : Operand) (n m : Notes) → p n ≡ Made x m → (suffixes : Suffixes) → followed scope ends p suffixes n ≡ followed scope ends (give x) suffixes m
  starts p x n m e suffixes = same_start p (give x) n m e suffixes

  pub starts_broken : (p : Checking Operand) (cause : Cause) (at : Place) (n : Notes) → p n ≡ Broken cause at → (suffixes : Suffixes) → followed scope ends p suffixes n ≡ Broken cause at
  starts_broken p cause at n e suffixes = same_start p (broken cause at) n n e suffixes ∙ broken_start cause at n suffixes

  stacked_last : (chain : List Suffixes) (suffix before : Suffixes) → stacked (chain ++ suffix ∷ []) before ≡ stacked chain (after suffix before)
  stacked_last [] suffix before = refl
  stacked_last (x ∷ chain) suffix before = ap (after x) (stacked_last chain suffix before)

  stacked_follows : (chain : List Suffixes) (before : Suffixes) (p : Checking Operand) (n : Notes)
      → followed scope ends p (stacked chain before) n ≡ followed scope ends (followed scope ends p before) (stacked chain s.no_suffixes) n
  stacked_follows [] before p n = refl
  stacked_follows (x ∷ chain) before p n = after_alike x (stacked chain before) (stacked chain s.no_suffixes) p (followed scope ends p before) n n (stacked_follows chain before p n)

  first_of_chain : (chain : List Suffixes) (suffix : Suffixes) (p : Checking Operand) (n : Notes)
      → followed scope ends p (stacked (chain ++ suffix ∷ []) s.no_suffixes) n
      ≡ followed scope ends (followed scope ends p (after suffix s.no_suffixes)) (stacked chain s.no_suffixes) n
  first_of_chain chain suffix p n =
      ap (λ t. followed scope ends p t n) (stacked_last chain suffix s.no_suffixes) ∙ stacked_follows chain (after suffix s.no_suffixes) p n

  -- the first suffix of a chain, and then the others
  pub chain_step : (whole : Outcome Operand) (all chain : List Suffixes) (suffix : Suffixes) (x y : Operand) (n m : Notes)
      → whole ≡ followed scope ends (give x) (stacked all s.no_suffixes) n → all ≡ chain ++ suffix ∷ []
      → followed scope ends (give x) (after suffix s.no_suffixes) n ≡ Made y m
      → whole ≡ followed scope ends (give y) (stacked chain s.no_suffixes) m
  chain_step whole all chain suffix x y n m is all_is made =
      is ∙ ap (λ l. followed scope ends (give x) (stacked l s.no_suffixes) n) all_is ∙ first_of_chain chain suffix (give x) n
      ∙ starts (followed scope ends (give x) (after suffix s.no_suffixes)) y n m made (stacked chain s.no_suffixes)

  pub chain_broken : (whole : Outcome Operand) (all chain : List Suffixes) (suffix : Suffixes) (x : Operand) (n : Notes) (cause : Cause) (at : Place)
      → whole ≡ followed scope ends (give x) (stacked all s.no_suffixes) n → all ≡ chain ++ suffix ∷ []
      → followed scope ends (give x) (after suffix s.no_suffixes) n ≡ Broken cause at
      → whole ≡ Broken cause at
  chain_broken whole all chain suffix x n cause at is all_is made =
      is ∙ ap (λ l. followed scope ends (give x) (stacked l s.no_suffixes) n) all_is ∙ first_of_chain chain suffix (give x) n
      ∙ starts_broken (followed scope ends (give x) (after suffix s.no_suffixes)) cause at n made (stacked chain s.no_suffixes)

pub stacked_push : (chain : List Suffixes) (suffix before whole : Suffixes) → stacked chain suffix ≡ whole → after suffix before ≡ suffix → stacked (chain ++ suffix ∷ []) before ≡ whole
stacked_push [] suffix before whole is after_is = after_is ∙ is
stacked_push (x ∷ chain) suffix before whole is after_is = ap (after x) (stacked_push chain suffix before (stacked chain suffix) refl after_is) ∙ is

pub stacked_push_of : {X : Type 0} (f : X → Suffixes) (new items : List X) (x : X) (before whole : Suffixes)
    → new ≡ items ++ x ∷ [] → stacked (map f items) (f x) ≡ whole → after (f x) before ≡ f x → stacked (map f new) before ≡ whole
stacked_push_of f new items x before whole e is after_is =
    ap (λ l. stacked (map f l) before) e ∙ ap (λ l. stacked l before) (map-append f items (x ∷ [])) ∙ stacked_push (map f items) (f x) before whole is after_is

pub chain_step_of : (scope : Scope) (ends : Ends) {X : Type 0} (f : X → Suffixes) (all chain : List X) (suffix : X) (whole : Outcome Operand) (x y : Operand) (n m : Notes)
    → whole ≡ followed scope ends (give x) (stacked (map f all) s.no_suffixes) n → all ≡ chain ++ suffix ∷ []
    → followed scope ends (give x) (after (f suffix) s.no_suffixes) n ≡ Made y m
    → whole ≡ followed scope ends (give y) (stacked (map f chain) s.no_suffixes) m
chain_step_of scope ends f all chain suffix whole x y n m is all_is made =
    chain_step scope ends whole (map f all) (map f chain) (f suffix) x y n m is (ap (map f) all_is ∙ map-append f chain (suffix ∷ [])) made

pub index_after : (scope : Scope) (ends : Ends) (suffix before : Suffixes) (at : Place) (i : Expression) (x y : Operand) (n m : Notes)
    → suffix ≡ s.index at i before → operand scope i n ≡ Made y m
    → followed scope ends (give x) (after suffix s.no_suffixes) n ≡ element_of scope.structs at x y m
index_after scope ends suffix before at i x y n m is i_is =
    ap (λ t. followed scope ends (give x) (after t s.no_suffixes) n) is ∙ ap (go_on (λ y. element_of scope.structs at x y)) i_is
