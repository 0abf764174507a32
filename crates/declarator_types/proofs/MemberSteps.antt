-- One more member of an initializer in braces.
use Rattle.std.proofs.Common.{◌≡◌, ◌≤◌, ◌∙◌, ◌+◌, ℕ, suc, List, [], ◌∷◌, ◌++◌, Option, Some, None, Box, ap, refl, sym, arith}
use Rattle.std.specs.declared.alloc.Global.{Global}
use Rattle.rvt_tree.specs.Syntax as t
use Rattle.rvt_tree.specs.Views.{init_view, inits_view, inits_before}
use Rattle.rvt_tree.specs.declared.statements.Init.{Init}
use Rattle.rvt_tree.specs.declared.statements.Inits.{Inits}
use Rattle.rvt_tree.specs.declared.places.Place.{Place}
use Rattle.c_types.specs.Layout.{Shape}
use Rattle.c_syntax.specs.Syntax as s
use Rattle.c_syntax.specs.declared.declarations.Value.{Value}
use Rattle.c_syntax.specs.declared.declarations.Values.{Values, More, size-Values}
use Rattle.c_syntax.specs.declared.declarations.Value.TheViews as V
use Rattle.expression_typing.specs.Entities.{Scope}
use Rattle.expression_typing.specs.Progress.{Notes}
use Rattle.expression_typing.specs.Outcomes.{Cause, Outcome, Made, Broken, give, go_on, and_then, wanted, wrong_type}
use Rattle.file_typing.specs.Initializers.{Asked, member_of, size_of, first_token_of, typed_initializer, typed_members}
use Rattle.std.specs.Result.{IsErrAnd}
use Rattle.std.specs.Prelude.{Result, Ok, Err}
use Rattle.typing_base.specs.declared.faults.Fault.{Fault}
use Rattle.typing_base.specs.declared.faults.Fault.TheVariants as F
use Rattle.typing_base.specs.declared.notes.Notes.{Notes as TheNotes}
use Rattle.typing_base.specs.Follows.{Becomes}
use Rattle.typing_base.specs.Views.{cause_view}
use Rattle.declarator_types.specs.Views.{member_view}
use Rattle.declarator_types.specs.Members.{typed_member}

pub values_no_deeper : (list : Values) (i : Value) (rest : Box Values Global) → list ≡ More i rest → size-Values rest.value ≤ size-Values list
values_no_deeper list i rest is = let same : size-Values list ≡ size-Values (More i rest) = ap size-Values is in omega (arith, same ∙ V.deep-More' i _ rest.value)

inits_before_append : (before : List (Init × ℕ)) (member : Init × ℕ) (others : t.Initializers) →
    inits_before (before ++ member ∷ []) others ≡ inits_before before (t.initializer (init_view member.0) member.1 others)
inits_before_append [] member others = refl
inits_before_append (x ∷ before) member others = ap (t.initializer (init_view x.0) x.1) (inits_before_append before member others)

give_before : (before : List (Init × ℕ)) (member : Init × ℕ) (o : Outcome t.Initializers) →
    go_on (λ others. give (inits_before before others)) (go_on (λ others. give (t.initializer (init_view member.0) member.1 others)) o)
    ≡ go_on (λ others. give (inits_before (before ++ member ∷ []) others)) o
give_before before member (Made others notes) = ap (λ l. Made l notes) (sym (inits_before_append before member others))
give_before before member (Broken cause at) = refl

module _ (scope : Scope) (asked : Asked) where
  member_first : (shape : Shape) (number : ℕ) (i : s.Initializer) (rest : s.Initializers) (notes : Notes) →
      typed_members scope asked shape number (s.initializer i rest) notes
      ≡ and_then (typed_member scope asked shape number i) (λ member. and_then (typed_members scope asked shape (suc number) rest) (λ others. give (t.initializer member.0 member.1 others))) notes
  member_first shape number i rest notes = at (member_of scope.structs shape number) where
    made : (member : Shape) (o : Outcome t.Initializer) →
        go_on (λ first. and_then (typed_members scope asked shape (suc number) rest) (λ others. give (t.initializer first (size_of scope.structs member) others))) o
        ≡ go_on (λ (m : t.Initializer × ℕ). and_then (typed_members scope asked shape (suc number) rest) (λ others. give (t.initializer m.0 m.1 others)))
        (go_on (λ first. give (first, size_of scope.structs member)) o)
    made member (Made first between) = refl
    made member (Broken cause place) = refl

    at : (o : Option Shape) →
        and_then (wanted wrong_type (first_token_of i) o) (λ member. and_then (typed_initializer scope asked member i) (λ first.
        and_then (typed_members scope asked shape (suc number) rest) (λ others. give (t.initializer first (size_of scope.structs member) others)))) notes
        ≡ and_then (and_then (wanted wrong_type (first_token_of i) o) (λ member. and_then (typed_initializer scope asked member i) (λ first. give (first, size_of scope.structs member))))
        (λ (m : t.Initializer × ℕ). and_then (typed_members scope asked shape (suc number) rest) (λ others. give (t.initializer m.0 m.1 others))) notes
    at None = refl
    at (Some member) = made member (typed_initializer scope asked member i notes)

  before_and_first : (shape : Shape) (number : ℕ) (list : s.Initializers) (i : s.Initializer) (rest : s.Initializers) (notes : Notes)
      (before : List (Init × ℕ)) (o : Outcome (t.Initializer × ℕ)) (whole : Outcome t.Initializers)
      → whole ≡ and_then (typed_members scope asked shape number list) (λ others. give (inits_before before others)) notes
      → list ≡ s.initializer i rest
      → typed_member scope asked shape number i notes ≡ o
      → whole ≡ go_on (λ others. give (inits_before before others)) (go_on (λ (m : t.Initializer × ℕ). and_then (typed_members scope asked shape (suc number) rest) (λ others. give (t.initializer m.0 m.1 others))) o)
  before_and_first shape number list i rest notes before o whole same is member =
      same ∙ ap (λ l. and_then (typed_members scope asked shape number l) (λ others. give (inits_before before others)) notes) is
      ∙ ap (go_on (λ others. give (inits_before before others))) (member_first shape number i rest notes)
      ∙ ap (λ m. go_on (λ others. give (inits_before before others)) (go_on (λ (m : t.Initializer × ℕ). and_then (typed_members scope asked shape (suc number) rest) (λ others. give (t.initializer m.0 m.1 others))) m)) member

  pub members_step : (shape : Shape) (number : ℕ) (list : s.Initializers) (i : s.Initializer) (rest : s.Initializers) (notes between : Notes)
      (before : List (Init × ℕ)) (member : Init × ℕ) (whole : Outcome t.Initializers)
      → whole ≡ and_then (typed_members scope asked shape number list) (λ others. give (inits_before before others)) notes
      → list ≡ s.initializer i rest
      → typed_member scope asked shape number i notes ≡ Made (member_view member) between
      → whole ≡ and_then (typed_members scope asked shape (number + 1) rest) (λ others. give (inits_before (before ++ member ∷ []) others)) between
  members_step shape number list i rest notes between before member whole same is made =
      let next : number + 1 ≡ suc number = omega arith in
      rw next (before_and_first shape number list i rest notes before (Made (member_view member) between) whole same is made
      ∙ give_before before member (typed_members scope asked shape (suc number) rest between))

  members_broken : (shape : Shape) (number : ℕ) (list : s.Initializers) (i : s.Initializer) (rest : s.Initializers) (notes : Notes)
      (before : List (Init × ℕ)) (cause : Cause) (place : Place) (whole : Outcome t.Initializers)
      → whole ≡ and_then (typed_members scope asked shape number list) (λ others. give (inits_before before others)) notes
      → list ≡ s.initializer i rest
      → typed_member scope asked shape number i notes ≡ Broken cause place
      → whole ≡ Broken cause place
  members_broken shape number list i rest notes before cause place whole same is made =
      before_and_first shape number list i rest notes before (Broken cause place) whole same is made

  -- a fault of the member is one of the whole
  pub member_fault : (shape : Shape) (number : ℕ) (list : s.Initializers) (i : s.Initializer) (rest : s.Initializers) (notes : Notes)
      (before : List (Init × ℕ)) (fault : Fault) (after : TheNotes) (whole : Outcome t.Initializers)
      → whole ≡ and_then (typed_members scope asked shape number list) (λ others. give (inits_before before others)) notes
      → list ≡ s.initializer i rest
      → Becomes member_view (typed_member scope asked shape number i notes) (Err fault) after
      → Becomes inits_view whole (Err fault) after
  member_fault shape number list i rest notes before (F.Broken b) after whole same is made =
      members_broken shape number list i rest notes before (cause_view b.cause) b.place whole same is made
  member_fault shape number list i rest notes before F.Memory after whole same is made = tt

pub err_of : (fault : Fault) (result : Result Inits Fault) → IsErrAnd result (λ e. e ≡ fault) → result ≡ Err fault
err_of fault (Ok x) h = absurd h
err_of fault (Err e) h = ap Err h
