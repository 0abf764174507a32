-- The header of a `for`, and then its body.
use Rattle.std.proofs.Common.{◌≡◌, ◌∙◌, ℕ, suc, List, map, Option, ap, refl}
use Rattle.rvt_tree.specs.declared.places.Place.{Place}
use Rattle.rvt_tree.specs.declared.statements.Stmt.{Stmt}
use Rattle.rvt_tree.specs.Syntax as t
use Rattle.rvt_tree.specs.Views.{stmt_view, stmts_before}
use Rattle.c_syntax.specs.Syntax as s
use Rattle.expression_typing.specs.Progress.{Notes}
use Rattle.expression_typing.specs.Outcomes.{Outcome, Made, Broken, Checking, go_on, and_then, give}
use Rattle.file_typing.specs.Blocks.{Block, inside, inside_loop}
use Rattle.file_typing.specs.FunctionNotes.{with_loop}
use Rattle.file_typing.specs.LocalDeclarations.{Declared, typed_declaration}
use Rattle.file_typing.specs.Statements.{typed_statement, for_start, for_test, typed_actions, statements_of}
use Rattle.statement_elaboration.proofs.Bodies.{statements_are}
use Rattle.statement_elaboration.specs.Parts.{Start, Header, typed_start, typed_for}

abbrev header_from : Option s.Expression → List s.Action → Start → Checking Header
header_from e last start =
    and_then (for_test start.block e) (λ test.
    and_then (typed_actions start.block last) (λ last.
    give (record { block = start.block; first = start.first; test = test; last = last })))

module _ (number : ℕ) (e : Option s.Expression) (last : List s.Action) (body : s.Statement) where
  abbrev with_body : Header → Checking t.Statement
  with_body header =
      and_then (typed_statement (inside_loop header.block) body) (λ body. give (t.for_loop number header.first header.test header.last body))

  abbrev rest_of : Block → t.Statements → Checking t.Statement
  rest_of block first =
      and_then (for_test block e) (λ test.
      and_then (typed_actions block last) (λ last.
      with_body (record { block = block; first = first; test = test; last = last })))

  acts_last : (block : Block) (first : t.Statements) (test : Option t.Expression) (o : Outcome (List t.Action))
      → go_on (λ last. with_body (record { block = block; first = first; test = test; last = last })) o
      ≡ go_on with_body (go_on (λ last. give (record { block = block; first = first; test = test; last = last })) o)
  acts_last block first test (Made acts n) = refl
  acts_last block first test (Broken cause at) = refl

  test_then : (block : Block) (first : t.Statements) (o : Outcome (Option t.Expression))
      → go_on (λ test. and_then (typed_actions block last) (λ last. with_body (record { block = block; first = first; test = test; last = last }))) o
      ≡ go_on with_body (go_on (λ test. and_then (typed_actions block last) (λ last. give (record { block = block; first = first; test = test; last = last }))) o)
  test_then block first (Made test n) = acts_last block first test (typed_actions block last n)
  test_then block first (Broken cause at) = refl

  started : (o : Outcome Declared)
      → go_on (λ (first : Declared). rest_of first.block (statements_of first.statements)) o
      ≡ go_on with_body (go_on (header_from e last) (go_on (λ (first : Declared). give (record { block = first.block; first = statements_of first.statements })) o))
  started (Made first n) = test_then first.block (statements_of first.statements) (for_test first.block e n)
  started (Broken cause at) = refl

pub for_by_header : (block : Block) (at : Place) (start : s.ForStart) (e : Option s.Expression) (last : List s.Action) (body : s.Statement) (n : Notes)
    → typed_statement block (s.for_loop at start e last body) n ≡ typed_for block start e last body n
for_by_header block at start e last body n = started (suc n.loops) e last body (for_start (inside block) start (with_loop n))

-- a header that begins with a declaration
pub start_declared : (b b' : Block) (start : s.ForStart) (d : s.Declaration) (made : List Stmt) (n m : Notes)
    → start ≡ s.starts_with_declaration d → typed_declaration b d n ≡ Made (record { block = b'; statements = map stmt_view made }) m
    → typed_start b start n ≡ Made (record { block = b'; first = stmts_before made t.no_statements }) m
start_declared b b' start d made n m is e =
    ap (λ s. typed_start b s n) is
    ∙ ap (go_on (λ (first : Declared). give (record { block = first.block; first = statements_of first.statements }))) e
    ∙ ap (λ l. Made (record { block = b'; first = l }) m) (statements_are made)
