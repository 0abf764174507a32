-- The parts of a block, one after another.
use Rattle.std.proofs.Common.{◌≡◌, ◌∙◌, List, [], ◌∷◌, ◌++◌, map, ap, refl, sym}
use Rattle.rvt_tree.specs.declared.statements.Stmt.{Stmt}
use Rattle.rvt_tree.specs.Syntax as t
use Rattle.rvt_tree.specs.Views.{stmt_view, stmts_before}
use Rattle.c_syntax.specs.Syntax as s
use Rattle.expression_typing.specs.Progress.{Notes}
use Rattle.expression_typing.specs.Outcomes.{Outcome, Made, Broken, Checking, go_on, and_then, give}
use Rattle.file_typing.specs.Blocks.{Block}
use Rattle.file_typing.specs.LocalDeclarations.{Declared}
use Rattle.file_typing.specs.Statements.{typed_items, typed_item, statements_before, statements_of, ends_with_jump}

pub before_append : (made item : List Stmt) (others : t.Statements) → stmts_before made (statements_before (map stmt_view item) others) ≡ stmts_before (made ++ item) others
before_append [] [] others = refl
before_append [] (x ∷ item) others = ap (t.statement (stmt_view x)) (before_append [] item others)
before_append (x ∷ made) item others = ap (t.statement (stmt_view x)) (before_append made item others)

pub statements_are : (made : List Stmt) → statements_of (map stmt_view made) ≡ stmts_before made t.no_statements
statements_are made = before_append [] made t.no_statements

items_more : (made item : List Stmt) (o : Outcome t.Statements)
    → go_on (λ others. give (stmts_before made others)) (go_on (λ others. give (statements_before (map stmt_view item) others)) o)
    ≡ go_on (λ others. give (stmts_before (made ++ item) others)) o
items_more made item (Made others n) = ap (λ l. Made l n) (before_append made item others)
items_more made item (Broken cause at) = refl

abbrev pub after_item : s.BlockItems → Declared → Checking t.Statements
after_item rest first = and_then (typed_items first.block rest) (λ others. give (statements_before first.statements others))

-- the step of the loop
pub items_step : (whole : Outcome t.Statements) (b b' : Block) (list : s.BlockItems) (part : s.BlockItem) (rest : s.BlockItems) (made item : List Stmt) (n m : Notes)
    → whole ≡ and_then (typed_items b list) (λ others. give (stmts_before made others)) n
    → list ≡ s.block_item part rest
    → typed_item b part n ≡ Made (record { block = b'; statements = map stmt_view item }) m
    → whole ≡ and_then (typed_items b' rest) (λ others. give (stmts_before (made ++ item) others)) m
items_step whole b b' list part rest made item n m is list_is first =
    is ∙ ap (λ l. go_on (λ others. give (stmts_before made others)) (typed_items b l n)) list_is
    ∙ ap (λ o. go_on (λ others. give (stmts_before made others)) (go_on (after_item rest) o)) first
    ∙ items_more made item (typed_items b' rest m)

-- a part that is not the last one says nothing of the end
pub further : (list : s.BlockItems) (p q : s.BlockItem) (rest more : s.BlockItems) → list ≡ s.block_item p rest → rest ≡ s.block_item q more
    → ends_with_jump list ≡ ends_with_jump rest
further list p q rest more e e' = ap ends_with_jump e ∙ ap (λ r. ends_with_jump (s.block_item p r)) e' ∙ sym (ap ends_with_jump e')
