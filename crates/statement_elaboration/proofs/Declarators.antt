-- Declarators, one after another.
use Rattle.std.proofs.Common.{◌≡◌, ◌≤◌, ◌∙◌, List, [], ◌∷◌, ◌++◌, map, length, take, drop, get_or, ◌-◌, ap, refl, sym, arith, append_assoc}
use Rattle.std.proofs.lemmas.List.{map-append}
use Rattle.rvt_tree.specs.declared.statements.Stmt.{Stmt}
use Rattle.rvt_tree.specs.Views.{stmt_view}
use Rattle.c_syntax.specs.declared.declarations.Init.{Init}
use Rattle.c_syntax.specs.Views.{init_view}
use Rattle.statement_elaboration.proofs.Lists.{others_are}
use Rattle.rvt_tree.specs.Syntax as t
use Rattle.c_syntax.specs.Syntax as s
use Rattle.expression_typing.specs.Entities.{QualifiedType}
use Rattle.expression_typing.specs.Progress.{Notes}
use Rattle.expression_typing.specs.TypeNames.{base_type}
use Rattle.expression_typing.specs.Outcomes.{Outcome, Made, Broken, Checking, go_on, and_then, give}
use Rattle.file_typing.specs.Blocks.{Block, scope_of}
use Rattle.file_typing.specs.LocalDeclarations.{Declared, typed_declarator, typed_declarators, typed_declaration}
use Rattle.statement_elaboration.specs.Parts.{declared_after}

declared_more : (made : List t.Statement) (one : t.Statement) (o : Outcome Declared)
    → go_on (declared_after made) (go_on (λ (others : Declared). give (record { block = others.block; statements = (one ∷ []) ++ others.statements })) o)
    ≡ go_on (declared_after (made ++ one ∷ [])) o
declared_more made one (Made others m) = ap (λ l. Made (record { block = others.block; statements = l }) m) (sym (append_assoc made (one ∷ []) others.statements))
declared_more made one (Broken cause at) = refl

-- the step of the loop
pub declarators_step : (whole : Outcome Declared) (b b' : Block) (base : QualifiedType) (list : List s.InitDeclarator) (x : s.InitDeclarator) (rest : List s.InitDeclarator)
    (made : List t.Statement) (one : t.Statement) (n m : Notes)
    → whole ≡ and_then (typed_declarators b base list) (declared_after made) n → list ≡ x ∷ rest
    → typed_declarator b base x n ≡ Made (record { block = b'; statements = one ∷ [] }) m
    → whole ≡ and_then (typed_declarators b' base rest) (declared_after (made ++ one ∷ [])) m
declarators_step whole b b' base list x rest made one n m is list_is first =
    is ∙ ap (λ l. go_on (declared_after made) (typed_declarators b base l n)) list_is
    ∙ ap (λ o. go_on (declared_after made) (go_on (λ (first : Declared). and_then (typed_declarators first.block base rest) (λ (others : Declared). give (record { block = others.block; statements = first.statements ++ others.statements }))) o)) first
    ∙ declared_more made one (typed_declarators b' base rest m)

pub declarators_next : (whole : Outcome Declared) (b b' : Block) (base : QualifiedType) (list : List Init) (d : Init)
    (made : List Stmt) (one : Stmt) (n m : Notes)
    → 1 ≤ length list
    → whole ≡ and_then (typed_declarators b base (map init_view list)) (declared_after (map stmt_view made)) n
    → typed_declarator b base (init_view (get_or list 0 d)) n ≡ Made (record { block = b'; statements = stmt_view one ∷ [] }) m
    → whole ≡ and_then (typed_declarators b' base (map init_view (take (length list - 1) (drop 1 list)))) (declared_after (map stmt_view (made ++ one ∷ []))) m
declarators_next whole b b' base [] d made one n m le is first = absurd (let no : ⊥ = omega (arith, le) in no)
declarators_next whole b b' base (x ∷ xs) d made one n m le is first =
    rw (others_are x xs, map-append stmt_view made (one ∷ []))
    (declarators_step whole b b' base (map init_view (x ∷ xs)) (init_view x) (map init_view xs) (map stmt_view made) (stmt_view one) n m is refl first)

pub declaration_at : (b : Block) (d : s.Declaration) (base : QualifiedType) (n : Notes) → base_type (scope_of b) d.base ≡ give base
    → typed_declaration b d n ≡ typed_declarators b base d.inits n
declaration_at b d base n e = ap (λ (rule : Checking QualifiedType). go_on (λ base. typed_declarators b base d.inits) (rule n)) e
