-- One more tree at the end of a list is one more tree before the others.
use Rattle.std.proofs.Common.{◌≡◌, ℕ, List, [], ◌∷◌, ◌++◌, ap, refl}
use Rattle.rvt_tree.specs.Syntax.{Arguments, argument, Statements, statement, Action, Initializers, initializer, Groups, labelled}
use Rattle.rvt_tree.specs.Views.{expr_view, act_view, init_view, labels_view, stmt_view, stmts_view, exprs_before, stmts_before, acts_before, inits_before, groups_before}
use Rattle.rvt_tree.specs.declared.expressions.Expr.{Expr}
use Rattle.rvt_tree.specs.declared.statements.Act.{Act}
use Rattle.rvt_tree.specs.declared.statements.Init.{Init}
use Rattle.rvt_tree.specs.declared.statements.Labels.{Labels}
use Rattle.rvt_tree.specs.declared.statements.Stmt.{Stmt}
use Rattle.rvt_tree.specs.declared.statements.Stmts.{Stmts}

pub exprs_before_append : (a : List Expr) (e : Expr) (others : Arguments) → exprs_before (a ++ e ∷ []) others ≡ exprs_before a (argument (expr_view e) others)
exprs_before_append [] e others = refl
exprs_before_append (x ∷ a) e others = ap (argument (expr_view x)) (exprs_before_append a e others)

pub stmts_before_append : (a : List Stmt) (s : Stmt) (others : Statements) → stmts_before (a ++ s ∷ []) others ≡ stmts_before a (statement (stmt_view s) others)
stmts_before_append [] s others = refl
stmts_before_append (x ∷ a) s others = ap (statement (stmt_view x)) (stmts_before_append a s others)

pub acts_before_append : (a : List Act) (s : Act) (others : List Action) → acts_before (a ++ s ∷ []) others ≡ acts_before a (act_view s ∷ others)
acts_before_append [] s others = refl
acts_before_append (x ∷ a) s others = ap (λ rest. act_view x ∷ rest) (acts_before_append a s others)

pub inits_before_append : (a : List (Init × ℕ)) (i : Init × ℕ) (others : Initializers) → inits_before (a ++ i ∷ []) others ≡ inits_before a (initializer (init_view i.0) i.1 others)
inits_before_append [] i others = refl
inits_before_append (x ∷ a) i others = ap (initializer (init_view x.0) x.1) (inits_before_append a i others)

pub groups_before_append : (a : List (Labels × Stmts)) (g : Labels × Stmts) (others : Groups) → groups_before (a ++ g ∷ []) others ≡ groups_before a (labelled (labels_view g.0) (stmts_view g.1) others)
groups_before_append [] g others = refl
groups_before_append (x ∷ a) g others = ap (labelled (labels_view x.0) (stmts_view x.1)) (groups_before_append a g others)
