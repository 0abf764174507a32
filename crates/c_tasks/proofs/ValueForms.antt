-- Expressions: the tasks that give a value give what the expression means.
use Rattle.std.proofs.Common.{◌≡◌, ℕ, ◌+◌, ◌≤◌, Result, Ok, Err, OnOk, ap, arith}
use Rattle.rvt_tree.specs.declared.programs.Program.{Program}
use Rattle.rvt_tree.specs.declared.expressions.Expr.{Expr}
use Rattle.rvt_tree.specs.Views.{expr_view}
use Rattle.c_meaning.specs.Outcomes.{State}
use Rattle.c_meaning.specs.Expressions.{value_of}
use Rattle.c_meaning.specs.Runs.{stepping}
use Rattle.c_tasks.specs.Weights.{expression_weight}

pub on_ok : {A E : Type 0} {P Q : Type 0} (r : Result A E) → (P → Q) → OnOk r P → OnOk r Q
on_ok (Ok a) f h = f h
on_ok (Err e) f h = h

-- what an expression is, by its tree
pub is_expression : (e tree : Expr) → e ≡ tree → (program : Program) (d : ℕ) (s : State ℕ) → value_of program (stepping program d) (expr_view e) s ≡ value_of program (stepping program d) (expr_view tree) s
is_expression e tree is program d s = ap (λ x. value_of program (stepping program d) (expr_view x) s) is

pub weight_is : (e tree : Expr) → e ≡ tree → expression_weight (expr_view e) ≡ expression_weight (expr_view tree)
weight_is e tree is = ap (λ x. expression_weight (expr_view x)) is

pub within_one : (new old task a whole : ℕ) → task ≤ 4 → whole ≡ 8 + a → new ≡ old + task + (1 + a) → new ≤ old + whole
within_one new old task a whole small is e = omega (arith, small, is, e)

pub within_two : (new old task a b whole : ℕ) → task ≤ 4 → whole ≡ 8 + a + b → new ≡ old + task + (1 + b) + (1 + a) → new ≤ old + whole
within_two new old task a b whole small is e = omega (arith, small, is, e)

pub within_more : (new old task whole : ℕ) → task ≤ whole → new ≡ old + task → new ≤ old + whole
within_more new old task whole small e = omega (arith, small, e)

-- a list whose first is done at once
pub within_list : (new middle old first rest whole : ℕ) → whole ≡ 4 + first + rest → middle ≡ old + (1 + rest) → new ≤ middle + first → new ≤ old + whole
within_list new middle old first rest whole is e le = omega (arith, is, e, le)
