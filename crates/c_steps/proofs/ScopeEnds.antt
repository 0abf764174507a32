-- The scopes of declarations are left one after another.
use Rattle.std.proofs.Common.{◌≡◌, List, [], ◌∷◌, ◌++◌, refl, ap}
use Rattle.rvt_tree.specs.Views.{stmt_view}
use Rattle.rvt_tree.specs.declared.statements.Init.{Init}
use Rattle.rvt_tree.specs.declared.statements.Stmt.{Stmt}
use Rattle.rvt_tree.specs.declared.statements.Stmt.TheVariants as S
use Rattle.rvt_num.specs.declared.values.Value.{Value}
use Rattle.rvt_tree.specs.declared.expressions.Variable.{Variable}
use Rattle.rvt_tree.specs.declared.expressions.Variable.TheVariants as V
use Rattle.c_places.specs.Kept.{Contents}
use Rattle.c_meaning.specs.Statements.{declared_variable, locals_without}

pub without_more : (variables others : List Variable) (locals : List (List Value)) → locals_without (variables ++ others) locals ≡ locals_without others (locals_without variables locals)
without_more [] others locals = refl
without_more (V.Local number ∷ rest) others locals = without_more rest others _
without_more (V.Object number ∷ rest) others locals = without_more rest others locals

abbrev with_locals : Contents → List (List Value) → Contents
with_locals cells locals = record { locals = locals; store = cells.store; kept = cells.kept }

pub none_declared : (s : Stmt) → ((variable : Variable) → s ≡ S.Declare variable → ⊥) → ((variable : Variable) (init : Init) → s ≡ S.DeclareWith variable init → ⊥) → declared_variable (stmt_view s) ≡ []
none_declared (S.Declare variable) alone with_value = absurd (alone variable refl)
none_declared (S.DeclareWith variable init) alone with_value = absurd (with_value variable init refl)
none_declared (S.Block' p body) alone with_value = refl
none_declared S.Empty alone with_value = refl
none_declared (S.Act a) alone with_value = refl
none_declared S.Break alone with_value = refl
none_declared S.Continue alone with_value = refl
none_declared S.Return alone with_value = refl
none_declared (S.ReturnValue e) alone with_value = refl
none_declared (S.If' test p first) alone with_value = refl
none_declared (S.IfElse' test p first q second) alone with_value = refl
none_declared (S.While' number test p body) alone with_value = refl
none_declared (S.DoWhile' number p body test) alone with_value = refl
none_declared (S.For' number p first test last q body) alone with_value = refl
none_declared (S.Switch' e p groups) alone with_value = refl

abbrev pub leaving : List Variable → Contents → Contents
leaving variables cells = record { locals = locals_without variables cells.locals; store = cells.store; kept = cells.kept }

pub leaving_more : (variables others : List Variable) (cells : Contents) → leaving (variables ++ others) cells ≡ leaving others (leaving variables cells)
leaving_more variables others cells = ap (with_locals cells) (without_more variables others cells.locals)
