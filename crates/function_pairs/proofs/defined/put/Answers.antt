use Rattle.std.proofs.Common.{◌≡◌, ◌&&◌, ℕ, List, Option, Some, cond, ap, sym, ◌∙◌}
use Rattle.std.specs.Borrow.{Bor}
use Rattle.std.specs.Option.{is_some}
use Rattle.std.specs.Str.{bytes_eq}
use Rattle.rvt_tree.specs.declared.statements.Stmt.{Stmt}
use Rattle.function_pairs.specs.Defined.{number_in}
use Rattle.function_pairs.proofs.defined.put.Goals as goal

pub returns-in-None : goal.returns-in-None
returns-in-None c = λ name.
    ap (λ (body : Option Stmt). cond (is_some body && bytes_eq c.args.function.now.name name) (Some c.args.number) (number_in name c.args.table.now)) (sym c.in-None.is)

pub returns-in_ok-insert-in-Some : goal.returns-in_ok-insert-in-Some
returns-in_ok-insert-in-Some c = λ name.
    let key : Bor (List ℕ) = record { ref_ptr = (0, 0); now = name } in
    let number = c.args.number in
    let before = number_in name c.args.table.now in
    let inserted : number_in name c.insert.new.self ≡ cond (bytes_eq c.bytes.result.now name) (Some number) before = c.in_ok-insert-in-Some.ensures.updates.0 key in
    inserted
    ∙ ap (λ (text : List ℕ). cond (bytes_eq text name) (Some number) before) c.bytes.ensures
    ∙ ap (λ (body : Option Stmt). cond (is_some body && bytes_eq c.args.function.now.name name) (Some number) before) (sym c.in-Some.is)
