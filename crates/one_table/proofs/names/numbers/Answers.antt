use Rattle.std.proofs.Common.{◌≡◌, ◌<◌, ◌-◌, ℕ, List, Some, cond, ap, sym, ◌∙◌, arith}
use Rattle.std.specs.Borrow.{Bor}
use Rattle.std.specs.Str.{bytes_eq}
use Rattle.rvt_tree.specs.declared.programs.Function.{Function}
use Rattle.one_table.specs.Names.{named_number}
use Rattle.one_table.proofs.Numbered.{numbered_before}
use Rattle.one_table.proofs.names.numbers.Goals as goal

pub functions-preserved : goal.functions-preserved
functions-preserved c =
    let i = c.functions.left - 1 in
    let function = c.index-functions-left.result in
    let positive : 0 < c.functions.left = omega (arith, c.functions-test.true) in
    record {
      within = omega (arith, c.functions.invariant.within);
      numbered = λ name.
          let key : Bor (List ℕ) = record { ref_ptr = (0, 0); now = name } in
          let inserted : named_number name c.insert.new.self ≡ cond (bytes_eq c.bytes-name.result.now name) (Some i) (named_number name c.functions.table) = c.in_ok-insert.ensures.updates.0 key in
          let name_is : c.bytes-name.result.now ≡ function.name = c.bytes-name.ensures ∙ ap (λ (f : Function). f.name) (sym c.index-functions-left.is) in
          inserted
          ∙ ap (λ (text : List ℕ). cond (bytes_eq text name) (Some i) (named_number name c.functions.table)) name_is
          ∙ ap (λ r. cond (bytes_eq function.name name) (Some i) r) (c.functions.invariant.numbered name)
          ∙ numbered_before c.args.functions.now i c.functions.left function name (omega (arith, positive)) (omega (arith, positive, c.functions.invariant.within)) c.index-functions-left.is;
    }
