use Rattle.std.proofs.Common.{◌≡◌, ◌<◌, ◌-◌, ℕ, List, Some, cond, drop, ap, ◌∙◌, arith}
use Rattle.std.specs.Borrow.{Bor}
use Rattle.std.specs.List.{find}
use Rattle.std.specs.Str.{bytes_eq}
use Rattle.version_map.specs.declared.map.Listed.{Listed}
use Rattle.function_pairs.specs.Counterparts.{text_or, text_in, new_side}
use Rattle.function_pairs.proofs.Steps.{find_before, new_side_of}
use Rattle.function_pairs.proofs.counterparts.new_names.Goals as goal

pub lines-preserved : goal.lines-preserved
lines-preserved c =
    let i = c.lines.left - 1 in
    let line = c.index-lines-left.result in
    let positive : 0 < c.lines.left = omega (arith, c.lines-test.true) in
    record {
      within = omega (arith, c.lines.invariant.within);
      named = λ name.
          let key : Bor (List ℕ) = record { ref_ptr = (0, 0); now = name } in
          let before = text_in name c.lines.table in
          let text = c.bytes-in-lines.result in
          let inserted : text_in name c.insert.new.self ≡ cond (bytes_eq c.bytes.result.now name) (Some text) before = c.in_ok-insert.ensures.updates.0 key in
          let key_is : c.bytes.result.now ≡ line.old = c.bytes.ensures in
          let text_is : text.now ≡ line.new = c.bytes-in-lines.ensures in
          ap (text_or name) inserted
          ∙ ap (λ (bytes : List ℕ). text_or name (cond (bytes_eq bytes name) (Some text) before)) key_is
          ∙ new_side_of (bytes_eq line.old name) name text line before (find (λ (l : Listed). bytes_eq l.old name) (drop c.lines.left c.args.lines.now)) text_is (c.lines.invariant.named name)
          ∙ ap (new_side name) (find_before (λ (l : Listed). bytes_eq l.old name) c.args.lines.now i c.lines.left line (omega (arith, positive)) (omega (arith, positive, c.lines.invariant.within)) c.index-lines-left.is);
    }
