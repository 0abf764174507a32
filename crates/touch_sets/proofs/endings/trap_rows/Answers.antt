use Rattle.std.proofs.Common.{◌++◌, get_or, inl, inr}
use Rattle.std.proofs.lemmas.List.{length-map}
use Rattle.std.specs.Global.{Global}
use Rattle.touch_sets.proofs.Places.{row_kept, row_new, flag_read, flag_rows_more, trap_back, earlier_or_last}
use Rattle.std.proofs.Common.{◌≡◌, ◌↔◌, ◌∷◌, [], Bool, true, false, List, Vec, length, sym, ap, ◌∙◌, subst, arith, length-append}
use Rattle.call_graph.specs.Graphs.{At}
use Rattle.rvt_num.specs.declared.values.Trap.{Trap}
use Rattle.touch_sets.specs.Sets.{MayTrap}
use Rattle.touch_sets.specs.Touching.{side_of, flag, flag_rows, trap_number, trap_with}
use Rattle.touch_sets.proofs.endings.trap_rows.Goals as goal

pub traps-preserved : goal.traps-preserved
traps-preserved c =
    let joint = c.args.core.now in
    let side = side_of c.args.old_side in
    let before = c.traps.traps.items in
    let n = c.traps.number in
    let row = c.in_ok-row.row in
    let table = flag_rows before in
    let is : flag_rows c.push.new.self.items ≡ table ++ row.items ∷ [] = ap flag_rows c.in-Ok.ensures.items ∙ flag_rows_more before row in
    let size : length table ≡ n = length-map before (λ (w : Vec Bool Global). w.items) ∙ c.traps.invariant.0 in (
      omega (arith, ap length c.in-Ok.ensures.items, length-append before (row ∷ []), c.traps.invariant.0),
      λ u t lt.
          subst (λ (l : List (List Bool)). (flag l (trap_number t) u ≡ true) ↔ MayTrap joint side u t) (sym is) (elim (earlier_or_last (trap_number t) n lt) [
            | inl l ↦
                subst (λ (b : Bool). (b ≡ true) ↔ MayTrap joint side u t) (sym (row_kept table row.items (trap_number t) u (omega (arith, l, size)))) (c.traps.invariant.1 u t l)
            | inr e ↦
                let kind : c.trap_of.result ≡ t = c.trap_of.ensures ∙ (ap trap_with (sym e) ∙ trap_back t) in
                let new : At row.items u true ↔ MayTrap joint side u t = subst (λ (k : Trap). At row.items u true ↔ MayTrap joint side u k) kind (c.in_ok-row.ensures u) in
                let flagged : (flag (table ++ row.items ∷ []) (trap_number t) u) ≡ get_or row.items u false = row_new table row.items (trap_number t) u (omega (arith, e, size)) in
                (λ h. new.0 ((flag_read row.items u).0 (sym flagged ∙ h)), λ m. flagged ∙ (flag_read row.items u).1 (new.1 m))
          ]),
    )
