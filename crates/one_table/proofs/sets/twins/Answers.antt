use Rattle.std.proofs.Common.{subst}
use Rattle.rvt_tree.specs.declared.pairings.Pairing.{Pairing}
use Rattle.c_meaning.specs.Twins.{StandOverOneTable}
use Rattle.twin_check.specs.Sets.{IsWithin, HasEveryClosed}
use Rattle.one_table.specs.Candidates.{candidates_of}
use Rattle.one_table.specs.Tables.{HaveOneTable}
use Rattle.one_table.proofs.Partners.{have_one_name}
use Rattle.one_table.proofs.Stands.{stand}
use Rattle.one_table.proofs.sets.twins.Goals as goal

pub returns : goal.returns
returns c =
    let old = c.args.old.now in
    let new = c.args.new.now in
    let twins = c.closed_twins-twins.result in
    let one : HaveOneTable (candidates_of old new) old new = subst (λ (p : Pairing). HaveOneTable p old new) c.in_ok-pairing.ensures (c.same_tables.ensures.0 c.if-not-same_tables.false) in
    let within : IsWithin twins (candidates_of old new) = subst (λ (p : Pairing). IsWithin twins p) c.in_ok-pairing.ensures c.closed_twins-twins.ensures.within in
    let over : StandOverOneTable twins old new = stand old new twins within one in
    record {
      one_table = one;
      within = within;
      closed = c.closed_twins-twins.ensures.closed;
      greatest = subst (λ (p : Pairing). HasEveryClosed old new p twins) c.in_ok-pairing.ensures c.closed_twins-twins.ensures.greatest;
      stand = over;
      names = λ f g h. have_one_name old new f g (within.functions f g h);
      full = c.twins_are_full.ensures over c.closed_twins-twins.ensures.closed;
      loops = c.twin_loops_are_full.ensures over c.closed_twins-twins.ensures.closed;
    }
