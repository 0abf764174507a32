use Rattle.twin_laws.specs.Laws.{AreTwinsUnder}
use Rattle.joint_twins.proofs.Stands.{paired, stands, are_twins}
use Rattle.joint_twins.proofs.twins.twins_over.Goals as goal

pub returns : goal.returns
returns c =
    let joint = c.args.joint.now in
    let among = c.in_ok-among.among in
    let twins = c.closed_twins-twins.result in
    let are = c.in_ok-among.ensures in
    let within = c.closed_twins-twins.ensures.within in
    let closed = c.closed_twins-twins.ensures.closed in
    let under : AreTwinsUnder twins joint.old joint.new_side = are_twins joint.old joint.new_side joint.pairing among twins are within c.requires closed in
    record {
      candidates = among;
      are_candidates = are;
      stand = stands joint.old joint.new_side joint.pairing among twins are within c.requires;
      within = within;
      paired = paired joint.old joint.new_side joint.pairing among twins are within;
      closed = closed;
      greatest = c.closed_twins-twins.ensures.greatest;
      runs = c.twins_run_alike.ensures under;
      full = c.twins_are_full.ensures under;
      loops = c.twin_loops_are_full.ensures under;
    }
