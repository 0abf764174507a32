use Rattle.std.proofs.Common.{◌∷◌, map, sym, ap}
use Rattle.joint_programs.specs.Parts.{struct_parts}
use Rattle.joint_programs.proofs.Seen.{one_seen}
use Rattle.joint_programs.specs.Views.{view_of}
use Rattle.joint_programs.specs.Structs.{number_across, struct_across}
use Rattle.joint_programs.proofs.structs.push_theirs.Goals as goal

pub structs-preserved : goal.structs-preserved
structs-preserved c =
    one_seen struct_parts (map (λ s. struct_across (number_across (view_of c.args.side.now)) (struct_parts s))) c.structs.list.items c.push.new.self.items c.structs.left.now c.in-Some.rest.now c.in-Some.first.now c.in_ok-copy.copy _
    c.in-Some.ensures.cases.0 c.in_ok-push.ensures.items (ap (λ s. s ∷ map (λ s. struct_across (number_across (view_of c.args.side.now)) (struct_parts s)) c.in-Some.rest.now) (sym c.in_ok-copy.ensures)) c.structs.invariant
