use Rattle.std.proofs.Common.{◌∷◌, map, sym, ap}
use Rattle.joint_programs.specs.Parts.{field_parts}
use Rattle.joint_programs.proofs.Seen.{one_seen}
use Rattle.joint_programs.specs.Views.{view_of}
use Rattle.joint_programs.specs.Structs.{number_across, field_across}
use Rattle.joint_programs.proofs.structs.fields_across.Goals as goal

pub fields-preserved : goal.fields-preserved
fields-preserved c =
    one_seen field_parts (λ fields. map (field_across (number_across (view_of c.args.side.now))) (map field_parts fields)) c.fields.copies.items c.push.new.self.items c.fields.left.now c.in-Some.rest.now c.in-Some.first.now c.in_ok-copy.copy _
    c.in-Some.ensures.cases.0 c.in_ok-push.ensures.items (ap (λ f. f ∷ map (field_across (number_across (view_of c.args.side.now))) (map field_parts c.in-Some.rest.now)) (sym c.in_ok-copy.ensures)) c.fields.invariant
