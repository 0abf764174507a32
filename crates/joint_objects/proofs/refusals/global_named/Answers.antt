use Rattle.std.proofs.Common.{◌≡◌, ℕ, None, Some, sym, ap, ◌∙◌}
use Rattle.std.specs.List.{position_from}
use Rattle.joint_objects.specs.Globals.{is_global_of}
use Rattle.joint_objects.proofs.SoughtLemmas.{lost, sought_itself}
use Rattle.joint_objects.proofs.refusals.global_named.Goals as goal

pub returns-in-None : goal.returns-in-None
returns-in-None c = sym (lost (is_global_of c.args.name.now) (λ _ object. Some object) c.args.objects.now (sym (c.requires c.args.name.now) ∙ sym c.in-None.ensures))

pub returns-in-Some : goal.returns-in-Some
returns-in-Some c = c.at.ensures ∙ sym (sought_itself (is_global_of c.args.name.now) c.args.objects.now c.in-Some.number (sym (c.requires c.args.name.now) ∙ sym c.in-Some.ensures))
