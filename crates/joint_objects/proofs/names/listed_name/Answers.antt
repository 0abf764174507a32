use Rattle.std.proofs.Common.{◌≡◌, ℕ, List, None, Some, sym, ap, ◌∙◌}
use Rattle.std.specs.List.{position_from}
use Rattle.std.specs.Str.{bytes_eq}
use Rattle.joint_objects.specs.Names.{pair_views}
use Rattle.joint_objects.proofs.SoughtLemmas.{lost, sought_part}
use Rattle.joint_objects.proofs.names.listed_name.Goals as goal

pub returns-in-None : goal.returns-in-None
returns-in-None c = sym (lost (λ names. bytes_eq names.0 c.args.name.now) (λ _ names. Some names.1) (pair_views c.args.pairs.now) (sym (c.requires c.args.name.now) ∙ sym c.in-None.ensures))

pub returns-in-Some : goal.returns-in-Some
returns-in-Some c =
    c.theirs_at.ensures
    ∙ sym (sought_part (λ names. bytes_eq names.0 c.args.name.now) (λ names. names.1) (pair_views c.args.pairs.now) c.in-Some.number (sym (c.requires c.args.name.now) ∙ sym c.in-Some.ensures))
