use Rattle.std.proofs.Common.{not, ◌∙◌, ap}
use Rattle.version_map.specs.Maps.{stands_among}
use Rattle.version_map.proofs.EntryLemmas.{among_shown}
use Rattle.version_map.proofs.names.Names.add.Goals as goal

pub returns-clause-new : goal.returns-clause-new
returns-clause-new c =
    c.in_ok-new.ensures.added ∙ ap not (among_shown c.args.name.now c.self.inside.names.keys ∙ ap (stands_among c.args.name.now) c.self.view_is)
