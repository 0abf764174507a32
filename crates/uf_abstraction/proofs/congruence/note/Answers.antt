use Rattle.std.proofs.Common.{◌∙◌, ℕ, ap, sym}
use Rattle.std.specs.Global.{Global}
use Rattle.std.specs.Prelude.{Vec}
use Rattle.uf_abstraction.proofs.Grouping.{note_by}
use Rattle.uf_abstraction.specs.Groups.{or_none}
use Rattle.uf_abstraction.proofs.congruence.note.Goals as goal
use Rattle.uf_abstraction.proofs.congruence.note.Goals.{in-Some, in-None}

pub returns-in-Ok : goal.returns-in-Ok
returns-in-Ok c = elim c.match-swap_remove.branch [
  | in-Some w ↦
      note_by c.args.groups.now.entries c.swap_remove.new.self.entries c.insert.new.self.entries c.args.name c.args.place _ c.match-swap_remove.places c.swap_remove.result c.swap_remove.ensures.updates.0 c.in-Ok.ensures.updates.0
      c.in_ok-push_place.ensures (ap (λ (v : Vec ℕ Global). v.items) w.places-is ∙ ap or_none (sym w.in-Some.is)) c.swap_remove.ensures.value
  | in-None w ↦
      note_by c.args.groups.now.entries c.swap_remove.new.self.entries c.insert.new.self.entries c.args.name c.args.place _ c.match-swap_remove.places c.swap_remove.result c.swap_remove.ensures.updates.0 c.in-Ok.ensures.updates.0
      c.in_ok-push_place.ensures (ap (λ (v : Vec ℕ Global). v.items) w.places-is ∙ w.new-places.ensures.items ∙ ap or_none (sym w.in-None.is)) c.swap_remove.ensures.value
]
