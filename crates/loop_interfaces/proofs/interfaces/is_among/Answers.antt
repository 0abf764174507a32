use Rattle.std.proofs.Common.{◌↔◌, Bool, subst, sym}
use Rattle.std.specs.Prelude.{IsTrue}
use Rattle.c_meaning.specs.Interfaces.{StandsIn}
use Rattle.loop_interfaces.proofs.Standing.{found_stands}
use Rattle.loop_interfaces.proofs.interfaces.is_among.Goals as goal

pub returns : goal.returns
returns c =
    subst (λ (b : Bool). IsTrue b ↔ StandsIn c.args.number c.args.rising.now) (sym c.is_ok.ensures.value)
    (found_stands c.args.rising.now c.args.number c.binary_search-found.result c.binary_search-found.ensures.position c.requires)
