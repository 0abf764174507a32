-- A rule that is broken by a step whose result was kept.
use Rattle.std.proofs.Common.{◌≡◌, Result, Err, subst}
use Rattle.rvt_tree.specs.declared.places.Place.{Place}
use Rattle.expression_typing.specs.Outcomes.{Cause, Checking, broken}
use Rattle.typing_base.specs.declared.faults.Fault.{Fault}
use Rattle.typing_base.specs.declared.faults.Fault.TheVariants as F
use Rattle.typing_base.specs.Views.{cause_view}
use Rattle.typing_base.specs.Follows.{Gives}

fault_breaks : {A B C D : Type 0} (view : B → A) (view' : D → C) (step : Checking A) (whole : Checking C) (fault : Fault)
    → Gives view step (Err fault) → ((cause : Cause) (at : Place) → step ≡ broken cause at → whole ≡ broken cause at) → Gives view' whole (Err fault)
fault_breaks view view' step whole (F.Broken b) breaks carries = carries (cause_view b.cause) b.place breaks
fault_breaks view view' step whole F.Memory breaks carries = tt

pub kept_breaks : {A B C D : Type 0} (view : B → A) (view' : D → C) (step : Checking A) (whole : Checking C) (r : Result B Fault) (fault : Fault)
    → r ≡ Err fault → Gives view step r → ((cause : Cause) (at : Place) → step ≡ broken cause at → whole ≡ broken cause at) → Gives view' whole (Err fault)
kept_breaks view view' step whole r fault is breaks carries = fault_breaks view view' step whole fault (subst (Gives view step) is breaks) carries
