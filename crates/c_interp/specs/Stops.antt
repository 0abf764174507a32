-- How a run stopped, and the store that it left.
use Rattle.std.specs.Prelude.{List}
use Rattle.rvt_num.specs.declared.values.End.{End as EndOf}
use Rattle.rvt_num.specs.declared.values.End.TheVariants.{Trapped, Returned}
use Rattle.rvt_num.specs.declared.values.Value.{Value}
use Rattle.c_meaning.specs.Runs.{End, Stop, ByTrap, ByReturn, IsCut, IsDeep}
use Rattle.c_meaning.specs.Runs as meaning
use Rattle.c_interp.specs.declared.machine.Stop.{Stop as StopOf}
use Rattle.c_interp.specs.declared.machine.Stop.TheVariants.{Ended, Cut, Deep}

abbrev pub end_with : EndOf → List Value → End
end_with (Trapped why) store = ByTrap why
end_with (Returned result) store = ByReturn result store

abbrev pub stop_with : StopOf → List Value → Stop
stop_with (Ended end steps) store = meaning.Ended (end_with end store) steps
stop_with Cut store = IsCut
stop_with Deep store = IsDeep
