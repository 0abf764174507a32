-- What the literals of an operation say under an assignment.
use Rattle.std.specs.Prelude.{◌<◌, Bool, true, false, List, length, if◌then◌else◌, Result, Ok, Err}
use Rattle.aig_build.specs.Circuits.{Node, lit_value}
use Rattle.rvt_num.specs.declared.operations.BinOp.{BinOp}
use Rattle.rvt_num.specs.declared.operations.BinOp.TheVariants.{Div, Rem}
use Rattle.rvt_num.specs.declared.values.Trap.{Trap}
use Rattle.rvt_num.specs.declared.values.Trap.TheVariants.{Divide, Quotient, Shift}
use Rattle.rvt_num.specs.Number.{Number}
use Rattle.bit_ops.specs.declared.traps.TrapLits.{TrapLits}

-- the trap whose literal is true, or the number
abbrev pub outcome : List Node → List Bool → TrapLits → Number → Result Number Trap
outcome nodes inputs traps v =
    if lit_value nodes inputs traps.divide then Err Divide
    else (if lit_value nodes inputs traps.quotient then Err Quotient
    else (if lit_value nodes inputs traps.shift then Err Shift else Ok v))

pub record TrapsAreThere (nodes : List Node) (traps : TrapLits) : Type 0 where
  pub divide : traps.divide.node < length nodes
  pub quotient : traps.quotient.node < length nodes
  pub shift : traps.shift.node < length nodes

abbrev pub division_op : Bool → BinOp
division_op true = Div
division_op false = Rem
