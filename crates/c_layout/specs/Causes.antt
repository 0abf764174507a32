-- Why a type has no layout, and when.
use Rattle.std.specs.Prelude.{◌≡◌, ◌<◌, ◌≤◌, ℕ, length, Option, Some, None, ⊤}
use Rattle.c_types.specs.Layout.{Plan}
use Rattle.c_layout.specs.declared.faults.TypeFault.{TypeFault}
use Rattle.c_layout.specs.declared.faults.TypeFault.TheVariants.{Incomplete, TooManyCells, Memory}

abbrev pub cause_of : TypeFault → Option ℕ
cause_of Incomplete = Some 21
cause_of TooManyCells = Some 22
cause_of Memory = None

abbrev pub HasTooMany : Option Plan → Type 0
HasTooMany None = ⊥
HasTooMany (Some plan) = 4096 < length plan.cells

-- a refusal is right for a type that has this plan or none
abbrev pub IsRefusal : Option Plan → TypeFault → Type 0
IsRefusal plan Incomplete = plan ≡ None
IsRefusal plan TooManyCells = HasTooMany plan
IsRefusal plan Memory = ⊤

-- a type has a plan of at most 4,096 cells
abbrev pub HasFew : Option Plan → Type 0
HasFew None = ⊥
HasFew (Some plan) = length plan.cells ≤ 4096
